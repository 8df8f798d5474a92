-- The values of options.
use Rattle.std.proofs.Common.{◌≡◌, ◌≤◌, ℕ, List, [], ◌∷◌, Bool, true, false, ◌&&◌, length, refl, sym, subst, arith, ◌⊎◌, inl, inr}
use Rattle.std.proofs.lemmas.Bool.Decides.{nat_tests}
use lib.Pointwise.{bytes_decides}
use Rattle.std.specs.Prelude.{Some, None, nat_le, if◌then◌else◌, cond, codes}
use Rattle.std.specs.declared.option.Option.{Option}
use Rattle.std.specs.List.{list_all}
use Rattle.std.specs.Option.{option_map}
use Rattle.std.specs.Str.{bytes_eq}
use Rattle.std.specs.Map.{lookup}
use Rattle.porch_values.specs.declared.widths.Widths.{Widths as WidthSet}
use Rattle.porch_session.specs.declared.limits.TheConstants.{MOST_TURNS, LEAST_STACK, MOST_STACK, LEAST_HEAP, MOST_HEAP}
use Rattle.porch_words.specs.declared.value.TheConstants.{MOST_DIGITS, MOST_NAME}
use Rattle.porch_words.specs.declared.command.Command.{Command}
use Rattle.porch_words.specs.declared.option.Key.{Key}
use Rattle.porch_words.specs.declared.option.Key.TheVariants.{Layout, Every, Turns, Stack, Heap, Widths}
use Rattle.porch_words.specs.Spelling.{has_option, is_digit, decimal_of, is_layout_byte, IsNumber, IsLayoutName}
use Rattle.porch_words.specs.Orders.{Setting, layout, every, turns, stack, heap, widths, key_of, narrow, wide, both, AreWidths, only_narrow, only_wide, both_widths, IsValue, Given, with_setting, is_new}
use Rattle.porch_words.specs.inside.Reading.{within, number_of, is_layout_name, widths_of, setting_of, put}

none_some : {X : Type 0} (x : X) → let o : Option X = None in o ≡ Some x → ⊥
none_some x e = cc

same_some : {X : Type 0} (x y : X) → Some x ≡ Some y → x ≡ y
same_some x y e = cc

-- what an `if` without an else gives
given : {X : Type 0} (b : Bool) (o : Option X) (x : X) → (if b then o else None) ≡ Some x → (b ≡ true) × (o ≡ Some x)
given true o x e = (refl, e)
given false o x e = absurd (none_some x e)

both_true : (a b : Bool) → (a && b) ≡ true → (a ≡ true) × (b ≡ true)
both_true true true e = (refl, refl)
both_true true false e = absurd (let x = e in cc)
both_true false b e = absurd (let x = e in cc)

pub number_gives : (least most : ℕ) (w : List ℕ) (n : ℕ) → number_of least most w ≡ Some n → IsNumber least most w n
unfolding number_of
number_gives least most w n e =
    let g = given ((nat_le 1 (length w) && nat_le (length w) MOST_DIGITS) && list_all is_digit w) (within least most (Some (decimal_of w))) n e in
    let t = both_true (nat_le 1 (length w) && nat_le (length w) MOST_DIGITS) (list_all is_digit w) g.0 in
    let l = both_true (nat_le 1 (length w)) (nat_le (length w) MOST_DIGITS) t.0 in
    let i = given (nat_le least (decimal_of w) && nat_le (decimal_of w) most) (Some (decimal_of w)) n g.1 in
    let b = both_true (nat_le least (decimal_of w)) (nat_le (decimal_of w) most) i.0 in
    let value = same_some (decimal_of w) n i.1 in
    let low : least ≤ n = grind (arith, nat_tests) in
    let high : n ≤ most = grind (arith, nat_tests) in
    record {
      some = grind (arith, nat_tests);
      short = grind (arith, nat_tests);
      digits = t.1;
      value = value;
      within = record { low = low; high = high };
    }

pub number_takes : (least most : ℕ) (w : List ℕ) (n : ℕ) → IsNumber least most w n → number_of least most w ≡ Some n
unfolding number_of
number_takes least most w n h =
    let one : nat_le 1 (length w) ≡ true = let p = h.some in grind (arith, nat_tests) in
    let few : nat_le (length w) MOST_DIGITS ≡ true = let p = h.short in grind (arith, nat_tests) in
    let low : nat_le least n ≡ true = let p = h.within.low in grind (arith, nat_tests) in
    let high : nat_le n most ≡ true = let p = h.within.high in grind (arith, nat_tests) in
    rw (one, few, h.digits, h.value, low, high) refl

name_takes : (w : List ℕ) → IsLayoutName w → is_layout_name w ≡ true
name_takes w h =
    let one : nat_le 1 (length w) ≡ true = let p = h.some in grind (arith, nat_tests) in
    let few : nat_le (length w) MOST_NAME ≡ true = let p = h.short in grind (arith, nat_tests) in
    rw (one, few, h.bytes) refl

at_test : (w k : List ℕ) (v x : WidthSet) (r : Option WidthSet) (b : Bool) → (b ≡ true → w ≡ k) → cond b (Some v) r ≡ Some x → ((w ≡ k) × (v ≡ x)) ⊎ (r ≡ Some x)
at_test w k v x r true is e = inl (is refl, same_some v x e)
at_test w k v x r false is e = inr e

pub widths_give : (w : List ℕ) (s : WidthSet) → widths_of w ≡ Some s → AreWidths w s
widths_give w s e =
    let a = at_test w (codes "32") narrow s (lookup (bytes_eq w) ((codes "64", wide) ∷ (codes "32,64", both) ∷ [])) (bytes_eq w (codes "32")) (bytes_decides w (codes "32")).0 e in
    elim a [ inl h ↦ subst (λ x. AreWidths w x) h.1 (only_narrow h.0) | inr f ↦ second f ]
  where
    third : lookup (bytes_eq w) ((codes "32,64", both) ∷ []) ≡ Some s → AreWidths w s
    third g =
        let a = at_test w (codes "32,64") both s None (bytes_eq w (codes "32,64")) (bytes_decides w (codes "32,64")).0 g in
        elim a [ inl h ↦ subst (λ x. AreWidths w x) h.1 (both_widths h.0) | inr n ↦ absurd (none_some s n) ]

    second : lookup (bytes_eq w) ((codes "64", wide) ∷ (codes "32,64", both) ∷ []) ≡ Some s → AreWidths w s
    second f =
        let a = at_test w (codes "64") wide s (lookup (bytes_eq w) ((codes "32,64", both) ∷ [])) (bytes_eq w (codes "64")) (bytes_decides w (codes "64")).0 f in
        elim a [ inl h ↦ subst (λ x. AreWidths w x) h.1 (only_wide h.0) | inr g ↦ third g ]

pub widths_take : (w : List ℕ) (s : WidthSet) → AreWidths w s → widths_of w ≡ Some s
widths_take w s (only_narrow e) = rw e refl
widths_take w s (only_wide e) = rw e refl
widths_take w s (both_widths e) = rw e refl

-- what a setting's value gives
mapped : {X : Type 0} (f : X → Setting) (o : Option X) (s : Setting) → option_map f o ≡ Some s → (x : X) × (o ≡ Some x) × (f x ≡ s)
mapped f None s e = absurd (none_some s e)
mapped f (Some x) s e = (x, refl, same_some (f x) s e)

-- the setting that a value gives has the option's key, and the value is its own
abbrev Gives : Key → List ℕ → Setting → Type 0
Gives k v s = (key_of s ≡ k) × IsValue v s

pub setting_gives : (k : Key) (v : List ℕ) (s : Setting) → setting_of k v ≡ Some s → Gives k v s
setting_gives Layout v s e = let g = named v s (is_layout_name v) refl e in subst (λ x. Gives Layout v x) g.1 (refl, (g.0, refl))
  where
    named : (v : List ℕ) (s : Setting) (b : Bool) → b ≡ is_layout_name v → (if b then Some (layout v) else None) ≡ Some s → IsLayoutName v × (layout v ≡ s)
    named v s false t e = absurd (none_some s e)
    named v s true t e =
        let a = both_true (nat_le 1 (length v) && nat_le (length v) MOST_NAME) (list_all is_layout_byte v) (sym t) in
        let l = both_true (nat_le 1 (length v)) (nat_le (length v) MOST_NAME) a.0 in
        (record { some = grind (arith, nat_tests); short = grind (arith, nat_tests); bytes = a.1 }, same_some (layout v) s e)
setting_gives Every v s e = let g = mapped every (number_of 1 MOST_TURNS v) s e in subst (λ x. Gives Every v x) g.2 (refl, number_gives 1 MOST_TURNS v g.0 g.1)
setting_gives Turns v s e = let g = mapped turns (number_of 1 MOST_TURNS v) s e in subst (λ x. Gives Turns v x) g.2 (refl, number_gives 1 MOST_TURNS v g.0 g.1)
setting_gives Stack v s e = let g = mapped stack (number_of LEAST_STACK MOST_STACK v) s e in subst (λ x. Gives Stack v x) g.2 (refl, number_gives LEAST_STACK MOST_STACK v g.0 g.1)
setting_gives Heap v s e = let g = mapped heap (number_of LEAST_HEAP MOST_HEAP v) s e in subst (λ x. Gives Heap v x) g.2 (refl, number_gives LEAST_HEAP MOST_HEAP v g.0 g.1)
setting_gives Widths v s e = let g = mapped widths (widths_of v) s e in subst (λ x. Gives Widths v x) g.2 (refl, widths_give v g.0 g.1)

pub setting_takes : (v : List ℕ) (s : Setting) → IsValue v s → setting_of (key_of s) v ≡ Some s
setting_takes v (layout n) h = rw (name_takes v h.0, h.1) refl
setting_takes v (every n) h = rw (number_takes 1 MOST_TURNS v n h) refl
setting_takes v (turns n) h = rw (number_takes 1 MOST_TURNS v n h) refl
setting_takes v (stack n) h = rw (number_takes LEAST_STACK MOST_STACK v n h) refl
setting_takes v (heap n) h = rw (number_takes LEAST_HEAP MOST_HEAP v n h) refl
setting_takes v (widths w) h = rw (widths_take v w h) refl

-- what one option gives behind others
pub record Puts (c : Command) (g : Given) (k : Key) (v : List ℕ) (h : Given) : Type 0 where
  pub setting : Setting
  pub key : key_of setting ≡ k
  pub value : IsValue v setting
  pub has : has_option c k ≡ true
  pub new : is_new g k ≡ true
  pub same : with_setting g setting ≡ h

pub put_gives : (c : Command) (g : Given) (k : Key) (v : List ℕ) (h : Given) → put c g k v ≡ Some h → Puts c g k v h
put_gives c g k v h e =
    let t = given (has_option c k && is_new g k) (option_map (with_setting g) (setting_of k v)) h e in
    let a = both_true (has_option c k) (is_new g k) t.0 in
    of (setting_of k v) refl t.1 a
  where
    of : (o : Option Setting) → setting_of k v ≡ o → option_map (with_setting g) o ≡ Some h → (has_option c k ≡ true) × (is_new g k ≡ true) → Puts c g k v h
    of None s m a = absurd (none_some h m)
    of (Some x) s m a =
        let gives = setting_gives k v x s in
        record { setting = x; key = gives.0; value = gives.1; has = a.0; new = a.1; same = same_some (with_setting g x) h m }

pub put_takes : (c : Command) (g : Given) (v : List ℕ) (s : Setting) → IsValue v s → has_option c (key_of s) ≡ true → is_new g (key_of s) ≡ true → put c g (key_of s) v ≡ Some (with_setting g s)
put_takes c g v s h has new = rw (has, new, setting_takes v s h) refl
