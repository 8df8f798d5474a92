-- Lists that are filled one by one, from others that are taken apart.
use Rattle.std.proofs.Common.{◌≡◌, ◌<◌, ◌≤◌, ℕ, zero, suc, ◌+◌, ◌-◌, ◌^◌, List, [], ◌∷◌, ◌++◌, length, refl, sym, ap, ◌∙◌, subst, arith, Bool, true, false, Some}
use Rattle.std.specs.Prelude.{reverse, slice_get, count_by, if◌then◌else◌, slice_index_or}
use Rattle.std.specs.List.{All, range_with_len}
use Rattle.std.proofs.lemmas.Grind.{common_steps}
use Rattle.std.proofs.lemmas.List.Elements.{All-head, All-tail}
use Rattle.std.proofs.lemmas.List.Recursion.{is_count_by}
use Rattle.porch_flat.specs.declared.whole.Command.{Command}
use Rattle.porch_flat.specs.declared.whole.Command.TheVariants as command
use Rattle.porch_flat.specs.declared.whole.Function.{Function}
use Rattle.porch_flat.specs.declared.whole.Flat.{Flat}
use Rattle.porch_flat.specs.whole.Form as form
use Rattle.porch_flat.specs.whole.Form.{Form, form_of}
use Rattle.porch_flat.specs.whole.Places.{commands_of, vars_of}
use Rattle.porch_flat.specs.whole.Rewritten.{leads_to_checkpoint}
use Rattle.std.proofs.lemmas.Option.{slice_get-get_or}
use Rattle.porch_rewrite.specs.Laws.{takes_label, HasFew}
use Rattle.porch_rewrite.specs.Rewriting.{FIRST_LABEL, has_number, numbers_in, next_number, all_with_marks, saving_commands, tables, rewritten_function, rewritten_functions}
use Rattle.porch_rewrite.specs.inside.Marked.{IsFew}
use Rattle.porch_rewrite.proofs.Arriving.{append_more}

range_more_from : (a n : ℕ) → range_with_len a (n + 1) ≡ range_with_len a n ++ (a + n) ∷ []
range_more_from a zero = let none : a + 0 ≡ a = omega arith in rw none refl
range_more_from a (suc n) =
    let more : suc n + 1 ≡ suc (n + 1) = omega arith in
    let same : a + suc n ≡ a + 1 + n = omega arith in
    rw (more, same) (ap (λ l. a ∷ l) (range_more_from (a + 1) n))

pub range_more : (n : ℕ) → range_with_len 0 (n + 1) ≡ range_with_len 0 n ++ n ∷ []
range_more n = let none : 0 + n ≡ n = omega arith in range_more_from 0 n ∙ ap (λ k. range_with_len 0 n ++ k ∷ []) none

pub one_table : (made : List Command) (before count : ℕ) → before < count
    → made ++ tables before (count - before) ≡ (made ++ command.Table (before + 1) (FIRST_LABEL + before) ∷ []) ++ tables (before + 1) (count - (before + 1))
one_table made before count less =
    let same : count - before ≡ suc (count - (before + 1)) = omega (arith, less) in
    rw same (sym (append_more made (command.Table (before + 1) (FIRST_LABEL + before) ∷ []) (tables (before + 1) (count - (before + 1)))))

turned_last : {X : Type 0} (xs ys : List X) (x : X) → xs ≡ ys ++ x ∷ [] → reverse xs ≡ x ∷ reverse ys
turned_last xs ys x h = grind (arith, common_steps, h)

module _ (reaching : ℕ → Bool) where
  pub last_is_few : (xs ys : List Function) (f : Function) → xs ≡ ys ++ f ∷ [] → All (IsFew reaching) (reverse xs) → IsFew reaching f
  last_is_few xs ys f h few = All-head (IsFew reaching) f (reverse ys) (subst (λ l. All (IsFew reaching) l) (turned_last xs ys f h) few)

  pub others_are_few : (xs ys : List Function) (f : Function) → xs ≡ ys ++ f ∷ [] → All (IsFew reaching) (reverse xs) → All (IsFew reaching) (reverse ys)
  others_are_few xs ys f h few = All-tail (IsFew reaching) f (reverse ys) (subst (λ l. All (IsFew reaching) l) (turned_last xs ys f h) few)

  pub one_function : (made : List Function) (xs ys : List Function) (f : Function) → xs ≡ ys ++ f ∷ []
      → made ++ rewritten_functions reaching (length made) (reverse xs)
      ≡ (made ++ rewritten_function reaching (length made) f ∷ []) ++ rewritten_functions reaching (length (made ++ rewritten_function reaching (length made) f ∷ [])) (reverse ys)
  one_function made xs ys f h =
      let long : length (made ++ rewritten_function reaching (length made) f ∷ []) ≡ length made + 1 = grind (arith, common_steps) in
      rw (turned_last xs ys f h, long) (sym (append_more made (rewritten_function reaching (length made) f ∷ []) (rewritten_functions reaching (length made + 1) (reverse ys))))

-- a command that has a call number takes a label
takes_one : (reaching : ℕ → Bool) (f : Form) → leads_to_checkpoint reaching f ≡ true → takes_label f ≡ true
takes_one reaching (form.label k) h = refl
takes_one reaching (form.call r g os) h = refl
takes_one reaching form.checkpoint h = refl
takes_one reaching (form.move v o) h = absurd (cc)
takes_one reaching (form.cast v w) h = absurd (cc)
takes_one reaching (form.operator op v a b) h = absurd (cc)
takes_one reaching (form.complement v o) h = absurd (cc)
takes_one reaching (form.comparison c v a b) h = absurd (cc)
takes_one reaching (form.subobject v within leaf) h = absurd (cc)
takes_one reaching (form.step way v p o) h = absurd (cc)
takes_one reaching (form.difference v p q) h = absurd (cc)
takes_one reaching (form.load v p) h = absurd (cc)
takes_one reaching (form.store p o) h = absurd (cc)
takes_one reaching (form.copy p q) h = absurd (cc)
takes_one reaching (form.kill v) h = absurd (cc)
takes_one reaching (form.allocate zeros v o) h = absurd (cc)
takes_one reaching (form.free p) h = absurd (cc)
takes_one reaching (form.show how v o) h = absurd (cc)
takes_one reaching (form.text v p) h = absurd (cc)
takes_one reaching (form.jump k) h = absurd (cc)
takes_one reaching (form.branch o k) h = absurd (cc)
takes_one reaching form.turn h = absurd (cc)
takes_one reaching (form.return o) h = absurd (cc)
takes_one reaching (form.restore vs) h = absurd (cc)
takes_one reaching (form.table k l) h = absurd (cc)
takes_one reaching (form.saved k l) h = absurd (cc)
takes_one reaching (form.push vs) h = absurd (cc)

abbrev pub tally : {X : Type 0} → (X → Bool) → List X → ℕ
tally p [] = 0
tally p (x ∷ xs) = if p x then 1 + tally p xs else tally p xs

tally_less : {X : Type 0} (p q : X → Bool) (x : X) (xs : List X) (a b : Bool) → p x ≡ a → q x ≡ b → (p x ≡ true → q x ≡ true) → tally p xs ≤ tally q xs → tally p (x ∷ xs) ≤ tally q (x ∷ xs)
tally_less p q x xs true true is it weaker rest = rw (is, it) (omega (arith, rest))
tally_less p q x xs false true is it weaker rest = rw (is, it) (omega (arith, rest))
tally_less p q x xs false false is it weaker rest = rw (is, it) rest
tally_less p q x xs true false is it weaker rest = absurd (let passes : q x ≡ true = weaker is in let both : true ≡ false = sym passes ∙ it in cc)

all_less : {X : Type 0} (p q : X → Bool) (xs : List X) → ((x : X) → p x ≡ true → q x ≡ true) → tally p xs ≤ tally q xs
all_less p q [] weaker = omega arith
all_less p q (x ∷ xs) weaker = tally_less p q x xs (p x) (q x) refl refl (weaker x) (all_less p q xs weaker)

pub tally_is : {X : Type 0} (p : X → Bool) (xs : List X) → tally p xs ≡ count_by p xs
tally_is p xs = is_count_by (tally p) p refl (λ x xs. refl) xs

count_less : {X : Type 0} (p q : X → Bool) (xs : List X) → ((x : X) → p x ≡ true → q x ≡ true) → count_by p xs ≤ count_by q xs
count_less p q xs weaker = let less = all_less p q xs weaker in let own = tally_is p xs in let other = tally_is q xs in omega (arith, less, own, other)

pub few_from : (flat : Flat) → HasFew flat → ((k : ℕ) → length (vars_of (slice_get flat.functions k)) ≤ 2 ^ 31) → (reaching : ℕ → Bool) → All (IsFew reaching) flat.functions
few_from flat few bounded reaching = λ k d inside.
    let here : slice_get flat.functions k ≡ Some (slice_index_or flat.functions k d) = slice_get-get_or flat.functions k d inside in
    let own : commands_of (slice_get flat.functions k) ≡ (slice_index_or flat.functions k d).commands = rw here refl in
    let vars : vars_of (slice_get flat.functions k) ≡ (slice_index_or flat.functions k d).vars = rw here refl in
    record {
      numbers =
          let less = subst (λ (cs : List Command). count_by (λ c. takes_label (form_of c)) cs < FIRST_LABEL) own (few k) in
          let fewer = count_less (has_number reaching) (λ c. takes_label (form_of c)) (slice_index_or flat.functions k d).commands (λ c is. takes_one reaching (form_of c) is) in
          omega (arith, less, fewer);
      variables = subst (λ (vs : List ℕ). length vs ≤ 2 ^ 31) vars (bounded k);
    }

-- what is kept of the functions decides alike
pub leads_alike : (p q : ℕ → Bool) → ((n : ℕ) → p n ≡ q n) → (f : Form) → leads_to_checkpoint p f ≡ leads_to_checkpoint q f
leads_alike p q same (form.call r g os) = same g
leads_alike p q same (form.label k) = refl
leads_alike p q same form.checkpoint = refl
leads_alike p q same (form.move v o) = refl
leads_alike p q same (form.cast v w) = refl
leads_alike p q same (form.operator op v a b) = refl
leads_alike p q same (form.complement v o) = refl
leads_alike p q same (form.comparison c v a b) = refl
leads_alike p q same (form.subobject v within leaf) = refl
leads_alike p q same (form.step way v p' o) = refl
leads_alike p q same (form.difference v p' q') = refl
leads_alike p q same (form.load v p') = refl
leads_alike p q same (form.store p' o) = refl
leads_alike p q same (form.copy p' q') = refl
leads_alike p q same (form.kill v) = refl
leads_alike p q same (form.allocate zeros v o) = refl
leads_alike p q same (form.free p') = refl
leads_alike p q same (form.show how v o) = refl
leads_alike p q same (form.text v p') = refl
leads_alike p q same (form.jump k) = refl
leads_alike p q same (form.branch o k) = refl
leads_alike p q same form.turn = refl
leads_alike p q same (form.return o) = refl
leads_alike p q same (form.restore vs) = refl
leads_alike p q same (form.table k l) = refl
leads_alike p q same (form.saved k l) = refl
leads_alike p q same (form.push vs) = refl

module _ (p q : ℕ → Bool) (same : (n : ℕ) → p n ≡ q n) where
  number_alike : (c : Command) → has_number p c ≡ has_number q c
  number_alike c = leads_alike p q same (form_of c)

  tally_alike : (cs : List Command) → tally (has_number p) cs ≡ tally (has_number q) cs
  tally_alike [] = refl
  tally_alike (c ∷ cs) = rw (number_alike c, tally_alike cs) refl

  numbers_alike : (cs : List Command) → numbers_in p cs ≡ numbers_in q cs
  numbers_alike cs = sym (tally_is (has_number p) cs) ∙ tally_alike cs ∙ tally_is (has_number q) cs

  marks_alike : (out before : ℕ) (cs : List Command) → all_with_marks p out before cs ≡ all_with_marks q out before cs
  marks_alike out before [] = refl
  marks_alike out before (c ∷ cs) = rw (number_alike c, marks_alike out (next_number q before c) cs) refl

  saving_alike : (f : Function) → saving_commands p f ≡ saving_commands q f
  saving_alike f = rw (numbers_alike f.commands, marks_alike (FIRST_LABEL + numbers_in q f.commands) 0 f.commands) refl

  function_alike : (n : ℕ) (f : Function) → rewritten_function p n f ≡ rewritten_function q n f
  function_alike n f = rw (same n, saving_alike f) refl

  pub functions_alike : (n : ℕ) (fs : List Function) → rewritten_functions p n fs ≡ rewritten_functions q n fs
  functions_alike n [] = refl
  functions_alike n (f ∷ fs) = rw (function_alike n f, functions_alike (n + 1) fs) refl

pub few_numbers : (flat : Flat) → HasFew flat → (reaching : ℕ → Bool) (k : ℕ) (f : Function) → slice_get flat.functions k ≡ Some f → numbers_in reaching f.commands < FIRST_LABEL
few_numbers flat few reaching k f at =
    let own : commands_of (slice_get flat.functions k) ≡ f.commands = rw at refl in
    let less = subst (λ (cs : List Command). count_by (λ c. takes_label (form_of c)) cs < FIRST_LABEL) own (few k) in
    let fewer = count_less (has_number reaching) (λ c. takes_label (form_of c)) f.commands (λ c is. takes_one reaching (form_of c) is) in
    omega (arith, less, fewer)
