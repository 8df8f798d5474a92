-- How many commands stand for those of a function from one on; so which of two places comes first.
use Rattle.std.proofs.Common.{◌≡◌, ◌<◌, ◌≤◌, ℕ, zero, suc, ◌+◌, List, [], ◌∷◌, ◌++◌, length, drop, refl, sym, ap, ◌∙◌, subst, arith, Bool, true, false, Option, Some, None}
use Rattle.std.specs.Prelude.{slice_get, ◌-◌, nat_lt, ◌||◌, if◌then◌else◌}
use Rattle.std.specs.Option.{option_map}
use Rattle.std.proofs.lemmas.Bool.Decides.{nat_tests}
use Rattle.std.proofs.lemmas.Grind.{common_steps}
use Rattle.porch_flat.specs.declared.whole.Command.{Command}
use Rattle.porch_flat.specs.declared.whole.Function.{Function}
use Rattle.porch_flat.specs.whole.Form as form
use Rattle.porch_flat.specs.whole.Form.{Form, form_of, is_turn, jump_of, label_of}
use Rattle.porch_flat.specs.whole.Places.{is_number, place_of_label}
use Rattle.porch_flat.specs.whole.Rewritten.{passes, leads_to_checkpoint}
use Rattle.porch_flat.specs.whole.Rules.{may_lead, leads_well}
use Rattle.porch_rewrite.specs.Rewriting.{FIRST_LABEL, has_number, with_marks, next_number, all_with_marks, way_out, back, saving_commands, with_commands}
use Rattle.porch_rewrite.proofs.Arriving.{is_label, find, position_is, some_suc, drop_next, drop_here, drop_some, label_found, unnumbered_form}

pub length_append : {X : Type 0} (xs ys : List X) → length (xs ++ ys) ≡ length xs + length ys
length_append xs ys = grind (arith, common_steps)

length_drop : {X : Type 0} (n : ℕ) (xs : List X) → length (drop n xs) ≡ length xs - n
length_drop n xs = grind (arith, common_steps)

turn_unnumbered : (reaching : ℕ → Bool) (f : Form) → is_turn f ≡ true → leads_to_checkpoint reaching f ≡ false
turn_unnumbered reaching form.turn h = refl
turn_unnumbered reaching (form.label k) h = absurd (cc)
turn_unnumbered reaching (form.call r g os) h = absurd (cc)
turn_unnumbered reaching form.checkpoint h = absurd (cc)
turn_unnumbered reaching (form.move v o) h = absurd (cc)
turn_unnumbered reaching (form.cast v w) h = absurd (cc)
turn_unnumbered reaching (form.operator op v a b) h = absurd (cc)
turn_unnumbered reaching (form.complement v o) h = absurd (cc)
turn_unnumbered reaching (form.comparison c v a b) h = absurd (cc)
turn_unnumbered reaching (form.subobject v within leaf) h = absurd (cc)
turn_unnumbered reaching (form.step way v p o) h = absurd (cc)
turn_unnumbered reaching (form.difference v p q) h = absurd (cc)
turn_unnumbered reaching (form.load v p) h = absurd (cc)
turn_unnumbered reaching (form.store p o) h = absurd (cc)
turn_unnumbered reaching (form.copy p q) h = absurd (cc)
turn_unnumbered reaching (form.kill v) h = absurd (cc)
turn_unnumbered reaching (form.allocate zeros v o) h = absurd (cc)
turn_unnumbered reaching (form.free p) h = absurd (cc)
turn_unnumbered reaching (form.show how v o) h = absurd (cc)
turn_unnumbered reaching (form.text v p) h = absurd (cc)
turn_unnumbered reaching (form.jump k) h = absurd (cc)
turn_unnumbered reaching (form.branch o k) h = absurd (cc)
turn_unnumbered reaching (form.return o) h = absurd (cc)
turn_unnumbered reaching (form.restore vs) h = absurd (cc)
turn_unnumbered reaching (form.table k l) h = absurd (cc)
turn_unnumbered reaching (form.saved k l) h = absurd (cc)
turn_unnumbered reaching (form.push vs) h = absurd (cc)

module _ (reaching : ℕ → Bool) where
  abbrev pub size : List Command → ℕ
  size [] = 0
  size (c ∷ cs) = (if has_number reaching c then 3 else 1) + size cs

  size_by : (out before : ℕ) (c : Command) (rest : List Command) (b : Bool) → has_number reaching c ≡ b → length (with_marks reaching out before c ++ rest) ≡ (if has_number reaching c then 3 else 1) + length rest
  size_by out before c rest true is = rw is (omega arith)
  size_by out before c rest false is = rw is (omega arith)

  pub size_is : (out before : ℕ) (cs : List Command) → length (all_with_marks reaching out before cs) ≡ size cs
  size_is out before [] = refl
  size_is out before (c ∷ cs) =
      size_by out before c (all_with_marks reaching out (next_number reaching before c) cs) (has_number reaching c) refl
      ∙ ap (λ k. (if has_number reaching c then 3 else 1) + k) (size_is out (next_number reaching before c) cs)

  size_later : (cs : List Command) (n : ℕ) → size (drop n cs) ≤ size cs
  size_later [] zero = omega arith
  size_later [] (suc n) = omega arith
  size_later (c ∷ cs) zero = omega arith
  size_later (c ∷ cs) (suc n) = let rest = size_later cs n in by_number (has_number reaching c) (size_later cs n)
    where
      by_number : (b : Bool) → size (drop n cs) ≤ size cs → size (drop n cs) ≤ (if b then 3 else 1) + size cs
      by_number true le = omega (arith, le)
      by_number false le = omega (arith, le)

  abbrev no_commands : List Command
  no_commands = []

  drop_empty : (n : ℕ) → drop n no_commands ≡ []
  drop_empty zero = refl
  drop_empty (suc n) = refl

  drop_more_of : (cs : List Command) (i k : ℕ) → drop (i + k) cs ≡ drop k (drop i cs)
  drop_more_of cs zero k = let none : 0 + k ≡ k = omega arith in rw none refl
  drop_more_of [] (suc i) k = drop_empty (suc i + k) ∙ sym (drop_empty k)
  drop_more_of (c ∷ cs) (suc i) k = let same : suc i + k ≡ suc (i + k) = omega arith in rw same (drop_more_of cs i k)

  module _ (f : Function) where
    abbrev made : List Command
    made = saving_commands reaching f

    -- a place of the rewritten function is known by what stands from it on
    from_size : (place before : ℕ) (cs : List Command) → drop place made ≡ all_with_marks reaching (way_out reaching f) before cs ++ back reaching f → length made - place ≡ size cs + 2
    from_size place before cs at =
        sym (length_drop place made) ∙ ap (λ (l : List Command). length l) at ∙ length_append (all_with_marks reaching (way_out reaching f) before cs) (back reaching f)
        ∙ ap (λ k. k + 2) (size_is (way_out reaching f) before cs)

    -- commands stand from a place on
    abbrev pub Rests : ℕ → ℕ → List Command → Type 0
    Rests place before cs = drop place made ≡ all_with_marks reaching (way_out reaching f) before cs ++ back reaching f

    -- a later command of the function stands later
    later_there : (q there before i to : ℕ) (c : Command) (rest : List Command) → drop q made ≡ c ∷ rest → size (drop (i + 1) f.commands) + 2 ≤ length rest → i < to → Rests there before (drop to f.commands)
        → q < there
    later_there q there before i to c rest here long less at =
        let mine : length made - q ≡ 1 + length rest = sym (length_drop q made) ∙ ap (λ (l : List Command). length l) here ∙ (omega arith) in
        let other = from_size there before (drop to f.commands) at in
        let split : drop to f.commands ≡ drop (to - (i + 1)) (drop (i + 1) f.commands) = (let same : i + 1 + (to - (i + 1)) ≡ to = omega (arith, less) in ap (λ k. drop k f.commands) (sym same) ∙ drop_more_of f.commands (i + 1) (to - (i + 1))) in
        let fewer : size (drop to f.commands) ≤ size (drop (i + 1) f.commands) = subst (λ l. size l ≤ size (drop (i + 1) f.commands)) (sym split) (size_later (drop (i + 1) f.commands) (to - (i + 1))) in
        omega (arith, mine, other, fewer, long)

    -- two places before the same commands are one
    same_place : (p q before before' : ℕ) (cs : List Command) → Rests p before cs → Rests q before' cs → p ≡ q
    same_place p q before before' cs a b =
        let mine = from_size p before cs a in let other = from_size q before' cs b in omega (arith, mine, other)

    number_of_label : (n : ℕ) (g : Form) → is_number n (label_of g) ≡ true → label_of g ≡ Some n
    number_of_label n g h = by_label (label_of g) h
      where
        by_label : (o : Option ℕ) → is_number n o ≡ true → o ≡ Some n
        by_label None h = absurd (cc)
        by_label (Some m) h = let same : n ≡ m = grind (arith, nat_tests, h) in rw same refl

    -- a label that stands once stands once there, too
    pub label_once : (n : ℕ) → n < FIRST_LABEL → (i q before : ℕ) → place_of_label f.commands n ≡ Some i → Rests q before (drop i f.commands) → place_of_label made n ≡ Some q
    label_once n less i q before found at =
        let there = label_found reaching f n less i found in
        there.found ∙ ap (λ k. Some k) (same_place there.there q there.before before (drop i f.commands) there.rest at)

    passed : (o : Option Command) (test : Command → Bool) → passes test o ≡ true → (c : Command) × ((o ≡ Some c) × (test c ≡ true))
    passed None test h = absurd (cc)
    passed (Some c) test h = (c, (refl, h))

    found_by : (p : Command → Bool) (cs : List Command) (to : ℕ) → find p cs ≡ Some to → (c : Command) × ((slice_get cs to ≡ Some c) × (p c ≡ true))
    found_by p [] to h = absurd (cc)
    found_by p (c ∷ cs) to h = found_first (p c) refl (λ k g. found_by p cs k g)
      where
        found_first : (b : Bool) → p c ≡ b → ((k : ℕ) → find p cs ≡ Some k → (d : Command) × ((slice_get cs k ≡ Some d) × (p d ≡ true))) → (d : Command) × ((slice_get (c ∷ cs) to ≡ Some d) × (p d ≡ true))
        found_first true is more =
            let first : 0 ≡ to = (let at : Some 0 ≡ Some to = subst (λ b. (if b then Some 0 else option_map (λ k. suc k) (find p cs)) ≡ Some to) is h in cc) in
            (c, (subst (λ k. slice_get (c ∷ cs) k ≡ Some c) first refl, is))
        found_first false is more =
            let at = some_suc (find p cs) to (subst (λ b. (if b then Some 0 else option_map (λ k. suc k) (find p cs)) ≡ Some to) is h) in
            let rest = more at.0 at.1.0 in
            (rest.0, (subst (λ k. slice_get (c ∷ cs) k ≡ Some rest.0) (sym at.1.1) rest.1.0, rest.1.1))

    abbrev f' : Function
    f' = with_commands f made

    turn_behind : (n : ℕ) → n < FIRST_LABEL → (to there before : ℕ) → place_of_label f.commands n ≡ Some to → Rests there before (drop to f.commands)
        → passes (λ c. is_turn (form_of c)) (slice_get f.commands (to + 1)) ≡ true → passes (λ c. is_turn (form_of c)) (slice_get made (there + 1)) ≡ true
    turn_behind n less to there before found at turn =
        let label = found_by (is_label n) f.commands to (sym (position_is (is_label n) f.commands) ∙ found) in
        let next = passed (slice_get f.commands (to + 1)) (λ c. is_turn (form_of c)) turn in
        let plain : has_number reaching label.0 ≡ false = unnumbered_form reaching n (form_of label.0) label.1.1 in
        let plain' : has_number reaching next.0 ≡ false = turn_unnumbered reaching (form_of next.0) next.1.1 in
        let own : drop to f.commands ≡ label.0 ∷ next.0 ∷ drop (to + 1 + 1) f.commands = drop_some f.commands to label.0 label.1.0 ∙ ap (λ l. label.0 ∷ l) (drop_some f.commands (to + 1) next.0 next.1.0) in
        let two : drop there made ≡ label.0 ∷ next.0 ∷ (all_with_marks reaching (way_out reaching f) before (drop (to + 1 + 1) f.commands) ++ back reaching f) =
        at ∙ ap (λ cs. all_with_marks reaching (way_out reaching f) before cs ++ back reaching f) own ∙ (rw (plain, plain') refl) in
        let here = drop_here made (there + 1) next.0 (all_with_marks reaching (way_out reaching f) before (drop (to + 1 + 1) f.commands) ++ back reaching f) (drop_next made there label.0 (next.0 ∷ (all_with_marks reaching (way_out reaching f) before (drop (to + 1 + 1) f.commands) ++ back reaching f)) two) in
        rw here next.1.1

    may_lead_there : (n : ℕ) → n < FIRST_LABEL → (i q : ℕ) (c : Command) (rest : List Command) → drop q made ≡ c ∷ rest → size (drop (i + 1) f.commands) + 2 ≤ length rest
        → (o : Option ℕ) → place_of_label f.commands n ≡ o → may_lead f i o ≡ true → may_lead f' q (place_of_label made n) ≡ true
    may_lead_there n less i q c rest here long None found leads = absurd (cc)
    may_lead_there n less i q c rest here long (Some to) found leads =
        let there = label_found reaching f n less to found in
        rw there.found (by_order (nat_lt i to) refl there.there there.before there.rest)
      where
        by_order : (b : Bool) → nat_lt i to ≡ b → (there before : ℕ) → Rests there before (drop to f.commands) → nat_lt q there || passes (λ c. is_turn (form_of c)) (slice_get made (there + 1)) ≡ true
        by_order true is there before at =
            let ahead : i < to = grind (arith, nat_tests, is) in
            let later = later_there q there before i to c rest here long ahead at in
            let test : nat_lt q there ≡ true = grind (arith, nat_tests, later) in
            rw test refl
        by_order false is there before at =
            let turn : passes (λ c. is_turn (form_of c)) (slice_get f.commands (to + 1)) ≡ true = subst (λ b. b || passes (λ c. is_turn (form_of c)) (slice_get f.commands (to + 1)) ≡ true) is leads in
            either (nat_lt q there) (passes (λ c. is_turn (form_of c)) (slice_get made (there + 1))) (turn_behind n less to there before found at turn)
          where
            either : (a b : Bool) → b ≡ true → a || b ≡ true
            either true b h = refl
            either false b h = h

    -- a jump leads where it may
    pub leads_there : (o : Option ℕ) → ((n : ℕ) → o ≡ Some n → n < FIRST_LABEL) → (i q : ℕ) (c : Command) (rest : List Command) → drop q made ≡ c ∷ rest → size (drop (i + 1) f.commands) + 2 ≤ length rest
        → leads_well f i o ≡ true → leads_well f' q o ≡ true
    leads_there None less i q c rest here long leads = refl
    leads_there (Some n) less i q c rest here long leads = may_lead_there n (less n refl) i q c rest here long (place_of_label f.commands n) refl leads
