-- Counting the commands for saving and rebuilding frames.
use Rattle.std.proofs.Common.{◌≡◌, ◌+◌, ◌-◌, ◌<◌, ◌≤◌, inl, inr, ℕ, zero, suc, nat_eq, Bool, true, false, cond, List, [], ◌∷◌, length, drop, map, arith, refl, ap, sym, eq-eqb, ◌∙◌}
use Rattle.std.proofs.Math.ListN.{get_or}
use Rattle.std.proofs.lemmas.Bool.{cases_lt}
use Rattle.std.proofs.lemmas.Bool.Decides.{nat_tests}
use Rattle.std.specs.List.{range_with_len}
use Rattle.porch_flat.specs.whole.Rewritten.{has_ends, is_rewritten, last_label, places_from, reaches, same_numbers}
use Rattle.porch_flat.specs.declared.whole.Function.{Function}
use Rattle.porch_flat.specs.declared.whole.Flat.{Flat}
use Rattle.porch_flat.specs.inside.Walks.{IsMarkedCount, call_places}
use Rattle.std.specs.Prelude.{count_by, slice_get}
use Rattle.std.specs.Prelude.{Option, Some, None, option_and_then}
use Rattle.std.specs.Option.{option_map}
use Rattle.std.proofs.lemmas.Option.{slice_get-map}
use Rattle.std.proofs.lemmas.List.{length-map, drop-map, drop_more, drop_all}
use Rattle.std.proofs.lemmas.List.Sums.{sum_by-cons}
use Rattle.porch_flat.specs.declared.whole.Command.{Command}
use Rattle.porch_flat.specs.whole.Form.{Form, form_of, is_mode, label_of}

pub count_forms : (commands : List Command) → count_by is_mode (map form_of commands) ≡ count_by (λ c. is_mode (form_of c)) commands
count_forms [] = refl
count_forms (c ∷ commands) =
    let of_form : Form → ℕ = λ form. cond (is_mode form) 1 0 in
    let of_command : Command → ℕ = λ c. cond (is_mode (form_of c)) 1 0 in
    sum_by-cons of_form (form_of c) (map form_of commands)
    ∙ (ap (λ n. cond (is_mode (form_of c)) 1 0 + n) (count_forms commands) ∙ sym (sum_by-cons of_command c commands))

pub form_at : (commands : List Command) (at : ℕ) → slice_get (map form_of commands) at ≡ option_map form_of (slice_get commands at)
form_at commands at = slice_get-map form_of commands at

pub form_count : (commands : List Command) → length (map form_of commands) ≡ length commands
form_count commands = length-map commands form_of

pub last_of : (commands : List Command) (r : Option ℕ) → r ≡ option_and_then label_of (slice_get (map form_of commands) (length commands - 2)) → r ≡ last_label (map form_of commands)
last_of commands r h = h ∙ ap (λ n. option_and_then label_of (slice_get (map form_of commands) (n - 2))) (sym (form_count commands))

-- the places from one command on: that of the command itself, or none
form_from : (commands : List Command) (at : ℕ) (d : Command) → at < length commands → drop at (map form_of commands) ≡ form_of (get_or commands at d) ∷ drop (at + 1) (map form_of commands)
form_from commands at d h = rw (drop-map form_of at commands, drop_more commands at d h, drop-map form_of (at + 1) commands) refl

pub places_in : (test : Form → Bool) (commands : List Command) (at : ℕ) (d : Command) → at < length commands → test (form_of (get_or commands at d)) ≡ true
    → places_from at test (drop at (map form_of commands)) ≡ at ∷ places_from (at + 1) test (drop (at + 1) (map form_of commands))
places_in test commands at d h passes = rw (form_from commands at d h, passes) refl

pub places_on : (test : Form → Bool) (commands : List Command) (at : ℕ) (d : Command) → at < length commands → test (form_of (get_or commands at d)) ≡ false
    → places_from at test (drop at (map form_of commands)) ≡ places_from (at + 1) test (drop (at + 1) (map form_of commands))
places_on test commands at d h fails = rw (form_from commands at d h, fails) refl

-- numbers in order, from one of them on
pub order_next : (vs : List ℕ) (count at d : ℕ) → at < length vs → at < count → get_or vs at d ≡ at
    → same_numbers (drop at vs) (range_with_len at (count - at)) ≡ same_numbers (drop (at + 1) vs) (range_with_len (at + 1) (count - (at + 1)))
order_next vs count at d h below here =
    let more : count - at ≡ suc (count - (at + 1)) = omega arith in
    let same : nat_eq (get_or vs at d) at ≡ true = eq-eqb _ _ here in
    rw (drop_more vs at d h, more, same) refl

pub order_stop : (vs : List ℕ) (count at d : ℕ) → at < length vs → ((at < count) × (get_or vs at d ≡ at) → ⊥)
    → same_numbers (drop at vs) (range_with_len at (count - at)) ≡ false
order_stop vs count at d h fails =
    elim (cases_lt at count) [
      | inl below ↦
          let more : count - at ≡ suc (count - (at + 1)) = omega arith in
          let other : get_or vs at d ≡ at → ⊥ = λ e. fails (below, e) in
          let differs : nat_eq (get_or vs at d) at ≡ false = grind (arith, nat_tests, other) in
          rw (drop_more vs at d h, more, differs) refl
      | inr behind ↦
          let none : count - at ≡ 0 = omega arith in
          rw (drop_more vs at d h, none) refl
    ]

pub order_end : (vs : List ℕ) (count at : ℕ) → length vs ≤ at → at ≤ count → at ≤ length vs
    → same_numbers (drop at vs) (range_with_len at (count - at)) ≡ nat_eq (length vs) count
order_end vs count at h few all = rw (drop_all at vs h) (of_rest (count - at) refl)
  where
    of_rest : (rest : ℕ) → count - at ≡ rest → same_numbers [] (range_with_len at (count - at)) ≡ nat_eq (length vs) count
    of_rest zero e =
        let same : nat_eq (length vs) count ≡ true = eq-eqb _ _ (omega arith) in
        rw (e, same) refl
    of_rest (suc rest) e =
        let differs : nat_eq (length vs) count ≡ false = grind (arith, nat_tests, e) in
        rw (e, differs) refl

-- what is kept of the functions says the same of the commands
same_calls : (p q : ℕ → Bool) → ((n : ℕ) → p n ≡ q n) → (forms : List Form) → call_places p forms ≡ call_places q forms
same_calls p q same forms =
    let e : p ≡ q = λ i n. same n i in
    ap (λ reaches. call_places reaches forms) e

pub marked_by : (flat : Flat) (f : Function) (p : ℕ → Bool) (count : ℕ) → ((n : ℕ) → p n ≡ reaches flat n) → IsMarkedCount (length f.vars) (map form_of f.commands) p (Some count)
    → is_rewritten flat f ≡ has_ends (length f.vars) (map form_of f.commands) count
marked_by flat f p count same marked =
    let forms = map form_of f.commands in
    let calls = sym (same_calls p (reaches flat) same forms) in
    rw (calls, marked.0, marked.1) refl

pub unmarked_by : (flat : Flat) (f : Function) (p : ℕ → Bool) → ((n : ℕ) → p n ≡ reaches flat n) → IsMarkedCount (length f.vars) (map form_of f.commands) p None
    → is_rewritten flat f ≡ false
unmarked_by flat f p same unmarked =
    let calls = sym (same_calls p (reaches flat) same (map form_of f.commands)) in
    rw (calls, unmarked) refl
