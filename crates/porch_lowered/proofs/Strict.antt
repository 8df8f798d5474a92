-- Operators use both of their operands. So what they make of them is the same where these were used before.
use Rattle.std.proofs.Common.{◌≡◌, ℕ, ℤ, pos, List, refl, sym, ap, ◌∙◌}
use Rattle.std.specs.Prelude.{not, ◌-ℤ◌, Bool, Result, Ok, Err}
use Rattle.porch_types.specs.declared.shapes.Ty.{Ty}
use Rattle.porch_values.specs.declared.acts.Act.{Act}
use Rattle.porch_values.specs.declared.acts.Act.TheVariants.{Indeterminate}
use Rattle.porch_values.specs.declared.widths.Widths.{Widths}
use Rattle.porch_values.specs.Integers.{applied, converted}
use Rattle.porch_objects.specs.Store.{Value, number, null, pointer, past, indeterminate, Store, seen}
use Rattle.porch_objects.specs.Pointers.{if_there, if_number, position_of, between, step, equal}
use Rattle.porch_objects.specs.Meaning.{Environment, Progress}
use Rattle.porch_typed.specs.declared.typed.Comparison.{Comparison}
use Rattle.porch_typed.specs.declared.typed.Comparison.TheVariants.{Less, Greater, LessEqual, GreaterEqual, Equal, NotEqual}
use Rattle.porch_typed.specs.declared.typed.Operator.{Operator}
use Rattle.porch_typed.specs.declared.typed.Operator.TheVariants as operator
use Rattle.porch_typed.specs.Mirror.{Program}
use Rattle.porch_mean.specs.Outcome.{Outcome, Went, Left, Undefined, Stopped, and_then, with_result}
use Rattle.porch_mean.specs.Operators.{if_ok, as_value, truth_value, compares, target_of, both_converted, operate}
use Rattle.porch_mean.specs.Expression.{operate_on}
use Rattle.porch_lowered.proofs.Held.{use_now, IsStrict}
use Rattle.porch_lowered.proofs.Forms.{strict_by}

-- two values that are used, the left one first
abbrev pub both_used : {A : Type 0} → Value → Value → (Value → Value → Result A Act) → Result A Act
both_used x y g = if_there x (λ x. if_there y (λ y. g x y))

-- in which order doesn't matter
pub used_in_turn : {A : Type 0} (x y : Value) (g : Value → Value → Result A Act) → if_there y (λ y. if_there x (λ x. g x y)) ≡ both_used x y g
used_in_turn (number z) y g = refl
used_in_turn null y g = refl
used_in_turn (pointer home leaf) y g = refl
used_in_turn (past home leaf until) y g = refl
used_in_turn {A = A} indeterminate y g = by y
  where
    missing : Result A Act
    missing = Err Indeterminate

    by : (y : Value) → if_there y (λ y. missing) ≡ missing
    by (number z) = refl
    by null = refl
    by (pointer home leaf) = refl
    by (past home leaf until) = refl
    by indeterminate = refl

ok_there : {A B : Type 0} (x : Value) (f : Value → Result A Act) (g : A → Result B Act) → if_ok (if_there x f) g ≡ if_there x (λ x. if_ok (f x) g)
ok_there (number z) f g = refl
ok_there null f g = refl
ok_there (pointer home leaf) f g = refl
ok_there (past home leaf until) f g = refl
ok_there indeterminate f g = refl

-- what follows the result
pub ok_both : {A B : Type 0} (x y : Value) (f : Value → Value → Result A Act) (g : A → Result B Act)
    → if_ok (both_used x y f) g ≡ both_used x y (λ x y. if_ok (f x y) g)
ok_both x y f g =
    ok_there x (λ x. if_there y (λ y. f x y)) g ∙ ap (λ k. if_there x k) (λ i x. ok_there y (λ y. f x y) g i)

abbrev as_truth : Result Bool Act → Result Value Act
as_truth r = if_ok r (λ holds. Ok (truth_value holds))

module _ (types : List Ty) (widths : Widths) where
  -- what a comparison makes of two pointers that are there
  abbrev pub pointers_made : Comparison → (pointee : ℕ) → Store → Value → Value → Result Value Act
  pointers_made Equal pointee s p q = as_truth (equal types pointee p q)
  pointers_made NotEqual pointee s p q = as_truth (if_ok (equal types pointee p q) (λ same. Ok (not same)))
  pointers_made c pointee s p q =
      as_truth (if_ok (between types pointee (position_of types pointee s p) (position_of types pointee s q)) (λ z. Ok (compares c z (pos 0))))

  -- what an operator makes of two values that are there
  abbrev pub made_of : Operator → Store → Value → Value → Result Value Act
  made_of (operator.Arithmetic op kind) s a b =
      if_number a (λ x. if_number b (λ y. both_converted types widths kind x y (λ x y. as_value (applied op kind widths x y))))
  made_of (operator.Shift op kind) s a b =
      if_number a (λ x. if_number b (λ y. if_ok (converted kind widths x) (λ x. as_value (applied op kind widths x y))))
  made_of (operator.Compare c kind) s a b =
      if_number a (λ x. if_number b (λ y. both_converted types widths kind x y (λ x y. Ok (truth_value (compares c x y)))))
  made_of (operator.ComparePointers c ty) s a b = pointers_made c (target_of types ty) s a b
  made_of (operator.Forward ty) s a b = if_number b (λ z. step types (target_of types ty) s a z)
  made_of (operator.Back ty) s a b = if_number b (λ z. step types (target_of types ty) s a (pos 0 -ℤ z))
  made_of (operator.ForwardOf ty) s a b = if_number a (λ z. step types (target_of types ty) s b z)
  made_of (operator.Difference ty) s a b =
      as_value (between types (target_of types ty) (position_of types (target_of types ty) s a) (position_of types (target_of types ty) s b))

  -- for their order
  abbrev placed : ℕ → Store → Value → Value → Result ℤ Act
  placed pointee s x y = between types pointee (position_of types pointee s x) (position_of types pointee s y)

  ordered : (test : ℤ → Bool) (pointee : ℕ) (s : Store) (a b : Value)
      → as_truth (if_ok (both_used (seen s a) (seen s b) (λ x y. placed pointee s x y)) (λ z. Ok (test z)))
      ≡ both_used (seen s a) (seen s b) (λ x y. as_truth (if_ok (placed pointee s x y) (λ z. Ok (test z))))
  ordered test pointee s a b =
      ap (λ r. as_truth r) (ok_both (seen s a) (seen s b) (λ x y. placed pointee s x y) (λ z. Ok (test z)))
      ∙ ok_both (seen s a) (seen s b) (λ x y. if_ok (placed pointee s x y) (λ z. Ok (test z))) (λ holds. Ok (truth_value holds))

  pointers_used : (c : Comparison) (ty : ℕ) (s : Store) (a b : Value)
      → operate types widths (operator.ComparePointers c ty) s a b ≡ both_used (seen s a) (seen s b) (λ x y. pointers_made c (target_of types ty) s x y)
  pointers_used Equal ty s a b = ok_both (seen s a) (seen s b) (λ x y. equal types (target_of types ty) x y) (λ holds. Ok (truth_value holds))
  pointers_used NotEqual ty s a b =
      ap (λ r. as_truth r) (ok_both (seen s a) (seen s b) (λ x y. equal types (target_of types ty) x y) (λ same. Ok (not same)))
      ∙ ok_both (seen s a) (seen s b) (λ x y. if_ok (equal types (target_of types ty) x y) (λ same. Ok (not same))) (λ holds. Ok (truth_value holds))
  pointers_used Less ty s a b = ordered (λ z. compares Less z (pos 0)) (target_of types ty) s a b
  pointers_used Greater ty s a b = ordered (λ z. compares Greater z (pos 0)) (target_of types ty) s a b
  pointers_used LessEqual ty s a b = ordered (λ z. compares LessEqual z (pos 0)) (target_of types ty) s a b
  pointers_used GreaterEqual ty s a b = ordered (λ z. compares GreaterEqual z (pos 0)) (target_of types ty) s a b

  pub operate_uses : (op : Operator) (s : Store) (a b : Value) → operate types widths op s a b ≡ both_used (seen s a) (seen s b) (λ x y. made_of op s x y)
  operate_uses (operator.Arithmetic op kind) s a b = refl
  operate_uses (operator.Shift op kind) s a b = refl
  operate_uses (operator.Compare c kind) s a b = refl
  operate_uses (operator.ComparePointers c ty) s a b = pointers_used c ty s a b
  operate_uses (operator.Forward ty) s a b = refl
  operate_uses (operator.Back ty) s a b = refl
  operate_uses (operator.ForwardOf ty) s a b =
      used_in_turn (seen s a) (seen s b) (λ x y. if_number x (λ z. step types (target_of types ty) s y z))
  operate_uses (operator.Difference ty) s a b =
      ok_both (seen s a) (seen s b)
      (λ x y. between types (target_of types ty) (position_of types (target_of types ty) s x) (position_of types (target_of types ty) s y)) (λ z. Ok (number z))

-- one evaluation behind another, and a third
pub and_then_then : (o : Outcome) (f g : Value → Progress → Outcome) → and_then (and_then o f) g ≡ and_then o (λ v s. and_then (f v s) g)
and_then_then (Went v s) f g = refl
and_then_then (Left how s) f g = refl
and_then_then (Undefined a s) f g = refl
and_then_then (Stopped s) f g = refl

-- with more behind it
pub strict_then : (go more : Value → Progress → Outcome) → IsStrict go → IsStrict (λ v s. and_then (go v s) more)
strict_then go more strict v s = sym (and_then_then (use_now v s) go more) ∙ ap (λ o. and_then o more) (strict v s)

-- what follows a value that is used goes on in the same state
pub same_behind : (v w : Value) (s : Progress) (f g : Value → Progress → Outcome) → ((x : Value) → f x s ≡ g x s)
    → and_then (with_result (if_there w (λ v. Ok v)) s (λ v s. Went v s)) f ≡ and_then (with_result (if_there w (λ v. Ok v)) s (λ v s. Went v s)) g
same_behind v (number z) s f g e = e (number z)
same_behind v null s f g e = e null
same_behind v (pointer home leaf) s f g e = e (pointer home leaf)
same_behind v (past home leaf until) s f g e = e (past home leaf until)
same_behind v indeterminate s f g e = refl

module _ (p : Program) (under : Environment) (op : Operator) where
  pub strict_left : (b : Value) → IsStrict (λ a s. operate_on p under op a b s)
  strict_left b =
      strict_by (λ s x. if_there (seen s b) (λ y. made_of p.types under.widths op s x y)) (λ a s. operate_on p under op a b s)
      (λ a s. ap (λ r. with_result r s (λ v s. Went v s)) (operate_uses p.types under.widths op s.store a b))

  pub strict_right : (a : Value) → IsStrict (λ b s. operate_on p under op a b s)
  strict_right a =
      strict_by (λ s y. if_there (seen s a) (λ x. made_of p.types under.widths op s x y)) (λ b s. operate_on p under op a b s)
      (λ b s.
      ap (λ r. with_result r s (λ v s. Went v s))
      (operate_uses p.types under.widths op s.store a b
      ∙ sym (used_in_turn (seen s.store a) (seen s.store b) (λ x y. made_of p.types under.widths op s.store x y))))

  -- The left operand may be used first, where the right one stands in place.
  pub strict_in_front : (value : Progress → Outcome) (w : Value) (more : Value → Progress → Outcome) (s : Progress) → value s ≡ use_now w s → (v : Value)
      → and_then (use_now v s) (λ a s. and_then (value s) (λ b s. and_then (operate_on p under op a b s) more))
      ≡ and_then (value s) (λ b s. and_then (operate_on p under op v b s) more)
  strict_in_front value w more s e v =
      let behind : (a : Value) → and_then (value s) (λ b s. and_then (operate_on p under op a b s) more) ≡ and_then (operate_on p under op a w s) more =
      λ a.
      ap (λ o. and_then o (λ b s. and_then (operate_on p under op a b s) more)) e
      ∙ strict_then (λ b s. operate_on p under op a b s) more (strict_right a) w s in
      same_behind v (seen s.store v) s (λ a s. and_then (value s) (λ b s. and_then (operate_on p under op a b s) more)) (λ a s. and_then (operate_on p under op a w s) more) behind
      ∙ strict_then (λ a s. operate_on p under op a w s) more (strict_left w) v s
      ∙ sym (behind v)
