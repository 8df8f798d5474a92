-- The commands of comparisons do what the operators do with converted integers. The left operand is a variable.
use Rattle.std.proofs.Common.{◌≡◌, ℕ, ◌+◌, ℤ, pos, List, refl, ap, ◌∙◌, inr, arith, Bool, true, false, Option, Some}
use Rattle.std.proofs.lemmas.Int.{ints}
use Rattle.std.specs.Prelude.{⊤, not, int_lt, int_le, Result, Ok}
use Rattle.std.specs.Ordering.{int_eq}
use Rattle.porch_types.specs.declared.shapes.Kind.{Kind}
use Rattle.porch_types.specs.declared.shapes.Kind.TheVariants.{Int}
use Rattle.porch_types.specs.Kinds.{kind_number}
use Rattle.porch_values.specs.declared.acts.Act.{Act}
use Rattle.porch_objects.specs.Store.{Value, number, null, pointer, past, indeterminate, Object, seen}
use Rattle.porch_objects.specs.Pointers.{if_number}
use Rattle.porch_objects.specs.Meaning.{Progress}
use Rattle.porch_typed.specs.declared.typed.Comparison.{Comparison}
use Rattle.porch_typed.specs.declared.typed.Comparison.TheVariants.{Less, Greater, LessEqual, GreaterEqual, Equal, NotEqual}
use Rattle.porch_flat.specs.declared.flat.Operand.{Operand}
use Rattle.porch_flat.specs.declared.flat.Operand.TheVariants.{Var, Constant}
use Rattle.porch_flat.specs.declared.whole.Comparison.{Comparison as Order}
use Rattle.porch_flat.specs.declared.whole.Comparison.TheVariants as order
use Rattle.porch_flat.specs.whole.Form.{form_of}
use Rattle.porch_flat.specs.whole.Places.{type_at}
use Rattle.porch_abstract.specs.Machine.{Next, Goes, put, counted}
use Rattle.porch_abstract.specs.whole.Machine.{if_ok, does, operand_of, compared, compares, int_of, type_compared}
use Rattle.porch_mean.specs.Operators.{truth_value}
use Rattle.porch_mean.specs.Operators as meaning
use Rattle.porch_lowering.specs.Code.{InUse}
use Rattle.porch_lowering.specs.Values.{INT}
use Rattle.porch_lowering.specs.Operators.{comparison}
use Rattle.porch_sound.specs.Typing.{StoreTyping}
use Rattle.porch_sound.specs.Laws.{Gives}
use Rattle.porch_lowered.proofs.States.{IsQuiet}
use Rattle.porch_lowered.proofs.Codes.{Context, frame, here, goes_on, IsOf, IsReady}
use Rattle.porch_lowered.proofs.Holding.{IsSetting}
use Rattle.porch_lowered.proofs.Operands.{IsOperand, number_is, operand_type}
use Rattle.porch_lowered.proofs.Numbers.{narrow_fits}
use Rattle.porch_lowered.proofs.Operate.{Finishes}

-- what a comparison makes of two numbers
abbrev pub tested : (ℤ → ℤ → Bool) → Value → Value → Result Value Act
tested test x y = if_number x (λ x. if_number y (λ y. Ok (truth_value (test x y))))

in_order : (x y : Value) (test : ℤ → ℤ → Bool) (go : Value → Next)
    → counted x (λ x. counted y (λ y. go (int_of (test x y)))) ≡ if_ok (tested test x y) go
in_order (number x) (number y) test go = refl
in_order (number x) null test go = refl
in_order (number x) (pointer home leaf) test go = refl
in_order (number x) (past home leaf until) test go = refl
in_order (number x) indeterminate test go = refl
in_order null y test go = refl
in_order (pointer home leaf) y test go = refl
in_order (past home leaf until) y test go = refl
in_order indeterminate y test go = refl

-- the other way round
turned_round : (x y : Value) (test : ℤ → ℤ → Bool) (go : Value → Next)
    → counted y (λ y. counted x (λ x. go (int_of (test x y)))) ≡ if_ok (tested test x y) go
turned_round x (number y) test go = by x
  where
    by : (x : Value) → counted x (λ x. go (int_of (test x y))) ≡ if_ok (tested test x (number y)) go
    by (number x) = refl
    by null = refl
    by (pointer home leaf) = refl
    by (past home leaf until) = refl
    by indeterminate = refl
turned_round (number x) null test go = refl
turned_round null null test go = refl
turned_round (pointer home leaf) null test go = refl
turned_round (past home leaf until) null test go = refl
turned_round indeterminate null test go = refl
turned_round (number x) (pointer other leaf') test go = refl
turned_round null (pointer other leaf') test go = refl
turned_round (pointer home leaf) (pointer other leaf') test go = refl
turned_round (past home leaf until) (pointer other leaf') test go = refl
turned_round indeterminate (pointer other leaf') test go = refl
turned_round (number x) (past other leaf' until') test go = refl
turned_round null (past other leaf' until') test go = refl
turned_round (pointer home leaf) (past other leaf' until') test go = refl
turned_round (past home leaf until) (past other leaf' until') test go = refl
turned_round indeterminate (past other leaf' until') test go = refl
turned_round (number x) indeterminate test go = refl
turned_round null indeterminate test go = refl
turned_round (pointer home leaf) indeterminate test go = refl
turned_round (past home leaf until) indeterminate test go = refl
turned_round indeterminate indeterminate test go = refl

pub not_less : (x y : ℤ) → not (int_lt y x) ≡ int_le x y
not_less x y = grind (arith, ints)

-- an operand that is a variable
abbrev pub IsVar : Operand → Type 0
IsVar (Var t) = ⊤
IsVar (Constant z) = ⊥

module _ (c : Context) (set : IsSetting c) (kind : Kind) (place d : ℕ) (made : StoreTyping) (s : Progress) (ts : List Object) (used : InUse) (ready : IsReady c made s ts) where
  abbrev ty : ℕ
  ty = kind_number kind

  -- the type in which two operands of the kind are compared
  type_is : (a b : Operand) (x y : Value) → IsOperand c ty used s ts a x → IsOperand c ty used s ts b y → IsVar a
      → (type_compared c.flat c.under (frame c place) c.callers a b ≡ Some ty) × (type_compared c.flat c.under (frame c place) c.callers b a ≡ Some ty)
  type_is (Var t) (Var u) x y oa ob h = (operand_type c set ty used s ts t x oa place, operand_type c set ty used s ts u y ob place)
  type_is (Var t) (Constant z) x y oa ob h = (operand_type c set ty used s ts t x oa place, operand_type c set ty used s ts t x oa place)
  type_is (Constant z) b x y oa ob h = absurd h

  abbrev compared_as : Order → Option ℕ → (a b : Operand) → Next
  compared_as how as_ty a b =
      compared c.flat c.under (frame c place) c.callers (type_at c.flat as_ty) how (operand_of c.flat as_ty a (here c s ts place)) (operand_of c.flat as_ty b (here c s ts place)) (here c s ts place)
      (λ holds. goes_on c d place s ts (int_of holds))

  -- a command's comparison, by the two numbers
  numbers_compared : (how : Order) (a b : Operand) (x y : Value) → type_compared c.flat c.under (frame c place) c.callers a b ≡ Some ty
      → IsOperand c ty used s ts a x → IsOf c made ty x → IsOperand c ty used s ts b y → IsOf c made ty y
      → compared_as how (type_compared c.flat c.under (frame c place) c.callers a b) a b
      ≡ counted (seen s.store x) (λ x. counted (seen s.store y) (λ y. goes_on c d place s ts (int_of (compares how x y))))
  numbers_compared how a b x y e oa xa ob yb =
      ap (λ as_ty. compared_as how as_ty a b) e
      ∙ ap
      (λ x. compared c.flat c.under (frame c place) c.callers (type_at c.flat (Some ty)) how x (operand_of c.flat (Some ty) b (here c s ts place)) (here c s ts place)
      (λ holds. goes_on c d place s ts (int_of holds)))
      (number_is c set made s ts place ty kind used a x (Some ty) (set.kinds kind) (inr refl) ready oa xa)
      ∙ ap
      (λ y. compared c.flat c.under (frame c place) c.callers (type_at c.flat (Some ty)) how (seen s.store x) y (here c s ts place)
      (λ holds. goes_on c d place s ts (int_of holds)))
      (number_is c set made s ts place ty kind used b y (Some ty) (set.kinds kind) (inr refl) ready ob yb)
      ∙ ap
      (λ shape. compared c.flat c.under (frame c place) c.callers shape how (seen s.store x) (seen s.store y) (here c s ts place)
      (λ holds. goes_on c d place s ts (int_of holds)))
      (set.kinds kind)

  pub comparison_does : (how : Comparison) (a b : Operand) (x y : Value)
      → IsOperand c ty used s ts a x → IsOf c made ty x → IsOperand c ty used s ts b y → IsOf c made ty y → IsVar a
      → does c.flat c.under (frame c place) c.callers (form_of (comparison how d a b)) (here c s ts place)
      ≡ if_ok (tested (λ x y. meaning.compares how x y) (seen s.store x) (seen s.store y)) (λ w. Goes (put d w (here c s ts (place + 1))))
  comparison_does Less a b x y oa xa ob yb h =
      numbers_compared order.Less a b x y (type_is a b x y oa ob h).0 oa xa ob yb ∙ in_order (seen s.store x) (seen s.store y) (λ x y. int_lt x y) (goes_on c d place s ts)
  comparison_does Greater a b x y oa xa ob yb h =
      numbers_compared order.Less b a y x (type_is a b x y oa ob h).1 ob yb oa xa ∙ turned_round (seen s.store x) (seen s.store y) (λ x y. int_lt y x) (goes_on c d place s ts)
  comparison_does LessEqual a b x y oa xa ob yb h =
      numbers_compared order.LessEqual a b x y (type_is a b x y oa ob h).0 oa xa ob yb
      ∙ in_order (seen s.store x) (seen s.store y) (λ x y. not (int_lt y x)) (goes_on c d place s ts)
      ∙ ap (λ (test : ℤ → ℤ → Bool). if_ok (tested test (seen s.store x) (seen s.store y)) (goes_on c d place s ts)) (λ i x y. not_less x y i)
  comparison_does GreaterEqual a b x y oa xa ob yb h =
      numbers_compared order.LessEqual b a y x (type_is a b x y oa ob h).1 ob yb oa xa
      ∙ turned_round (seen s.store x) (seen s.store y) (λ x y. not (int_lt x y)) (goes_on c d place s ts)
      ∙ ap (λ (test : ℤ → ℤ → Bool). if_ok (tested test (seen s.store x) (seen s.store y)) (goes_on c d place s ts)) (λ i x y. not_less y x i)
  comparison_does Equal a b x y oa xa ob yb h =
      numbers_compared order.Equal a b x y (type_is a b x y oa ob h).0 oa xa ob yb ∙ in_order (seen s.store x) (seen s.store y) (λ x y. int_eq x y) (goes_on c d place s ts)
  comparison_does NotEqual a b x y oa xa ob yb h =
      numbers_compared order.NotEqual a b x y (type_is a b x y oa ob h).0 oa xa ob yb ∙ in_order (seen s.store x) (seen s.store y) (λ x y. not (int_eq x y)) (goes_on c d place s ts)

module _ (c : Context) (set : IsSetting c) where
  -- 1 and 0 are ints
  pub truth_is_int : (made : StoreTyping) (b : Bool) → IsOf c made INT (truth_value b)
  truth_is_int made true = (Int, set.kinds Int, narrow_fits Int c.under.widths (pos 1) refl)
  truth_is_int made false = (Int, set.kinds Int, narrow_fits Int c.under.widths (pos 0) refl)

  truth_given : (made : StoreTyping) (test : ℤ → ℤ → Bool) (x y : Value) → Gives (IsOf c made INT) (tested test x y)
  truth_given made test (number x) (number y) = truth_is_int made (test x y)
  truth_given made test (number x) null = tt
  truth_given made test (number x) (pointer home leaf) = tt
  truth_given made test (number x) (past home leaf until) = tt
  truth_given made test (number x) indeterminate = tt
  truth_given made test null y = tt
  truth_given made test (pointer home leaf) y = tt
  truth_given made test (past home leaf until) y = tt
  truth_given made test indeterminate y = tt

  pub quiet_comparison : (how : Comparison) (d : ℕ) (a b : Operand) → IsQuiet c.flat (form_of (comparison how d a b))
  quiet_comparison Less d a b = record { calm = refl; silent = λ s frame. refl }
  quiet_comparison Greater d a b = record { calm = refl; silent = λ s frame. refl }
  quiet_comparison LessEqual d a b = record { calm = refl; silent = λ s frame. refl }
  quiet_comparison GreaterEqual d a b = record { calm = refl; silent = λ s frame. refl }
  quiet_comparison Equal d a b = record { calm = refl; silent = λ s frame. refl }
  quiet_comparison NotEqual d a b = record { calm = refl; silent = λ s frame. refl }

  pub comparison_finishes : (how : Comparison) (kind : Kind)
      → Finishes c set IsVar kind kind INT (tested (λ x y. meaning.compares how x y)) (comparison how)
  comparison_finishes how kind =
      record {
        quiet = quiet_comparison how;
        does_is = λ place d made s ts used a b x y ready oa xa ob yb may allowed.
            comparison_does c set kind place d made s ts used ready how a b x y oa xa ob yb allowed;
        gives = λ made x y xn yn. truth_given made (λ x y. meaning.compares how x y) x y;
        uses_left = λ y. refl;
        uses_right = λ z. refl;
      }
