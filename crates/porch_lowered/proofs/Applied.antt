-- The code of an operator follows what it makes of its operands, whatever operator it is.
use Rattle.std.proofs.Common.{◌≡◌, ◌≤◌, ℕ, ◌+◌, List, length, refl, sym, ap, subst, ◌∙◌, Bool, true, false, Some}
use Rattle.std.specs.Prelude.{slice_get}
use Rattle.porch_types.specs.declared.shapes.Kind.{Kind}
use Rattle.porch_types.specs.declared.shapes.Kind.TheVariants.{Char, UChar, Short, UShort, Int, UInt, Long, ULong}
use Rattle.porch_types.specs.declared.shapes.Ty.TheVariants.{Pointer}
use Rattle.porch_types.specs.Kinds.{kind_number}
use Rattle.porch_types.specs.LeafTypes.{pointee_of}
use Rattle.porch_values.specs.declared.acts.Op.{Op}
use Rattle.porch_objects.specs.Store.{Value, Object}
use Rattle.porch_objects.specs.Pointers as pointers
use Rattle.porch_objects.specs.Meaning.{Progress}
use Rattle.porch_flat.specs.declared.flat.Operand.{Operand}
use Rattle.porch_flat.specs.declared.flat.Operand.TheVariants.{Var, Constant}
use Rattle.porch_flat.specs.declared.whole.Direction.{Direction}
use Rattle.porch_flat.specs.declared.whole.Direction.TheVariants.{Forward, Back}
use Rattle.porch_abstract.specs.whole.Machine.{forward as onward_by}
use Rattle.porch_typed.specs.declared.typed.Comparison.{Comparison}
use Rattle.porch_typed.specs.declared.typed.Operator.{Operator}
use Rattle.porch_typed.specs.declared.typed.Operator.TheVariants as operator
use Rattle.porch_typed.specs.Typed.{type_of_kind, IsWhole, IsPointer, Applies, arithmetic, shift, compare, compare_pointers, forward, back, forward_of, difference}
use Rattle.porch_mean.specs.Outcome.{Went, with_result}
use Rattle.porch_mean.specs.Operators.{promoted_kind, as_value, target_of}
use Rattle.porch_mean.specs.Operators as meaning
use Rattle.porch_lowering.specs.Code.{InUse}
use Rattle.porch_lowering.specs.Operators.{left_accepts, right_accepts, promoted, used_if, is_converted, operate}
use Rattle.porch_sound.specs.Typing.{StoreTyping}
use Rattle.porch_lowered.proofs.States.{Stands}
use Rattle.porch_lowered.proofs.Codes.{Context, commands, here, IsOf, Follow, IsReady, MayGo, Arrives}
use Rattle.porch_lowered.proofs.Holding.{IsSetting}
use Rattle.porch_lowered.proofs.Operands.{IsOperand}
use Rattle.porch_lowered.proofs.Comparisons.{IsVar}
use Rattle.porch_lowered.proofs.OperatorCode.{IsAccepted, never_constant, promoted_number, arithmetic_follows, comparison_follows, shift_follows}
use Rattle.porch_lowered.proofs.Pointers.{stepped, difference_follows}
use Rattle.porch_lowered.proofs.PointerCode.{same_not_converted, number_fits, stepping_code, stepping_follows, steps, steps_code, steps_of_code, differences_code}
use Rattle.porch_lowered.proofs.PointerComparisons.{pointers_follow}

pub kind_type : (kind : Kind) → kind_number kind ≡ type_of_kind kind
kind_type Char = refl
kind_type UChar = refl
kind_type Short = refl
kind_type UShort = refl
kind_type Int = refl
kind_type UInt = refl
kind_type Long = refl
kind_type ULong = refl

module _ (c : Context) (set : IsSetting c) where
  -- that the code of an operator on such types follows what it makes
  abbrev pub OperatorFollows : Operator → (left right result : ℕ) → Type 0
  OperatorFollows op lt rt ty =
      (d place label : ℕ) (a b : Operand) (v w : Value) (made : StoreTyping) (s : Progress) (ts : List Object) (used : InUse)
      → IsAccepted (left_accepts op) a → IsAccepted (right_accepts op) b → IsReady c made s ts
      → IsOperand c lt used s ts a v → IsOf c made lt v → IsOperand c rt used s ts b w → IsOf c made rt w → MayGo c ty (Some d)
      → ((t : ℕ) → (operate c.start op d a lt b rt used label).most t ≤ c.pools t)
      → Stands (commands c) place (operate c.start op d a lt b rt used label).commands
      → Follow c (with_result (meaning.operate c.flat.types c.under.widths op s.store v w) s (λ w s. Went w s)) (here c s ts place) s.marks
      (Arrives c ty made (Some d) used ts (here c s ts place) s.marks (place + length (operate c.start op d a lt b rt used label).commands))

  arithmetic_case : (o : Op) (kind : Kind) (lt rt : ℕ) → IsWhole c.flat.types lt → IsWhole c.flat.types rt
      → OperatorFollows (operator.Arithmetic o kind) lt rt (kind_number kind)
  arithmetic_case o kind lt rt left right d place label a b v w made s ts used fit fit' ready oa va ob wb may room stands =
      arithmetic_follows c set lt rt d place label left.0 right.0 a b v w made s ts used left.1 right.1 ready oa va ob wb o kind fit fit' may room stands

  shift_case : (o : Op) (kind : Kind) (lt rt : ℕ) → IsWhole c.flat.types lt → IsWhole c.flat.types rt
      → OperatorFollows (operator.Shift o kind) lt rt (kind_number kind)
  shift_case o kind lt rt left right d place label a b v w made s ts used fit fit' ready oa va ob wb may room stands =
      shift_follows c set lt rt d place label left.0 right.0 a b v w made s ts used left.1 right.1 ready oa va ob wb o kind fit
      (number_fits c set made rt right.0 s ts used b w right.1 ob wb) may room stands

  comparison_case : (how : Comparison) (kind : Kind) (lt rt : ℕ) → IsWhole c.flat.types lt → IsWhole c.flat.types rt
      → OperatorFollows (operator.Compare how kind) lt rt (kind_number Int)
  comparison_case how kind lt rt left right d place label a b v w made s ts used fit fit' ready oa va ob wb may room stands =
      comparison_follows c set lt rt d place label left.0 right.0 a b v w made s ts used left.1 right.1 ready oa va ob wb how kind (never_constant a fit) fit' may room stands

  pointers_case : (how : Comparison) (ty : ℕ) → IsPointer c.flat.types ty → OperatorFollows (operator.ComparePointers how ty) ty ty (kind_number Int)
  pointers_case how ty pointer d place label a b v w made s ts used fit fit' ready oa va ob wb may room stands =
      pointers_follow c set how ty pointer.0 d place label a b v w made s ts used pointer.1 (never_constant a fit) ready oa va ob wb stands

  target_is : (ty to : ℕ) → slice_get c.flat.types ty ≡ Some (Pointer to) → target_of c.flat.types ty ≡ to
  target_is ty to shape = ap (λ shape. pointee_of shape) shape

  -- a step, of a pointer that stands in a variable
  steps_follow : (way : Direction) (ty rt d place t : ℕ) (b : Operand) (v w : Value) (made : StoreTyping) (s : Progress) (ts : List Object) (used : InUse)
      (pointer : IsPointer c.flat.types ty) → IsWhole c.flat.types rt → IsReady c made s ts
      → IsOperand c ty used s ts (Var t) v → IsOf c made ty v → IsOperand c rt used s ts b w → IsOf c made rt w
      → ((k : ℕ) → used_if (is_converted b rt (promoted rt)) used (promoted rt) k ≤ c.pools k)
      → Stands (commands c) place (stepping_code c set way d t b rt (promoted rt) used)
      → Follow c (with_result (stepped c.flat.types (target_of c.flat.types ty) (onward_by way) s.store v w) s (λ w s. Went w s)) (here c s ts place) s.marks
      (Arrives c ty made (Some d) used ts (here c s ts place) s.marks (place + length (stepping_code c set way d t b rt (promoted rt) used)))
  steps_follow way ty rt d place t b v w made s ts used pointer right ready oa va ob wb room stands =
      let from = right.0 in
      let to : kind_number (promoted_kind from) ≡ promoted rt = sym (ap (λ t. promoted t) (set.whole rt from right.1) ∙ promoted_number from) in
      let shape = subst (λ to. slice_get c.flat.types ty ≡ Some (Pointer to)) (sym (target_is ty pointer.0 pointer.1)) pointer.1 in
      subst
      (λ (right : ℕ).
      ((k : ℕ) → used_if (is_converted b rt right) used right k ≤ c.pools k)
      → Stands (commands c) place (stepping_code c set way d t b rt right used)
      → Follow c (with_result (stepped c.flat.types (target_of c.flat.types ty) (onward_by way) s.store v w) s (λ w s. Went w s)) (here c s ts place) s.marks
      (Arrives c ty made (Some d) used ts (here c s ts place) s.marks (place + length (stepping_code c set way d t b rt right used))))
      to
      (λ room stands.
      stepping_follows c set way ty (target_of c.flat.types ty) rt d place t from b v w made s ts used shape right.1 ready oa va ob wb room stands)
      room stands

  step_case : (way : Direction) (ty rt : ℕ) → IsPointer c.flat.types ty → IsWhole c.flat.types rt
      → (d place label : ℕ) (a b : Operand) (v w : Value) (made : StoreTyping) (s : Progress) (ts : List Object) (used : InUse) → IsVar a → IsReady c made s ts
      → IsOperand c ty used s ts a v → IsOf c made ty v → IsOperand c rt used s ts b w → IsOf c made rt w
      → ((t : ℕ) → (operate c.start (steps c set way ty) d a ty b rt used label).most t ≤ c.pools t)
      → Stands (commands c) place (operate c.start (steps c set way ty) d a ty b rt used label).commands
      → Follow c (with_result (stepped c.flat.types (target_of c.flat.types ty) (onward_by way) s.store v w) s (λ w s. Went w s)) (here c s ts place) s.marks
      (Arrives c ty made (Some d) used ts (here c s ts place) s.marks (place + length (operate c.start (steps c set way ty) d a ty b rt used label).commands))
  step_case way ty rt pointer right d place label (Constant z) b v w made s ts used var ready oa va ob wb room stands = absurd var
  step_case way ty rt pointer right d place label (Var t) b v w made s ts used var ready oa va ob wb room stands =
      subst
      (λ code.
      Stands (commands c) place code
      → Follow c (with_result (stepped c.flat.types (target_of c.flat.types ty) (onward_by way) s.store v w) s (λ w s. Went w s)) (here c s ts place) s.marks
      (Arrives c ty made (Some d) used ts (here c s ts place) s.marks (place + length code)))
      (steps_code c set way ty d t b ty rt label used)
      (λ stands. steps_follow way ty rt d place t b v w made s ts used pointer right ready oa va ob wb (by way room) stands)
      stands
    where
      room_there : (first : Bool) → first ≡ false → ((k : ℕ) → used_if (is_converted b rt (promoted rt)) (used_if first used ty) (promoted rt) k ≤ c.pools k)
          → (k : ℕ) → used_if (is_converted b rt (promoted rt)) used (promoted rt) k ≤ c.pools k
      room_there true e room = cc
      room_there false e room = room

      by : (way : Direction) → ((k : ℕ) → (operate c.start (steps c set way ty) d (Var t) ty b rt used label).most k ≤ c.pools k)
          → (k : ℕ) → used_if (is_converted b rt (promoted rt)) used (promoted rt) k ≤ c.pools k
      by Forward room = room_there (is_converted (Var t) ty ty) (same_not_converted (Var t) ty) room
      by Back room = room_there (is_converted (Var t) ty ty) (same_not_converted (Var t) ty) room

  forward_case : (ty rt : ℕ) → IsPointer c.flat.types ty → IsWhole c.flat.types rt → OperatorFollows (operator.Forward ty) ty rt ty
  forward_case ty rt pointer right d place label a b v w made s ts used fit fit' ready oa va ob wb may room stands =
      step_case Forward ty rt pointer right d place label a b v w made s ts used (never_constant a fit) ready oa va ob wb room stands

  back_case : (ty rt : ℕ) → IsPointer c.flat.types ty → IsWhole c.flat.types rt → OperatorFollows (operator.Back ty) ty rt ty
  back_case ty rt pointer right d place label a b v w made s ts used fit fit' ready oa va ob wb may room stands =
      step_case Back ty rt pointer right d place label a b v w made s ts used (never_constant a fit) ready oa va ob wb room stands

  forward_of_case : (ty lt : ℕ) → IsWhole c.flat.types lt → IsPointer c.flat.types ty → OperatorFollows (operator.ForwardOf ty) lt ty ty
  forward_of_case ty lt left pointer d place label a (Constant z) v w made s ts used fit fit' ready oa va ob wb may room stands =
      absurd (never_constant (Constant z) fit')
  forward_of_case ty lt left pointer d place label a (Var t) v w made s ts used fit fit' ready oa va ob wb may room stands =
      subst
      (λ code.
      Stands (commands c) place code
      → Follow c (with_result (stepped c.flat.types (target_of c.flat.types ty) (λ z. z) s.store w v) s (λ w s. Went w s)) (here c s ts place) s.marks
      (Arrives c ty made (Some d) used ts (here c s ts place) s.marks (place + length code)))
      (steps_of_code c set ty d t a lt ty label used)
      (λ stands.
      steps_follow Forward ty lt d place t a w v made s ts used pointer left ready ob wb oa va
      (room_there (is_converted (Var t) ty ty) (same_not_converted (Var t) ty) room) stands)
      stands
    where
      room_there : (second : Bool) → second ≡ false
          → ((k : ℕ) → used_if second (used_if (is_converted a lt (promoted lt)) used (promoted lt)) ty k ≤ c.pools k)
          → (k : ℕ) → used_if (is_converted a lt (promoted lt)) used (promoted lt) k ≤ c.pools k
      room_there true e room = cc
      room_there false e room = room

  difference_case : (ty : ℕ) → IsPointer c.flat.types ty → OperatorFollows (operator.Difference ty) ty ty (kind_number Long)
  difference_case ty pointer d place label (Constant z) b v w made s ts used fit fit' ready oa va ob wb may room stands =
      absurd (never_constant (Constant z) fit)
  difference_case ty pointer d place label (Var t) (Constant z) v w made s ts used fit fit' ready oa va ob wb may room stands =
      absurd (never_constant (Constant z) fit')
  difference_case ty pointer d place label (Var t) (Var u) v w made s ts used fit fit' ready oa va ob wb may room stands =
      let shape = subst (λ to. slice_get c.flat.types ty ≡ Some (Pointer to)) (sym (target_is ty pointer.0 pointer.1)) pointer.1 in
      subst
      (λ code.
      Stands (commands c) place code
      → Follow c (with_result (as_value (pointers.difference c.flat.types (target_of c.flat.types ty) s.store v w)) s (λ w s. Went w s)) (here c s ts place) s.marks
      (Arrives c (kind_number Long) made (Some d) used ts (here c s ts place) s.marks (place + length code)))
      (differences_code c set ty d t u ty label used)
      (λ stands. difference_follows c set ty (target_of c.flat.types ty) place d t u made s ts used v w shape ready oa va ob wb stands.0)
      stands

  -- any operator on what it takes
  pub applies_follow : (op : Operator) (lt rt ty : ℕ) → Applies c.flat.types op lt rt ty → OperatorFollows op lt rt ty
  applies_follow op lt rt ty (arithmetic o kind left right plain fit whole whole') =
      subst (λ t. OperatorFollows (operator.Arithmetic o kind) left right t) (kind_type kind) (arithmetic_case o kind left right whole whole')
  applies_follow op lt rt ty (shift o kind left right plain fit whole whole') =
      subst (λ t. OperatorFollows (operator.Shift o kind) left right t) (kind_type kind) (shift_case o kind left right whole whole')
  applies_follow op lt rt ty (compare how kind left right fit whole whole') = comparison_case how kind left right whole whole'
  applies_follow op lt rt ty (compare_pointers how to pointer) = pointers_case how to pointer
  applies_follow op lt rt ty (forward to right pointer whole) = forward_case to right pointer whole
  applies_follow op lt rt ty (back to right pointer whole) = back_case to right pointer whole
  applies_follow op lt rt ty (forward_of to left whole pointer) = forward_of_case to left whole pointer
  applies_follow op lt rt ty (difference to pointer) = difference_case to pointer
