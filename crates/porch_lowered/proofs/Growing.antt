-- The code of each expression takes at least the temporaries that were in use before it.
use Rattle.std.proofs.Common.{◌≤◌, ℕ, ℤ, ◌+◌, [], ◌∷◌, max, arith, inl, inr, Bool, true, false, Option, Some, None}
use Rattle.std.proofs.lemmas.Bool.Decides.{eqb_tells}
use Rattle.std.specs.Prelude.{nat_eq, if◌then◌else◌, slice_get, unwrap_or, pos}
use Rattle.porch_types.specs.declared.shapes.Ty.{Ty}
use Rattle.porch_types.specs.declared.shapes.Ty.TheVariants.{Whole, Pointer, Array, Struct}
use Rattle.porch_flat.specs.declared.flat.Operand.{Operand}
use Rattle.porch_flat.specs.declared.flat.Operand.TheVariants.{Var, Constant}
use Rattle.porch_flat.specs.declared.whole.Command.TheVariants as command
use Rattle.porch_types.specs.Kinds.{kind_number}
use Rattle.porch_mean.specs.Operators.{increment_of}
use Rattle.porch_typed.specs.declared.typed.Operator.{Operator}
use Rattle.porch_typed.specs.Mirror.{Expression, Expressions, Steps, Place, Print, Prints, Program}
use Rattle.porch_typed.specs.Mirror as tree
use Rattle.porch_lowering.specs.Code.{InUse, and_one, Code, plain, no_code, Coder, hold}
use Rattle.porch_lowering.specs.Values.{INT, type_held, pointer_to, may_lack, constant_of, variable_of, no_constant, atom_of, pointer_in}
use Rattle.porch_lowering.specs.Operators.{right_accepts}
use Rattle.porch_lowering.specs.Expression.{writes_last, place_type, next, with_target, change_variable, change_place, assign_variable, assign_place, copy_struct, assign_by_shape, by_variable, converted_already, convert_to, member_code, read_code, test, put_code, code, place_code, steps_code, arguments_code, print_arguments_code, print_argument_code, kept_code}

-- where the code of a value takes as many temporaries as were in use
abbrev pub Grows : Coder → Type 0
Grows coder = (to : Option ℕ) (used : InUse) (label t : ℕ) → used t ≤ (coder to used label).most t

first : (x a b : ℕ) → x ≤ a → x ≤ max a b
first x a b h = omega (arith, h)

through : (x y z : ℕ) → x ≤ y → y ≤ z → x ≤ z
through x y z h k = omega (arith, h, k)

same : (x : ℕ) → x ≤ x
same x = omega arith

-- one more in use
one_grows : (ty : ℕ) (used : InUse) (t : ℕ) → used t ≤ and_one ty used t
one_grows ty used t =
    elim (eqb_tells t ty) [
      | inl w ↦ rw w.0 (let h : used t ≤ used t + 1 = omega arith in h)
      | inr w ↦ rw w.0 (same (used t))
    ]

-- a value is held
pub hold_grows : (o : Option Operand) (x ty : ℕ) (value : Coder) → Grows value → (used : InUse) (label t : ℕ)
    → used t ≤ (hold o x ty value used label).code.most t
hold_grows (Some o) x ty value g used label t = same (used t)
hold_grows None x ty value g used label t = through (used t) (and_one ty used t) _ (one_grows ty used t) (g (Some x) (and_one ty used) label t)

module _ (p : Program) (start : ℕ → ℕ) where
  target_grows : (to : Option ℕ) (ty : ℕ) (used : InUse) (t : ℕ) → used t ≤ with_target p start to ty used t
  target_grows None ty used t = one_grows ty used t
  target_grows (Some d) ty used t = same (used t)

  hold_behind : (to : Option ℕ) (own : ℕ) (o : Option Operand) (x ty : ℕ) (value : Coder) → Grows value → (used : InUse) (label t : ℕ)
      → used t ≤ (hold o x ty value (with_target p start to own used) label).code.most t
  hold_behind to own o x ty value g used label t =
      through (used t) (with_target p start to own used t) _ (target_grows to own used t) (hold_grows o x ty value g (with_target p start to own used) label t)

  by_grows : (v : Option ℕ) (direct : ℕ → Coder) (indirect : Coder) → ((v : ℕ) → Grows (direct v)) → Grows indirect
      → Grows (by_variable p start v direct indirect)
  by_grows (Some v) direct indirect g h = g v
  by_grows None direct indirect g h = h

  shape_grows : (shape : Option Ty) (v : Option ℕ) (struct direct indirect : Coder) → Grows struct → Grows direct → Grows indirect
      → Grows (assign_by_shape p start shape v struct direct indirect)
  shape_grows None None struct direct indirect f g h = h
  shape_grows None (Some v) struct direct indirect f g h = g
  shape_grows (Some (Whole kind)) None struct direct indirect f g h = h
  shape_grows (Some (Whole kind)) (Some v) struct direct indirect f g h = g
  shape_grows (Some (Pointer to)) None struct direct indirect f g h = h
  shape_grows (Some (Pointer to)) (Some v) struct direct indirect f g h = g
  shape_grows (Some (Array of count)) None struct direct indirect f g h = h
  shape_grows (Some (Array of count)) (Some v) struct direct indirect f g h = g
  shape_grows (Some (Struct members)) None struct direct indirect f g h = f
  shape_grows (Some (Struct members)) (Some v) struct direct indirect f g h = f

  pub read_grows : (ty : ℕ) (pointer : Option Operand) (pointer_ty : ℕ) (place : Coder) → Grows place → Grows (read_code p start ty pointer pointer_ty place)
  read_grows ty pointer pointer_ty place g to used label t =
      hold_behind to ty pointer (next p start pointer_ty (with_target p start to ty used)) pointer_ty place g used label t

  pub already_grows : (lacks : Bool) (kind : ℕ) (value : Coder) → Grows value → Grows (converted_already p start lacks kind value)
  already_grows true kind value g to used label t =
      through (used t) (with_target p start to kind used t) _ (target_grows to kind used t) (g _ (with_target p start to kind used) label t)
  already_grows false kind value g to used label t = g to used label t

  converts_grow : (same : Bool) (a b : Code) (x t : ℕ) → x ≤ a.most t → x ≤ b.most t → x ≤ (if same then a else b).most t
  converts_grow true a b x t g h = g
  converts_grow false a b x t g h = h

  pub convert_grows : (kind : ℕ) (z : Option ℤ) (ty : ℕ) (lacks : Bool) (in_place : Option Operand) (value : Coder) → Grows value
      → Grows (convert_to p start kind z ty lacks in_place value)
  convert_grows kind (Some z) ty lacks in_place value g to used label t = same (used t)
  convert_grows kind None ty lacks in_place value g to used label t =
      converts_grow (nat_eq ty kind) _ _ (used t) t (already_grows lacks kind value g to used label t)
      (hold_behind to kind in_place (next p start ty (with_target p start to kind used)) ty value g used label t)

  assign_grows : (ty v : ℕ) (writes_last : Bool) (value : Coder) → Grows value → Grows (assign_variable p start ty v writes_last value)
  assign_grows ty v true value g to used label t = g (Some v) used label t
  assign_grows ty v false value g to used label t =
      through (used t) (and_one ty used t) _ (one_grows ty used t) (g _ (and_one ty used) label t)

  place_grows : (ty : ℕ) (pointer : Option Operand) (pointer_ty : ℕ) (place : Coder) (in_place : Option Operand) (value : Coder) → Grows place
      → Grows (assign_place p start ty pointer pointer_ty place in_place value)
  place_grows ty pointer pointer_ty place in_place value g to used label t =
      first (used t) _ _ (hold_grows _ (next p start pointer_ty used) pointer_ty place g used label t)

  copy_grows : (pointer_ty : ℕ) (place value : Coder) → Grows place → Grows (copy_struct p start pointer_ty place value)
  copy_grows pointer_ty place value g to used label t =
      first (used t) _ _ (hold_grows None (next p start pointer_ty used) pointer_ty place g used label t)

  change_grows : (ty : ℕ) (op : Operator) (v : ℕ) (in_place : Option Operand) (right_ty : ℕ) (right : Coder) (is_new : Bool)
      → Grows (change_variable p start ty op v in_place right_ty right is_new)
  change_grows ty op v in_place right_ty right is_new to used label t =
      first (used t) _ _
      (hold_grows _ (Rattle.porch_lowering.specs.Operators.next_of start ty used) ty
      (λ d used label. plain (Rattle.porch_lowering.specs.Expression.moved_to d (Var v)) used label) (λ d used label t. same (used t)) used label t)

  change_place_grows : (ty : ℕ) (op : Operator) (pointer : Option Operand) (pointer_ty : ℕ) (place : Coder) (in_place : Option Operand) (right_ty : ℕ)
      (right : Coder) (is_new : Bool) → Grows place → Grows (change_place p start ty op pointer pointer_ty place in_place right_ty right is_new)
  change_place_grows ty op pointer pointer_ty place in_place right_ty right is_new g to used label t =
      first (used t) _ _ (hold_grows _ (next p start pointer_ty used) pointer_ty place g used label t)

  pub member_grows : (shape : Option Ty) (ty leaf struct_ty : ℕ) (value : Coder) → Grows value → Grows (member_code p start shape ty leaf struct_ty value)
  member_grows (Some (Struct members)) ty leaf struct_ty value g to used label t =
      hold_behind to _ None _ struct_ty value g used label t
  member_grows None ty leaf struct_ty value g to used label t = first (used t) _ _ (hold_behind to ty None _ struct_ty value g used label t)
  member_grows (Some (Whole kind)) ty leaf struct_ty value g to used label t =
      first (used t) _ _ (hold_behind to ty None _ struct_ty value g used label t)
  member_grows (Some (Pointer x)) ty leaf struct_ty value g to used label t =
      first (used t) _ _ (hold_behind to ty None _ struct_ty value g used label t)
  member_grows (Some (Array of count)) ty leaf struct_ty value g to used label t =
      first (used t) _ _ (hold_behind to ty None _ struct_ty value g used label t)

  put_grows : (to : Option ℕ) (x : Rattle.porch_lowering.specs.Code.Held) (y t : ℕ) → y ≤ x.code.most t → y ≤ (put_code p start to x).most t
  put_grows None x y t h = first y _ _ h
  put_grows (Some d) x y t h = first y _ _ h

  test_grows : (e : Expression) (value : Coder) → Grows value → (to : ℕ) (used : InUse) (label t : ℕ)
      → used t ≤ (test p start e value to used label).most t
  test_grows e value g to used label t = first (used t) _ _ (hold_grows _ (next p start (type_held p e) used) (type_held p e) value g used label t)

  kept_grows : (lacks : Bool) (ty : ℕ) (value : Coder) → Grows value → (used : InUse) (label t : ℕ)
      → used t ≤ (kept_code p start lacks ty value used label).most t
  kept_grows lacks ty value g used label t = through (used t) (and_one ty used t) _ (one_grows ty used t) (g _ (and_one ty used) label t)

  mutual
    pub code_grows : (e : Expression) → Grows (code p start e)
    code_grows (tree.constant kind z) to used label t = same (used t)
    code_grows (tree.null_pointer ty) to used label t = same (used t)
    code_grows (tree.read ty place) to used label t =
        by_grows (variable_of place) (λ v to used label. plain (command.Move (unwrap_or to v) (Var v) ∷ []) used label)
        (read_code p start ty (pointer_in place) (place_type p start place ty) (place_code p start place None)) (λ v to used label t. same (used t))
        (read_grows ty (pointer_in place) (place_type p start place ty) (place_code p start place None) (place_code_grows place None)) to used label t
    code_grows (tree.whole ty place) to used label t =
        through (used t) _ _ (target_grows to _ used t) (place_code_grows place (Some 0) _ _ label t)
    code_grows (tree.address ty place) to used label t =
        through (used t) _ _ (target_grows to _ used t) (place_code_grows place None _ _ label t)
    code_grows (tree.first ty place) to used label t =
        through (used t) _ _ (target_grows to _ used t) (place_code_grows place (Some 0) _ _ label t)
    code_grows (tree.row e steps) to used label t =
        first (used t) _ _ (hold_grows _ (next p start (type_held p e) used) (type_held p e) (code p start e) (code_grows e) used label t)
    code_grows (tree.all_of e es) to used label t =
        first (used t) _ _
        (through (used t) _ _ (target_grows to _ used t) (test_grows e (code p start e) (code_grows e) _ (with_target p start to _ used) _ t))
    code_grows (tree.any_of e es) to used label t =
        first (used t) _ _
        (through (used t) _ _ (target_grows to _ used t) (test_grows e (code p start e) (code_grows e) _ (with_target p start to _ used) _ t))
    code_grows (tree.unary op kind e) to used label t =
        first (used t) _ _ (hold_behind to _ _ _ (type_held p e) (code p start e) (code_grows e) used label t)
    code_grows (tree.isnt e) to used label t =
        first (used t) _ _ (hold_behind to _ _ _ (type_held p e) (code p start e) (code_grows e) used label t)
    code_grows (tree.choice ty e a b) to used label t =
        first (used t) _ _ (test_grows e (code p start e) (code_grows e) label used _ t)
    code_grows (tree.sequence e es) to used label t = first (used t) _ _ (code_grows e None used label t)
    code_grows (tree.assign ty place e) to used label t =
        let pointer_ty = pointer_to p ty in
        let v = unwrap_or (variable_of place) 0 in
        let in_place = atom_of (λ z. true) e in
        shape_grows (slice_get p.types ty) (variable_of place) (copy_struct p start pointer_ty (place_code p start place None) (code p start e))
        (assign_variable p start ty v (writes_last p e) (code p start e))
        (assign_place p start ty (pointer_in place) (place_type p start place ty) (place_code p start place None) in_place (code p start e))
        (copy_grows pointer_ty (place_code p start place None) (code p start e) (place_code_grows place None))
        (assign_grows ty v (writes_last p e) (code p start e) (code_grows e))
        (place_grows ty (pointer_in place) (place_type p start place ty) (place_code p start place None) in_place (code p start e) (place_code_grows place None))
        to used label t
    code_grows (tree.assign_by ty op place e) to used label t =
        let in_place = atom_of (right_accepts op) e in
        by_grows (variable_of place) (λ v. change_variable p start ty op v in_place (type_held p e) (code p start e) true)
        (change_place p start ty op (pointer_in place) (place_type p start place ty) (place_code p start place None) in_place (type_held p e) (code p start e) true)
        (λ v. change_grows ty op v in_place (type_held p e) (code p start e) true)
        (change_place_grows ty op (pointer_in place) (place_type p start place ty) (place_code p start place None) in_place (type_held p e) (code p start e) true (place_code_grows place None))
        to used label t
    code_grows (tree.increment ty before way place) to used label t =
        let op = increment_of (slice_get p.types ty) ty way in
        let one = Some (Constant (pos 1)) in
        by_grows (variable_of place) (λ v. change_variable p start ty op v one INT (λ to used label. no_code used label) before)
        (change_place p start ty op (pointer_in place) (place_type p start place ty) (place_code p start place None) one INT (λ to used label. no_code used label) before)
        (λ v. change_grows ty op v one INT (λ to used label. no_code used label) before)
        (change_place_grows ty op (pointer_in place) (place_type p start place ty) (place_code p start place None) one INT (λ to used label. no_code used label) before (place_code_grows place None))
        to used label t
    code_grows (tree.conversion kind e) to used label t =
        convert_grows (kind_number kind) (constant_of (tree.conversion kind e)) (type_held p e) (may_lack e) (atom_of no_constant e) (code p start e) (code_grows e) to used label t
    code_grows (tree.discard e) to used label t = code_grows e None used label t
    code_grows (tree.member_of ty leaf e) to used label t = member_grows (slice_get p.types ty) ty leaf (type_held p e) (code p start e) (code_grows e) to used label t
    code_grows (tree.call function es) to used label t = arguments_grow es used label t
    code_grows (tree.put_character e) to used label t =
        put_grows to _ (used t) t (hold_grows _ _ _ (code p start e) (code_grows e) used label t)
    code_grows (tree.put_text e) to used label t = first (used t) _ _ (hold_grows _ _ _ (code p start e) (code_grows e) used label t)
    code_grows (tree.put_literal bs) to used label t = one_grows _ used t
    code_grows (tree.print xs) to used label t = first (used t) _ _ (prints_grow xs used label t)
    code_grows (tree.allocate ty zeroed e) to used label t =
        first (used t) _ _ (hold_behind to _ _ _ (type_held p e) (code p start e) (code_grows e) used label t)
    code_grows (tree.release e) to used label t = hold_grows _ _ _ (code p start e) (code_grows e) used label t
    code_grows tree.checkpoint to used label t = same (used t)

    pub place_code_grows : (place : Place) (behind : Option ℕ) → Grows (place_code p start place behind)
    place_code_grows (tree.variable v) behind to used label t = same (used t)
    place_code_grows (tree.global g) behind to used label t = same (used t)
    place_code_grows (tree.pointee e) None to used label t = code_grows e to used label t
    place_code_grows (tree.pointee e) (Some leaf) to used label t = hold_grows _ _ _ (code p start e) (code_grows e) used label t
    place_code_grows (tree.member leaf place) behind to used label t = place_code_grows place _ to used label t

    pub steps_grow : (steps : Steps) (left : Operand) (ty : ℕ) (free : InUse) (to : Option ℕ) (used : InUse) (label t : ℕ)
        → used t ≤ (steps_code p start steps left ty free to used label).most t
    steps_grow tree.no_steps left ty free to used label t = same (used t)
    steps_grow (tree.with_step op e steps) left ty free to used label t =
        first (used t) _ _ (hold_grows _ _ (type_held p e) (code p start e) (code_grows e) used label t)

    arguments_grow : (es : Expressions) (used : InUse) (label t : ℕ) → used t ≤ (arguments_code p start es used label).most t
    arguments_grow tree.no_expressions used label t = same (used t)
    arguments_grow (tree.with_expression e es) used label t =
        first (used t) _ _ (hold_grows _ _ _ (code p start e) (code_grows e) used label t)

    prints_grow : (xs : Prints) (used : InUse) (label t : ℕ) → used t ≤ (print_arguments_code p start xs used label).most t
    prints_grow tree.no_prints used label t = same (used t)
    prints_grow (tree.with_print x xs) used label t = first (used t) _ _ (print_grows x used label t)

    print_grows : (x : Print) (used : InUse) (label t : ℕ) → used t ≤ (print_argument_code p start x used label).most t
    print_grows (tree.bytes bs) used label t = same (used t)
    print_grows (tree.literal bs) used label t = same (used t)
    print_grows (tree.number how e) used label t = kept_grows (may_lack e) (type_held p e) (code p start e) (code_grows e) used label t
    print_grows (tree.text e) used label t = kept_grows (may_lack e) (type_held p e) (code p start e) (code_grows e) used label t
