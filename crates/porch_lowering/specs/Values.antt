-- What is known of an expression before it becomes code: its type, whether it may come out without a value, and whether it is
-- a constant or a variable, which commands take as an operand where it stands.
use Rattle.std.specs.Prelude.{ℕ, ℤ, pos, nat_eq, Bool, true, false, ◌||◌, slice_get, slice_index, if◌then◌else◌, Option, Some, None}
use Rattle.porch_types.specs.declared.shapes.Kind.{Kind}
use Rattle.porch_types.specs.declared.shapes.Kind.TheVariants.{Int, Long}
use Rattle.porch_types.specs.declared.shapes.Ty.{Ty}
use Rattle.porch_types.specs.declared.shapes.Ty.TheVariants.{Struct}
use Rattle.porch_types.specs.Kinds.{kind_number}
use Rattle.porch_values.specs.Integers.{in_range}
use Rattle.porch_flat.specs.declared.flat.Operand.{Operand}
use Rattle.porch_flat.specs.declared.flat.Operand.TheVariants.{Var, Constant}
use Rattle.porch_typed.specs.declared.typed.Operator.{Operator}
use Rattle.porch_typed.specs.declared.typed.Operator.TheVariants as operator
use Rattle.porch_typed.specs.Mirror.{Expression, Expressions, Steps, Place, Function, Program}
use Rattle.porch_typed.specs.Mirror as tree

abbrev pub INT : ℕ
INT = kind_number Int

abbrev pub LONG : ℕ
LONG = kind_number Long

-- the type of what an operator gives
abbrev pub operator_type : Operator → ℕ
operator_type (operator.Arithmetic op kind) = kind_number kind
operator_type (operator.Shift op kind) = kind_number kind
operator_type (operator.Compare c kind) = INT
operator_type (operator.ComparePointers c ty) = INT
operator_type (operator.Forward ty) = ty
operator_type (operator.Back ty) = ty
operator_type (operator.ForwardOf ty) = ty
operator_type (operator.Difference ty) = LONG

-- the type of a row of operators behind an operand of a type
abbrev pub steps_type : Steps → Option ℕ → Option ℕ
steps_type tree.no_steps ty = ty
steps_type (tree.with_step op e steps) ty = steps_type steps (Some (operator_type op))

-- the type of what a function gives
abbrev pub result_of : Option Function → Option ℕ
result_of None = None
result_of (Some f) = f.result

module _ (p : Program) where
  -- the type of the pointers to a type
  abbrev pub pointer_to : ℕ → ℕ
  pointer_to ty = slice_index p.pointers ty

  abbrev mutual
    -- the type of an expression, and none where it is void
    pub type_of : Expression → Option ℕ
    type_of (tree.constant kind z) = Some (kind_number kind)
    type_of (tree.null_pointer ty) = Some ty
    type_of (tree.read ty place) = Some ty
    type_of (tree.whole ty place) = Some ty
    type_of (tree.address ty place) = Some ty
    type_of (tree.first ty place) = Some ty
    type_of (tree.row e steps) = steps_type steps (type_of e)
    type_of (tree.all_of e es) = Some INT
    type_of (tree.any_of e es) = Some INT
    type_of (tree.unary op kind e) = Some (kind_number kind)
    type_of (tree.isnt e) = Some INT
    type_of (tree.choice ty e a b) = ty
    type_of (tree.sequence e es) = last_type es (type_of e)
    type_of (tree.assign ty place e) = Some ty
    type_of (tree.assign_by ty op place e) = Some ty
    type_of (tree.increment ty before way place) = Some ty
    type_of (tree.conversion kind e) = Some (kind_number kind)
    type_of (tree.discard e) = None
    type_of (tree.member_of ty leaf e) = Some ty
    type_of (tree.call function es) = result_of (slice_get p.functions function)
    type_of (tree.put_character e) = Some INT
    type_of (tree.put_text e) = Some INT
    type_of (tree.put_literal bs) = Some INT
    type_of (tree.print xs) = Some INT
    type_of (tree.allocate ty zeroed e) = Some ty
    type_of (tree.release e) = None
    type_of tree.checkpoint = None

    pub last_type : Expressions → Option ℕ → Option ℕ
    last_type tree.no_expressions ty = ty
    last_type (tree.with_expression e es) ty = last_type es (type_of e)

  -- The type of the variable that holds a value: a struct is held as a pointer to it. What is void is held in none.
  abbrev pub held_as : Option Ty → (ty : ℕ) → ℕ
  held_as (Some (Struct members)) ty = pointer_to ty
  held_as shape ty = ty

  abbrev pub held_type : Option ℕ → ℕ
  held_type None = INT
  held_type (Some ty) = held_as (slice_get p.types ty) ty

  abbrev pub type_held : Expression → ℕ
  type_held e = held_type (type_of e)

-- Whether a value may be missing when the expression is over: that of a call may, and is handed on through `?:` and commas.
abbrev mutual
  pub may_lack : Expression → Bool
  may_lack (tree.call function es) = true
  may_lack (tree.choice ty e a b) = may_lack a || may_lack b
  may_lack (tree.sequence e es) = last_may_lack es (may_lack e)
  may_lack e = false

  pub last_may_lack : Expressions → Bool → Bool
  last_may_lack tree.no_expressions lacks = lacks
  last_may_lack (tree.with_expression e es) lacks = last_may_lack es (may_lack e)

-- a value that an operand may be
abbrev pub only : Bool → ℤ → Option ℤ
only accepted z = if accepted then Some z else None

abbrev pub only_in : Kind → Option ℤ → Option ℤ
only_in kind None = None
only_in kind (Some z) = only (in_range kind 32 z) z

-- the value of a constant, also one that a conversion leaves as it is; null is 0
abbrev pub constant_of : Expression → Option ℤ
constant_of (tree.constant kind z) = Some z
constant_of (tree.null_pointer ty) = Some (pos 0)
constant_of (tree.conversion kind e) = only_in kind (constant_of e)
constant_of e = None

-- the variable that is read
abbrev pub variable_of : Place → Option ℕ
variable_of (tree.variable v) = Some v
variable_of place = None

-- the variable of a type that is read
abbrev pub variable_read_as : (ty : ℕ) → Expression → Option ℕ
variable_read_as ty (tree.read own place) = if nat_eq own ty then variable_of place else None
variable_read_as ty e = None

-- also where a conversion leaves its type as it is
abbrev pub variable_read : Expression → Option ℕ
variable_read (tree.read ty place) = variable_of place
variable_read (tree.conversion kind e) = variable_read_as (kind_number kind) e
variable_read e = None

-- which constants may stand as an operand
abbrev pub Accepts : Type 0
Accepts = ℤ → Bool

abbrev pub no_constant : Accepts
no_constant z = false

-- those of a kind, in each width of long
abbrev pub constant_in : Kind → Accepts
constant_in kind z = in_range kind 32 z

abbrev pub constant_operand : Accepts → Option ℤ → Option Operand
constant_operand accepts None = None
constant_operand accepts (Some z) = if accepts z then Some (Constant z) else None

abbrev pub operand_or : Option Operand → Option ℕ → Option Operand
operand_or (Some o) v = Some o
operand_or None None = None
operand_or None (Some v) = Some (Var v)

-- the expression as an operand where it stands
abbrev pub atom_of : Accepts → Expression → Option Operand
atom_of accepts e = operand_or (constant_operand accepts (constant_of e)) (variable_read e)

-- the variable that a pointer stands in
abbrev pub pointer_in : Place → Option Operand
pointer_in (tree.pointee e) = operand_or None (variable_read e)
pointer_in place = None
