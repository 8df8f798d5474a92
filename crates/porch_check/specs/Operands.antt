-- What an expression is found to be, and which kinds and types it is converted to.
use Rattle.std.specs.Prelude.{ℕ, nat_eq, Bool, true, false, ◌||◌, if◌then◌else◌, List, Option, Some, None, Result, Ok, Err}
use Rattle.porch_lex.specs.declared.refusal.Refusal.{Refusal}
use Rattle.porch_lex.specs.declared.refusal.Rule.TheVariants.{Mismatch, MixedLong}
use Rattle.porch_types.specs.declared.shapes.Kind.{Kind}
use Rattle.porch_types.specs.declared.shapes.Kind.TheVariants.{Int, UInt, Long, ULong}
use Rattle.porch_tree.specs.Mirror.{Name}
use Rattle.porch_typed.specs.Mirror.{Expression, constant, null_pointer, read, whole, first, conversion, sequence, no_expressions, with_expression, Place}
use Rattle.porch_check.specs.Refusals.{refuse}
use Rattle.porch_check.specs.Shapes.{Shape, void, pointer, array, structure, Shapes, shape_of}
use Rattle.porch_check.specs.Shapes as shape
use Rattle.porch_check.specs.Scopes.{Scopes, Library, with_shape}

-- the type of a value; an array's value is a pointer to its first element
pub data Value : Type 0 where
  integer : Kind → Value
  -- a pointer: its type, and the type that it points to
  address : (shape to : ℕ) → Value
  -- NULL, where no typed pointer stands opposite
  no_address : Value
  record_of : (shape : ℕ) → Value
  nothing : Value

pub record Typed : Type 0 where
  pub tree : Expression
  pub value : Value
  -- an integer constant of value 0, also in parentheses
  pub is_zero : Bool
  -- a call of malloc or calloc, also in parentheses
  pub is_allocation : Bool

-- What an expression is. The last four are found only where their context allows them.
pub data Form : Type 0 where
  operand : Typed → Form
  place : Place → (shape : ℕ) → Form
  literal : List ℕ → Form
  -- `sizeof` of a type in an allocation, alone or with a count
  size : (shape : ℕ) → Form
  sized : (count : Typed) → (shape : ℕ) → Form
  callee : Name → Form
  library_callee : Library → Form

-- Where an expression stands, as far as that allows a form which it is nowhere else.
pub data Context : Type 0 where
  plain : Context
  -- in front of the parentheses of a call
  called : Context
  -- an argument of printf or puts
  shown : Context
  -- the size of an allocation; the argument of malloc
  as_size : Context
  as_allocation : Context

-- a part of the text, with what it was found to be, and what is known behind it
abbrev pub Typing : Type 0 → Type 0
Typing A = Result (A × Scopes) Refusal

abbrev pub go_on : {A B : Type 0} → Typing A → (A → Scopes → Typing B) → Typing B
go_on (Ok x) go = go x.0 x.1
go_on (Err r) go = Err r

abbrev pub typed_as : Expression → Value → Typed
typed_as e v = record { tree = e; value = v; is_zero = false; is_allocation = false }

-- the value of an object of a type
abbrev pub value_in : Shape → ℕ → Value
value_in (shape.whole kind) n = integer kind
value_in (pointer to) n = address n to
value_in (structure m) n = record_of n
value_in x n = nothing

abbrev pub value_at : Shapes → ℕ → Value
value_at s n = value_in (shape_of s n) n

abbrev pub read_value : Shape → Place → ℕ → Scopes → Typing Typed
read_value (array of count) p n s = let r = with_shape (pointer of) s in Ok (typed_as (first r.0 p) (address r.0 of), r.1)
read_value (structure m) p n s = Ok (typed_as (whole n p) (record_of n), s)
read_value x p n s = Ok (typed_as (read n p) (value_in x n), s)

-- The value of a form where one is needed.
abbrev pub value_of : (at : ℕ) → Form → Scopes → Typing Typed
value_of at (operand x) s = Ok (x, s)
value_of at (place p n) s = read_value (shape_of s.shapes n) p n s
value_of at f s = refuse Mismatch at

abbrev pub used : (at : ℕ) → Typing Form → Typing Typed
used at r = go_on r (value_of at)

-- Integers.

abbrev pub promoted : Kind → Kind
promoted UInt = UInt
promoted Long = Long
promoted ULong = ULong
promoted kind = Int

-- the common kind of two promoted kinds, or none where unsigned int is joined with long
abbrev pub common_promoted : Kind → Kind → Option Kind
common_promoted ULong b = Some ULong
common_promoted a ULong = Some ULong
common_promoted Long UInt = None
common_promoted UInt Long = None
common_promoted Long b = Some Long
common_promoted a Long = Some Long
common_promoted UInt b = Some UInt
common_promoted a UInt = Some UInt
common_promoted a b = Some Int

abbrev pub if_common : {A : Type 0} → Option Kind → (at : ℕ) → (Kind → Result A Refusal) → Result A Refusal
if_common (Some kind) at go = go kind
if_common None at go = refuse MixedLong at

-- The common kind of two integers; MixedLong where unsigned int is joined with long.
abbrev pub joined_kinds : {A : Type 0} → (at : ℕ) → Kind → Kind → (Kind → Result A Refusal) → Result A Refusal
joined_kinds at a b go = if_common (common_promoted (promoted a) (promoted b)) at go

-- Pointers.

abbrev pub is_scalar : Value → Bool
is_scalar (integer kind) = true
is_scalar (address n to) = true
is_scalar no_address = true
is_scalar v = false

abbrev pub is_no_address : Value → Bool
is_no_address no_address = true
is_no_address v = false

-- the constant 0 and NULL agree with every pointer
abbrev pub is_null : Typed → Bool
is_null x = x.is_zero || is_no_address x.value

-- It becomes a null pointer of a type; what else it evaluates is evaluated first.
abbrev pub null_as : Expression → (shape : ℕ) → Expression
null_as (constant kind z) n = null_pointer n
null_as e n = sequence e (with_expression (null_pointer n) no_expressions)

abbrev pub if_null : Typed → (shape at : ℕ) → Result Expression Refusal
if_null x n at = if is_null x then Ok (null_as x.tree n) else refuse Mismatch at

-- What is assigned, an initialiser, an argument and a returned value become of the target's type.
abbrev pub fitted_to : Value → Typed → Value → (at : ℕ) → Result Expression Refusal
fitted_to (integer kind) x (integer k) at = Ok (conversion kind x.tree)
fitted_to (address n to) x (address m of) at = if nat_eq n m then Ok x.tree else refuse Mismatch at
fitted_to (address n to) x v at = if_null x n at
fitted_to (record_of n) x (record_of m) at = if nat_eq n m then Ok x.tree else refuse Mismatch at
fitted_to target x v at = refuse Mismatch at

abbrev pub fitted : (at : ℕ) → (target : ℕ) → Typed → Scopes → Result Expression Refusal
fitted at target x s = fitted_to (value_at s.shapes target) x x.value at
