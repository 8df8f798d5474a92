-- What the code's operands are in the definitions.
use Rattle.std.specs.Prelude.{ℕ, ◌≡◌, List, [], ◌∷◌, fold}
use Rattle.porch_typed.specs.Mirror.{Expression, conversion, discard}
use Rattle.porch_typed.specs.Views.{expression_of, place_of}
use Rattle.porch_check.specs.Shapes.{Shape, void, whole, pointer, array, structure, function, Member}
use Rattle.porch_check.specs.Scopes.{Library, of_printf, of_puts, of_putchar, of_malloc, of_calloc, of_free, of_checkpoint}
use Rattle.porch_check.specs.Operands.{Value, integer, address, no_address, record_of, nothing, Typed, Form, operand, place, literal, size, sized, callee, library_callee, null_as}
use Rattle.porch_check.specs.Operators.{Operation, operation}
use Rattle.porch_operands.specs.declared.operand.Value as code_value
use Rattle.porch_operands.specs.declared.operand.Value.TheVariants as value
use Rattle.porch_operands.specs.declared.operand.Sort as code_sort
use Rattle.porch_operands.specs.declared.operand.Library as code_library
use Rattle.porch_operands.specs.declared.operand.Library.TheVariants as library
use Rattle.porch_operands.specs.declared.operand.Typed as code_typed
use Rattle.porch_operands.specs.declared.operand.Form as code_form
use Rattle.porch_operands.specs.declared.operand.Form.TheVariants as form
use Rattle.porch_operands.specs.declared.operand.Becomes as code_becomes
use Rattle.porch_operands.specs.declared.operand.Becomes.TheVariants as becomes
use Rattle.porch_operands.specs.declared.operand.Operation as code_operation
use Rattle.porch_operands.specs.declared.table.Class as code_class
use Rattle.porch_operands.specs.declared.table.Class.TheVariants as class
use Rattle.porch_operands.specs.declared.table.Member as code_member

abbrev pub as_value : code_value.Value → Value
as_value (value.Integer kind) = integer kind
as_value (value.Address n to) = address n to
as_value value.NoAddress = no_address
as_value (value.Record n) = record_of n
as_value value.Nothing = nothing

-- a value with this tree
abbrev pub typed_with : Expression → code_sort.Sort → Typed
typed_with e s = record { tree = e; value = as_value s.value; is_zero = s.is_zero; is_allocation = s.is_allocation }

abbrev pub as_typed : code_typed.Typed → Typed
as_typed x = typed_with (expression_of x.tree) x.sort

abbrev pub as_library : code_library.Library → Library
as_library library.Printf = of_printf
as_library library.Puts = of_puts
as_library library.Putchar = of_putchar
as_library library.Malloc = of_malloc
as_library library.Calloc = of_calloc
as_library library.Free = of_free
as_library library.Checkpoint = of_checkpoint

abbrev pub as_form : code_form.Form → Form
as_form (form.Operand x) = operand (as_typed x)
as_form (form.Place p n) = place (place_of p) n
as_form (form.Literal bs) = literal bs
as_form (form.Size n) = size n
as_form (form.Sized x n) = sized (as_typed x) n
as_form (form.Callee at name) = callee (record { at = at; bytes = name.now })
as_form (form.LibraryCallee l) = library_callee (as_library l)

-- The code has the topmost last.
abbrev pub forms_of : List code_form.Form → List Form
forms_of = fold (λ below f. as_form f ∷ below) []

-- what becomes of a tree
abbrev pub became : code_becomes.Becomes → Expression → Expression
became becomes.Itself e = e
became (becomes.Null n) e = null_as e n
became (becomes.Converted kind) e = conversion kind e
became becomes.Discarded e = discard e

-- an operator with the tree to the right of it
abbrev pub operation_with : Expression → code_operation.Operation → Operation
operation_with e o = operation o.operator (became o.right e) (as_value o.value)

-- what a type is, what it is made of apart
abbrev pub class_of : Shape → code_class.Class
class_of void = class.Void
class_of (whole kind) = class.Whole kind
class_of (pointer to) = class.Pointer to
class_of (array of count) = class.Array of
class_of (structure n) = class.Structure
class_of (function result params) = class.Function

abbrev pub IsOfClass : Shape → code_class.Class → Type 0
IsOfClass x c = c ≡ class_of x

-- the member of a name
abbrev pub as_member : (name : List ℕ) → code_member.Member → Member
as_member name m = record { name = name; shape = m.shape; leaf = m.leaf }
