-- What the code's arguments are in the definitions.
use Rattle.std.specs.Prelude.{ℕ, List, map, reverse}
use Rattle.porch_check.specs.Operands.{Typed}
use Rattle.porch_check.specs.Calls.{Argument}
use Rattle.porch_operands.specs.Views.{as_form, as_typed}
use Rattle.porch_arguments.specs.declared.argument.Argument as code_argument
use Rattle.porch_arguments.specs.declared.argument.Valued as code_valued

abbrev pub as_argument : code_argument.Argument → Argument
as_argument a = record { at = a.at; form = as_form a.form }

abbrev pub as_valued : code_valued.Valued → ℕ × Typed
as_valued v = (v.at, as_typed v.value)

-- arguments of which the code has the first last
abbrev pub left : List code_argument.Argument → List Argument
left turned = map as_argument (reverse turned)
