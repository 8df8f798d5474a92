-- Operands of rows.
use Rattle.std.specs.Prelude.{Bool, true, false, Option, Some, None}
use Rattle.porch_types.specs.declared.shapes.Ty.{Ty}
use Rattle.porch_types.specs.declared.shapes.Ty.TheVariants.{Struct}
use Rattle.porch_typed.specs.declared.typed.Operator.{Operator}
use Rattle.porch_typed.specs.declared.typed.Expression as code_expression
use Rattle.porch_typed.specs.Mirror.{Expression}
use Rattle.porch_typed.specs.Views.{expression_of}

-- a step of the code's row
abbrev pub step_of : Operator × code_expression.Expression → Operator × Expression
step_of x = (x.0, expression_of x.1)

abbrev pub is_struct : Option Ty → Bool
is_struct (Some (Struct members)) = true
is_struct shape = false
