-- Steps of rows.
use Rattle.std.specs.Prelude.{ℕ}
use Rattle.porch_typed.specs.declared.typed.Operator.{Operator}
use Rattle.porch_typed.specs.declared.typed.Expression as code_expression
use Rattle.porch_typed.specs.Mirror.{Expression}
use Rattle.porch_typed.specs.Views.{expression_of}
use Rattle.porch_check.specs.Sealing.{sealed, sealed_operator}

-- a step of the code's row
abbrev pub step_of : Operator × code_expression.Expression → Operator × Expression
step_of x = (x.0, expression_of x.1)

abbrev pub sealed_step : (seal : ℕ → ℕ) → Operator × Expression → Operator × Expression
sealed_step seal x = (sealed_operator seal x.0, sealed seal x.1)
