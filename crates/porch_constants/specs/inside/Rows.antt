-- Operands of rows.
use Rattle.std.specs.Prelude.{pos, not}
use Rattle.porch_typed.specs.declared.typed.Operator.{Operator}
use Rattle.porch_typed.specs.declared.typed.Expression as code_expression
use Rattle.porch_typed.specs.Mirror.{Expression}
use Rattle.porch_typed.specs.Views.{expression_of}
use Rattle.porch_check.specs.Constants.{Folded, known, as_int, if_also, if_known, truth}

-- a step of the code's row
abbrev pub step_of : Operator × code_expression.Expression → Operator × Expression
step_of x = (x.0, expression_of x.1)

abbrev pub as_truth : Folded → Folded
as_truth f = if_known f (λ z. known (as_int (truth z)))

abbrev pub opposite : Folded → Folded
opposite f = if_known f (λ z. known (as_int (not (truth z))))

-- an operand behind others, of `&&` and of `||`

abbrev pub behind_all : Folded → Folded → Folded
behind_all f g = if_also f g (λ z. not (truth z)) (pos 0) g

abbrev pub behind_any : Folded → Folded → Folded
behind_any f g = if_also f g truth (pos 1) g
