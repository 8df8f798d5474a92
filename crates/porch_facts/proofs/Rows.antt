-- Rows as plain data.
use Rattle.std.proofs.Common.{◌≡◌, List, map, sym, ap, ◌∙◌}
use Rattle.porch_typed.specs.declared.typed.Operator.{Operator}
use Rattle.porch_typed.specs.declared.typed.Expression as code_expression
use Rattle.porch_typed.specs.declared.typed.Expression.TheVariants.{Row, rolls-Row}
use Rattle.porch_typed.specs.Mirror.{Expression, row, Place, Print}
use Rattle.porch_typed.specs.Views.{expression_of, expression_step, place_step, print_step, steps_of}
use Rattle.porch_facts.specs.inside.Rows.{step_of}

pub row_view : (e first : code_expression.Expression) (steps : List (Operator × code_expression.Expression)) → e ≡ Row first steps → expression_of e ≡ row (expression_of first) (steps_of (map step_of steps))
row_view e first steps h =
    ap expression_of (h ∙ sym (rolls-Row first steps))
    ∙ code_expression.fold-roll-Expression Expression Place Print expression_step place_step print_step _
