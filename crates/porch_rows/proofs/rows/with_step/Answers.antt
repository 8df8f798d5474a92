use Rattle.std.proofs.Common.{ap, map, ◌∙◌}
use Rattle.porch_typed.specs.Mirror.{row}
use Rattle.porch_typed.specs.Views.{expression_of, steps_of}
use Rattle.porch_rows.specs.inside.Parts.{step_of}
use Rattle.porch_rows.proofs.Heads.{steps_grow}
use Rattle.porch_rows.proofs.rows.with_step.Goals as goal

pub returns : goal.returns
returns c =
    c.row_of.ensures
    ∙ ap (λ xs. row (expression_of c.args.first) (steps_of (map step_of xs))) c.in_ok-push.ensures.ok
    ∙ ap (row (expression_of c.args.first)) (steps_grow c.args.steps c.args.operator c.args.operand)
