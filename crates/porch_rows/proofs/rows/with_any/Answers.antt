use Rattle.std.proofs.Common.{ap, map, ◌∙◌}
use Rattle.porch_typed.specs.Mirror.{any_of}
use Rattle.porch_typed.specs.Views.{expression_of, expressions_of}
use Rattle.porch_rows.proofs.Heads.{expressions_grow}
use Rattle.porch_rows.proofs.rows.with_any.Goals as goal

pub returns : goal.returns
returns c =
    c.any_of.ensures
    ∙ ap (λ xs. any_of (expression_of c.args.first) (expressions_of (map expression_of xs))) c.in_ok-push.ensures.ok
    ∙ ap (any_of (expression_of c.args.first)) (expressions_grow c.args.more c.args.operand)
