use Rattle.std.proofs.Common.{ap, map, ◌∙◌}
use Rattle.porch_typed.specs.Mirror.{sequence}
use Rattle.porch_typed.specs.Views.{expression_of, expressions_of}
use Rattle.porch_rows.proofs.Heads.{expressions_grow}
use Rattle.porch_rows.proofs.rows.with_sequence.Goals as goal

pub returns : goal.returns
returns c =
    c.sequence_of.ensures
    ∙ ap (λ xs. sequence (expression_of c.args.first) (expressions_of (map expression_of xs))) c.in_ok-push.ensures.ok
    ∙ ap (sequence (expression_of c.args.first)) (expressions_grow c.args.more c.args.operand)
