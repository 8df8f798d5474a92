use Rattle.std.proofs.Common.{sym, ap, ◌∙◌, arith}
use Rattle.porch_lex.specs.Gaps.{is_comment_end}
use Rattle.porch_lex.proofs.Lengths.{comment_goes}
use Rattle.porch_lex.proofs.gap.comment_length.Goals as goal

pub loop-at-preserved : goal.loop-at-preserved
loop-at-preserved c = (
  omega arith,
  comment_goes c.args.text.now c.loop-at.at c.loop-at-test.true
      (sym (ap is_comment_end c.rest_from.ensures) ∙ sym c.is_comment_end.ensures ∙ c.if-is_comment_end.false) c.loop-at.invariant.1,
)
