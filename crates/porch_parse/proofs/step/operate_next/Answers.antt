use Rattle.std.proofs.Common.{ap, ◌∙◌, sym}
use Rattle.porch_parse.specs.Building.{Closed, ending, operated}
use Rattle.porch_parse.specs.Shown.{frames_of, operand_of}
use Rattle.porch_parse.proofs.Frames.{when_ok}
use Rattle.porch_parse.proofs.step.operate_next.Goals as goal

pub returns : goal.returns
returns c =
    when_ok c.operate.result (λ p h text. h text ∙ ap (λ (z : Closed). operated c.args.operator z.frames z.value) (sym (c.in_ok-value.ensures text))
    ∙ ap (λ n. ending (frames_of text c.args.frames.now) (operand_of text c.args.operand) n (operated c.args.operator)) c.number_of.ensures) c.operate.ensures
