use Rattle.std.proofs.Common.{ap, ◌∙◌, sym}
use Rattle.porch_parse.specs.Building.{Closed, asked}
use Rattle.porch_parse.proofs.Frames.{when_ok}
use Rattle.porch_parse.proofs.step.ask_next.Goals as goal

pub returns : goal.returns
returns c =
    when_ok c.ask.result (λ p h text. h text ∙ ap (λ (z : Closed). asked z.frames z.value) (sym (c.in_ok-value.ensures text))) c.ask.ensures
