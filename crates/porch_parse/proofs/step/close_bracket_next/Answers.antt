use Rattle.std.proofs.Common.{ap, ◌∙◌, sym}
use Rattle.porch_parse.specs.Building.{Closed, behind_bracket}
use Rattle.porch_parse.proofs.Frames.{when_ok}
use Rattle.porch_parse.proofs.step.close_bracket_next.Goals as goal

pub returns : goal.returns
returns c =
    when_ok c.end_bracket.result (λ p h text. h text ∙ ap (λ (z : Closed). behind_bracket z.frames z.value) (sym (c.in_ok-value.ensures text))) c.end_bracket.ensures
