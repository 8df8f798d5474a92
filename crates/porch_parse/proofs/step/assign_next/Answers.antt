use Rattle.std.proofs.Common.{ap, ◌∙◌, sym}
use Rattle.porch_parse.specs.Building.{Closed, assigned}
use Rattle.porch_parse.proofs.Frames.{when_ok}
use Rattle.porch_parse.proofs.step.assign_next.Goals as goal

pub returns : goal.returns
returns c =
    when_ok c.assign.result (λ p h text. h text ∙ ap (λ (z : Closed). assigned c.args.assigning z.frames z.value) (sym (c.in_ok-value.ensures text))) c.assign.ensures
