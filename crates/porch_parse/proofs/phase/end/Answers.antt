use Rattle.std.proofs.Common.{ap, ◌∙◌, sym}
use Rattle.porch_parse.specs.Building.{closed}
use Rattle.porch_parse.specs.Shown.{frames_of}
use Rattle.porch_parse.proofs.Frames.{when_ok}
use Rattle.porch_parse.proofs.phase.end.Goals as goal

pub returns : goal.returns
returns c =
    when_ok c.close.result (λ e h text. ap (closed c.args.number (frames_of text c.args.frames.now)) (sym (c.in_ok-value.ensures text)) ∙ h text) c.close.ensures
