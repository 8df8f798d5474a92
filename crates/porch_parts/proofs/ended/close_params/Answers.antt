use Rattle.std.proofs.Common.{ap, ◌∙◌}
use Rattle.porch_parts.specs.Types.{behind_core, bracketed, place}
use Rattle.porch_parts.specs.Shown.{declaring_of, parts_of}
use Rattle.porch_parts.proofs.Voids.{when_ok}
use Rattle.porch_parts.proofs.ended.close_params.Goals as goal

pub returns : goal.returns
returns c =
    when_ok c.add_bracket.result (λ p h text parts v. h text parts
    ∙ ap (λ b. place (parts_of text parts) (behind_core (bracketed (declaring_of text c.args.declaring) b))) (c.bracket_from.ensures text v)) c.add_bracket.ensures
