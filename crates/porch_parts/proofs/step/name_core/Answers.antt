use Rattle.std.proofs.Common.{ap, ◌∙◌}
use Rattle.porch_tree.specs.Mirror.{named}
use Rattle.porch_parts.specs.Types.{behind_core, declaring, place}
use Rattle.porch_parts.specs.Shown.{parts_of}
use Rattle.porch_parts.proofs.step.name_core.Goals as goal

pub returns : goal.returns
returns c = λ text parts. ap (λ d. place (parts_of text parts) (behind_core d)) (c.in_ok-declaring.ensures text
    ∙ ap (λ n. declaring c.args.at c.args.stars (named n)) (c.name_at-name.ensures text))
