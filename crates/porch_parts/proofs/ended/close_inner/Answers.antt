use Rattle.std.proofs.Common.{ap, ◌∙◌}
use Rattle.porch_parts.specs.Types.{behind_core, declaring, place}
use Rattle.porch_parts.specs.Shown.{parts_of}
use Rattle.porch_parts.proofs.ended.close_inner.Goals as goal

pub returns : goal.returns
returns c = λ text parts. ap (λ d. place (parts_of text parts) (behind_core d)) (c.in_ok-declaring.ensures text
    ∙ ap (λ k. declaring c.args.at c.args.stars k) (c.in_ok-core.ensures text))
