use Rattle.std.proofs.Common.{ap, ◌∙◌}
use Rattle.porch_parts.proofs.Voids.{when_ok}
use Rattle.porch_tree.specs.Mirror.{inner}
use Rattle.porch_parts.proofs.ended.inner_core.Goals as goal

pub returns : goal.returns
returns c = when_ok c.plain_inner.result (λ x h text. h text ∙ ap (inner c.args.at) (c.declarator_from-declarator.ensures text)) c.plain_inner.ensures
