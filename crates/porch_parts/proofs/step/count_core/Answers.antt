use Rattle.std.proofs.Common.{ap}
use Rattle.porch_parts.specs.Types.{at_count, place}
use Rattle.porch_parts.specs.Shown.{parts_of}
use Rattle.porch_parts.proofs.step.count_core.Goals as goal

pub returns : goal.returns
returns c = λ text parts. ap (λ d. place (parts_of text parts) (at_count d)) (c.in_ok-declaring.ensures text)
