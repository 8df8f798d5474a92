use Rattle.std.proofs.Common.{◌∙◌}
use Rattle.porch_parts.proofs.Built.{is_built}
use Rattle.porch_parts.proofs.Voids.{when_ok}
use Rattle.porch_parts.proofs.reading.expression.Goals as goal

pub returns : goal.returns
returns c = record { read = when_ok c.read.result (λ found h inside e uses g y m. h ∙ is_built _ inside e g y uses _ m) c.read.ensures }
