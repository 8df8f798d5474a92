use Rattle.porch_lower.proofs.Sources.{sources}
use Rattle.porch_lower.proofs.laws.sources_are_lowerable.Goals as goal

pub returns : goal.returns
returns c = sources
