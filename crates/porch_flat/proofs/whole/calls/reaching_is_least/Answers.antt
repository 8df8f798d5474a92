use Rattle.porch_flat.proofs.Marks.{reaches_is_least}
use Rattle.porch_flat.proofs.whole.calls.reaching_is_least.Goals as goal

pub returns : goal.returns
returns c = reaches_is_least
