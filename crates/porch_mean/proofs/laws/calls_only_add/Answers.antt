use Rattle.porch_mean.proofs.Calls.{calls_add}
use Rattle.porch_mean.proofs.laws.calls_only_add.Goals as goal

pub returns : goal.returns
returns c = calls_add
