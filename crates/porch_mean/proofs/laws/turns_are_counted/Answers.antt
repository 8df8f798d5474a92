use Rattle.porch_mean.proofs.Calls.{turns_are_counted}
use Rattle.porch_mean.proofs.laws.turns_are_counted.Goals as goal

pub returns : goal.returns
returns c = turns_are_counted
