use Rattle.porch_mean.proofs.Calls.{more_turns_go_on}
use Rattle.porch_mean.proofs.laws.more_turns_go_on.Goals as goal

pub returns : goal.returns
returns c = more_turns_go_on
