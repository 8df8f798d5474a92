use Rattle.porch_machine.proofs.OneRun.{one}
use Rattle.porch_machine.proofs.laws.runs_are_one.Goals as goal

pub returns : goal.returns
returns c = one
