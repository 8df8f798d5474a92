use Rattle.porch_machine.proofs.Ending.{runs_end}
use Rattle.porch_machine.proofs.laws.runs_end.Goals as goal

pub returns : goal.returns
returns c = runs_end
