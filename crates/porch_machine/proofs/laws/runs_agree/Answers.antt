use Rattle.porch_machine.proofs.Runs.{runs_agree}
use Rattle.porch_machine.proofs.laws.runs_agree.Goals as goal

pub returns : goal.returns
returns c = runs_agree
