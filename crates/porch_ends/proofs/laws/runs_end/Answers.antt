use Rattle.porch_ends.proofs.Ends.{each_run_ends}
use Rattle.porch_ends.proofs.laws.runs_end.Goals as goal

pub returns : goal.returns
returns c = each_run_ends
