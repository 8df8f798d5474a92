use Rattle.porch_abstract.proofs.WholeRunsEnd.{each_run_ends}
use Rattle.porch_abstract.proofs.whole.laws.runs_end.Goals as goal

pub returns : goal.returns
returns c = each_run_ends
