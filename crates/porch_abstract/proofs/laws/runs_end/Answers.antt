use Rattle.porch_abstract.proofs.RunsEnd.{each_run_ends}
use Rattle.porch_abstract.proofs.laws.runs_end.Goals as goal

pub returns : goal.returns
returns c = each_run_ends
