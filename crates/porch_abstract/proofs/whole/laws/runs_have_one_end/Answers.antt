use Rattle.porch_abstract.proofs.WholeEnds.{one_run}
use Rattle.porch_abstract.proofs.whole.laws.runs_have_one_end.Goals as goal

pub returns : goal.returns
returns c = one_run
