use Rattle.porch_bytes.proofs.OneRun.{one_run}
use Rattle.porch_bytes.proofs.laws.runs_have_one_end.Goals as goal

pub returns : goal.returns
returns c = record { one = one_run }
