use Rattle.porch_run.proofs.Parts.{parts_of_runs}
use Rattle.porch_run.proofs.laws.runs_are_parts_of_runs.Goals as goal

pub returns : goal.returns
returns c = parts_of_runs
