use Rattle.porch_machine.proofs.Runs.{prepared_stands}
use Rattle.porch_machine.proofs.laws.prepared_bytes_stand.Goals as goal

pub returns : goal.returns
returns c = prepared_stands
