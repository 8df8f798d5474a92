use Rattle.porch_ucf.proofs.ReadBack.{files_read_back}
use Rattle.porch_ucf.proofs.laws.files_are_read_back.Goals as goal

pub returns : goal.returns
returns c = files_read_back
