use Rattle.porch_lowered.proofs.ReadAlike.{reads}
use Rattle.porch_lowered.proofs.laws.temporaries_are_not_read.Goals as goal

pub returns : goal.returns
returns c = reads
