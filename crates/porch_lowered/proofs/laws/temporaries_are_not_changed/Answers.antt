use Rattle.porch_lowered.proofs.ChangeAlike.{changes}
use Rattle.porch_lowered.proofs.laws.temporaries_are_not_changed.Goals as goal

pub returns : goal.returns
returns c = changes
