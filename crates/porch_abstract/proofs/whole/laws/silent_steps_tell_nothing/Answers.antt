use Rattle.porch_abstract.proofs.WholeEnds.{tells_nothing}
use Rattle.porch_abstract.proofs.whole.laws.silent_steps_tell_nothing.Goals as goal

pub returns : goal.returns
returns c = tells_nothing
