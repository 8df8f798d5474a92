use Rattle.porch_abstract.proofs.Ends.{tells_nothing}
use Rattle.porch_abstract.proofs.laws.silent_steps_tell_nothing.Goals as goal

pub returns : goal.returns
returns c = tells_nothing
