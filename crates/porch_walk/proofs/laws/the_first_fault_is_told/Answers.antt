use Rattle.porch_walk.proofs.Reach.{reach}
use Rattle.porch_walk.proofs.laws.the_first_fault_is_told.Goals as goal

pub returns : goal.returns
returns c = reach
