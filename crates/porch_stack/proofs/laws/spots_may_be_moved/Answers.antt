use Rattle.porch_stack.proofs.Moved.{may_be_moved}
use Rattle.porch_stack.proofs.laws.spots_may_be_moved.Goals as goal

pub returns : goal.returns
returns c = may_be_moved
