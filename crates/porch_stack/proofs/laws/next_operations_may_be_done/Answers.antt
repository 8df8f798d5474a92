use Rattle.porch_stack.proofs.Doing.{may_be_done}
use Rattle.porch_stack.proofs.laws.next_operations_may_be_done.Goals as goal

pub returns : goal.returns
returns c = may_be_done c.sound_operations_hold.ensures
