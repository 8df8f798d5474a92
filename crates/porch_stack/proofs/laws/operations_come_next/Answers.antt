use Rattle.porch_stack.proofs.NextOperation.{does_next}
use Rattle.porch_stack.proofs.laws.operations_come_next.Goals as goal

pub returns : goal.returns
returns c = λ l frame body o loaded is k. does_next l loaded frame body is o k
