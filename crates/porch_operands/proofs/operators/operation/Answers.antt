use Rattle.porch_operands.proofs.operators.operation.Goals as goal

pub returns-in-Any : goal.returns-in-Any
returns-in-Any g c = rw c.in-Any.is c.logical.ensures

pub returns-in-All : goal.returns-in-All
returns-in-All g c = rw c.in-All.is c.logical-in-All.ensures
