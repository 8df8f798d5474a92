use Rattle.porch_heap.proofs.ComeAndGo.{lies_within, lie_apart}
use Rattle.porch_heap.proofs.laws.blocks_lie_apart.Goals as goal

pub returns-clause-within : goal.returns-clause-within
returns-clause-within c = lies_within

pub returns-clause-apart : goal.returns-clause-apart
returns-clause-apart c = lie_apart
