use Rattle.porch_heap.proofs.HeapKept.{fresh_keeps}
use Rattle.porch_heap.proofs.heap.Heap.new.Goals as goal

pub invariant_of-result : goal.invariant_of-result
invariant_of-result c = rw c.in_ok-live.ensures.empty (fresh_keeps c.args.base c.args.bytes c.requires)
