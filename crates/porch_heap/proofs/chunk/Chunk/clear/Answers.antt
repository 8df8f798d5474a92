use Rattle.std.proofs.Common.{arith}
use Rattle.porch_heap.proofs.Lists.{stand_end}
use Rattle.porch_heap.proofs.ChunkKept.{kept_none}
use Rattle.porch_heap.proofs.chunk.Chunk.clear.Goals as goal

pub invariant_of-self : goal.invariant_of-self
invariant_of-self c =
    let kept = c.self.invariant.1 in
    let same = c.clear.ensures.capacity in
    (rw c.clear.ensures.items (kept_none c.self.inside.from _ (stand_end c.self.inside.from _ c.self.inside.blocks.items c.self.invariant.0.stand)), omega arith)
