use Rattle.std.proofs.Common.{refl}
use Rattle.porch_heap.specs.Chunks.{blocks_of}
use Rattle.porch_heap.proofs.Runs.{longest_true}
use Rattle.porch_heap.proofs.heap.Heap.full.Goals as goal

pub returns : goal.returns
returns c = record {
  fault = rw (← c.self.view_is) (record {
    asked = refl;
    largest = rw c.longest_run.ensures (longest_true c.self.inside.live.base c.self.inside.bytes (blocks_of c.self.inside.live.chunks) c.self.invariant.heap);
    blocks = c.len.ensures;
  });
}
