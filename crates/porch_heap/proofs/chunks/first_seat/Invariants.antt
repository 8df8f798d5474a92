use Rattle.std.proofs.Common.{◌≡◌, ◌≤◌, ◌++◌, length, take}
use Rattle.porch_heap.specs.Chunks.{blocks_of}
use Rattle.porch_heap.specs.inside.ChunkRow.{NoRoom, blocks_at}
use Rattle.porch_heap.proofs.chunks.first_seat.Given as goal

abbrev pub invariant-loop-chunk : goal.invariant-loop-chunk
invariant-loop-chunk l = record {
  same : l.chunks ≡ l.fn.chunks;
  index : l.index ≤ length (blocks_at l.fn.chunks l.chunk);
  none : NoRoom l.align l.bytes l.base (blocks_of (take l.chunk l.fn.chunks) ++ take l.index (blocks_at l.fn.chunks l.chunk));
}
