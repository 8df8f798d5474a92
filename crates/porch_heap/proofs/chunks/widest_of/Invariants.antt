use Rattle.std.proofs.Common.{◌≡◌, take}
use Rattle.porch_heap.specs.Chunks.{blocks_of}
use Rattle.porch_heap.specs.inside.ChunkRow.{widest}
use Rattle.porch_heap.proofs.chunks.widest_of.Given as goal

abbrev pub invariant-loop-chunk : goal.invariant-loop-chunk
invariant-loop-chunk l = l.most ≡ widest l.base (blocks_of (take l.chunk-index l.chunks))
