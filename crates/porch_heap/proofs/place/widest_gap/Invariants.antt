use Rattle.std.proofs.Common.{◌≡◌, take}
use Rattle.porch_heap.specs.inside.ChunkRow.{after, widest}
use Rattle.porch_heap.proofs.place.widest_gap.Given as goal

abbrev pub invariant-loop-block : goal.invariant-loop-block
invariant-loop-block l = record {
  low : l.low ≡ after l.from (take l.block-index l.live);
  most : l.most ≡ widest l.from (take l.block-index l.live);
}
