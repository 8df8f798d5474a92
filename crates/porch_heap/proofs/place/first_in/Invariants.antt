use Rattle.std.proofs.Common.{◌≡◌, ◌≤◌, ◌^◌, take}
use Rattle.porch_heap.specs.inside.ChunkRow.{NoRoom, after}
use Rattle.porch_heap.proofs.place.first_in.Given as goal

abbrev pub invariant-loop-index : goal.invariant-loop-index
invariant-loop-index l = record {
  low : l.low ≡ after l.from (take l.index l.live);
  small : l.low ≤ 2 ^ 62;
  none : NoRoom l.align l.bytes l.from (take l.index l.live);
  least : NoRoom l.align l.least l.from (take l.index l.live);
  below : l.least ≤ l.bytes;
}
