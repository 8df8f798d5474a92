use Rattle.std.proofs.Common.{◌-◌, ◌+◌, ◌≤◌, length, take, drop}
use Rattle.porch_heap.specs.Blocks.{Each}
use Rattle.porch_heap.specs.inside.Searching.{EndsBefore}
use Rattle.porch_heap.specs.Chunks.{blocks_of}
use Rattle.porch_heap.proofs.chunks.chunk_of.Given as goal

abbrev pub invariant-loop-low : goal.invariant-loop-low
invariant-loop-low l = record {
  order : l.low ≤ l.high;
  within : l.high ≤ length l.chunks;
  before : Each (EndsBefore l.at) (blocks_of (take (l.low - 1) l.chunks));
  behind : Each (λ b. l.at + 1 ≤ b.at) (blocks_of (drop l.high l.chunks));
}

abbrev pub decreases-loop-low : goal.decreases-loop-low
decreases-loop-low l = l.high - l.low
