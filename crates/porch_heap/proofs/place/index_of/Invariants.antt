use Rattle.std.proofs.Common.{◌-◌, ◌+◌, ◌≤◌, length, take, drop}
use Rattle.porch_heap.specs.Blocks.{Each}
use Rattle.porch_heap.specs.inside.Searching.{EndsBefore, Head}
use Rattle.porch_heap.proofs.place.index_of.Given as goal

abbrev pub invariant-loop-low : goal.invariant-loop-low
invariant-loop-low l = record {
  order : l.low ≤ l.high;
  within : l.high ≤ length l.live;
  before : Each (EndsBefore l.at) (take l.low l.live);
  here : Head (λ b. l.at ≤ b.at + b.bytes) (drop l.high l.live);
}

abbrev pub decreases-loop-low : goal.decreases-loop-low
decreases-loop-low l = l.high - l.low
