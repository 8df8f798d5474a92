use Rattle.std.proofs.Common.{◌<◌, ◌≤◌, length, slice_index, ◌-◌}
use Rattle.porch_types.proofs.parts.last_start.Given as goal

abbrev pub invariant-loop-high : goal.invariant-loop-high
invariant-loop-high l = record {
  apart : l.low < l.high;
  within : l.high ≤ length l.starts;
  begun : slice_index l.starts l.low ≤ l.place;
  last : l.high < length l.starts → l.place < slice_index l.starts l.high;
}

abbrev pub decreases-loop-high : goal.decreases-loop-high
decreases-loop-high l = l.high - l.low
