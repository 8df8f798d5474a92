use Rattle.std.proofs.Common.{◌≡◌, ◌≤◌, length, take, reverse}
use Rattle.porch_edge.specs.Picks.{is_pending, painted}
use Rattle.porch_edge.proofs.memory_picks.paint_pending.Given as goal

abbrev pub invariant-loop-left : goal.invariant-loop-left
invariant-loop-left l = record {
  within : l.left ≤ length l.calls;
  same : painted (is_pending l.file (reverse (take l.left l.calls))) l.byte 0 l.bytes ≡ painted (is_pending l.file (reverse l.calls)) l.byte 0 l.initial.bytes;
}

abbrev pub decreases-loop-left : goal.decreases-loop-left
decreases-loop-left l = l.left
