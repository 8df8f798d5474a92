use Rattle.std.proofs.Common.{◌-◌, ◌≤◌}
use Rattle.porch_heap.proofs.hint.class_of.Given as goal

abbrev pub invariant-loop-number : goal.invariant-loop-number
invariant-loop-number l = record { few : l.number ≤ 63; within : l.least ≤ l.bytes }

abbrev pub decreases-loop-number : goal.decreases-loop-number
decreases-loop-number l = 63 - l.number
