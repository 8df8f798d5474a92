use Rattle.std.proofs.Common.{◌-◌}
use Rattle.porch_heap.proofs.Loose.{AreFull}
use Rattle.porch_heap.proofs.edits.loose.Given as goal

abbrev pub invariant-loop-lower : goal.invariant-loop-lower
invariant-loop-lower l = AreFull l.chunks l.lower

abbrev pub decreases-loop-lower : goal.decreases-loop-lower
decreases-loop-lower l = 1024 - l.lower
