use Rattle.std.proofs.Common.{◌<◌, ◌≤◌, ◌+◌, length}
use Rattle.porch_types.specs.Leaves.{leaves_of}
use Rattle.porch_find.specs.inside.Forms.{layout_in}
use Rattle.porch_find.proofs.Arrays.{LiesDown, LiesUp}
use Rattle.porch_find.proofs.leaf.leaf_within.Given as goal

abbrev pub invariant-arrays : goal.invariant-arrays
invariant-arrays l = record {
  known : l.whole < length l.metrics.types;
  room : l.before + leaves_of l.metrics.types l.whole ≤ leaves_of l.metrics.types l.ty;
  down : LiesDown (layout_in l.form l.metrics.layout) l.metrics.types l.ty l.byte l.whole l.before l.inner;
  up : LiesUp (layout_in l.form l.metrics.layout) l.metrics.types l.ty l.byte l.whole l.before l.inner;
}

abbrev pub decreases-arrays : goal.decreases-arrays
decreases-arrays l = l.whole
