use Rattle.std.proofs.Common.{◌<◌, ◌≤◌, ◌-◌}
use Rattle.porch_types.specs.Leaves.{leaves_of}
use Rattle.porch_metrics.specs.Places.{place_of}
use Rattle.porch_find.specs.inside.Forms.{layout_in}
use Rattle.porch_find.proofs.leaf.leaf_among.Given as goal

abbrev pub invariant-halves : goal.invariant-halves
invariant-halves l = record {
  order : l.low < l.high;
  within : l.high ≤ leaves_of l.metrics.types l.ty;
  few : l.high ≤ 1048576;
  begun : place_of (layout_in l.form l.metrics.layout) l.metrics.types l.ty l.low ≤ l.byte;
  ended : l.high < leaves_of l.metrics.types l.ty → l.byte < place_of (layout_in l.form l.metrics.layout) l.metrics.types l.ty l.high;
}

abbrev pub decreases-halves : goal.decreases-halves
decreases-halves l = l.high - l.low
