use Rattle.std.proofs.Common.{◌≡◌, ◌<◌, ◌≤◌, ◌+◌, ◌*◌, suc, length}
use Rattle.porch_types.specs.Leaves.{leaves_of}
use Rattle.porch_metrics.specs.Places.{place_of, place_within}
use Rattle.porch_metrics.proofs.descent.place_in.Given as goal

abbrev pub invariant-down : goal.invariant-down
invariant-down l = record {
  known : l.whole < length l.types;
  inside : l.inner < leaves_of l.types l.whole;
  near : l.place + 8 * l.inner ≤ 8 * l.leaf;
  same : place_of l.table.layout l.types l.ty l.leaf ≡ l.place + place_within (suc l.whole) l.table.layout l.types l.whole l.inner;
}

abbrev pub decreases-down : goal.decreases-down
decreases-down l = l.whole
