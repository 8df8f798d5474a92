use Rattle.porch_ucf.specs.inside.Runs.{AreRunsFound}
use Rattle.porch_ucf.proofs.FirstLeaf.{NoneBefore}
use Rattle.porch_ucf.proofs.leaves.check_leaves.Given as goal

abbrev pub invariant-loop-object : goal.invariant-loop-object
invariant-loop-object l = record {
  none : NoneBefore l.sought l.metrics.types l.objects.items l.image l.object-index;
  found : AreRunsFound l.sought l.metrics.types l.found.items;
}
