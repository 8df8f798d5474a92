use Rattle.porch_ucf.specs.inside.LeafTests.{PassBelow}
use Rattle.porch_ucf.proofs.leaves.check_run.Given as goal

abbrev pub invariant-loop-k : goal.invariant-loop-k
invariant-loop-k l = PassBelow l.metrics.types l.objects.items l.image l.fn.run.test l.begin l.k
