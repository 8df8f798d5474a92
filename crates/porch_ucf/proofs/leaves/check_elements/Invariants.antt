use Rattle.std.proofs.Common.{◌*◌}
use Rattle.porch_types.specs.Leaves.{leaves_of}
use Rattle.porch_ucf.specs.inside.Leaves.{IsSoundBelow}
use Rattle.porch_ucf.proofs.leaves.check_elements.Given as goal

abbrev pub invariant-loop-element : goal.invariant-loop-element
invariant-loop-element l = IsSoundBelow l.sought l.metrics.types l.objects.items l.image l.object (l.element * leaves_of l.metrics.types l.object.ty)
