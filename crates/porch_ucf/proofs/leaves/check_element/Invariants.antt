use Rattle.std.proofs.Common.{◌+◌, ◌*◌}
use Rattle.porch_types.specs.Leaves.{leaves_of}
use Rattle.porch_ucf.specs.inside.Leaves.{IsSoundBelow}
use Rattle.porch_ucf.specs.inside.Runs.{begin_of}
use Rattle.porch_ucf.proofs.leaves.check_element.Given as goal

abbrev pub invariant-loop-run : goal.invariant-loop-run
invariant-loop-run l =
    IsSoundBelow l.fn.sought l.metrics.types l.objects.items l.image l.fn.object
    (l.element * leaves_of l.metrics.types l.fn.object.ty + begin_of (leaves_of l.metrics.types l.fn.object.ty) l.runs l.run-index)
