use Rattle.std.proofs.Common.{◌≡◌, ◌-◌}
use Rattle.porch_operations.specs.Operations.{with_leaves_of}
use Rattle.porch_operations.proofs.copying.copy_object.Given as goal

abbrev pub invariant-loop-leaf : goal.invariant-loop-leaf
invariant-loop-leaf l =
    with_leaves_of l.metrics l.ty l.to l.from l.leaf (l.count - l.leaf) l.memory ≡ with_leaves_of l.metrics l.ty l.to l.from 0 l.count l.fn.memory
