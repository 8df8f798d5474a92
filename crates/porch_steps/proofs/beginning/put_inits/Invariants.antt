use Rattle.std.proofs.Common.{◌≡◌, take}
use Rattle.porch_objects.specs.Store.{with_leaves}
use Rattle.porch_abstract.specs.Machine.{with_inits}
use Rattle.porch_steps.proofs.beginning.put_inits.Given as goal

abbrev pub invariant-loop-at : goal.invariant-loop-at
invariant-loop-at l = l.object ≡ with_leaves l.fn.object (with_inits l.fn.object.leaves (take l.at l.inits))
