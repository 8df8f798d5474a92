use Rattle.std.proofs.Common.{◌≡◌, take, map}
use Rattle.porch_abstract.specs.Machine.{global_object}
use Rattle.porch_steps.proofs.beginning.global_objects.Given as goal

abbrev pub invariant-loop-at : goal.invariant-loop-at
invariant-loop-at l = l.all.items ≡ map (global_object l.types) (take l.at l.globals)
