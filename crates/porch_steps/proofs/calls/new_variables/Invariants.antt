use Rattle.std.proofs.Common.{◌≡◌, take, map}
use Rattle.porch_abstract.specs.Machine.{variables_with}
use Rattle.porch_live.specs.Views.{value_of}
use Rattle.porch_steps.proofs.calls.new_variables.Given as goal

abbrev pub invariant-loop-at : goal.invariant-loop-at
invariant-loop-at l = l.objects.items ≡ variables_with l.types (take l.at l.vars) (map value_of l.values)
