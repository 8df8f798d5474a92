use Rattle.std.proofs.Common.{◌≡◌, take, map}
use Rattle.porch_live.specs.Views.{value_of}
use Rattle.porch_steps.specs.inside.Calls.{values_of}
use Rattle.porch_steps.specs.inside.Kept.{state_of}
use Rattle.porch_steps.proofs.calls.argument_values.Given as goal

abbrev pub invariant-loop-at : goal.invariant-loop-at
invariant-loop-at l = map value_of l.values.items ≡ values_of l.flat (take l.at l.operands) l.params (state_of l.run)
