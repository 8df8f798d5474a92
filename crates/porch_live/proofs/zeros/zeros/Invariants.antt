use Rattle.std.proofs.Common.{◌≡◌, map}
use Rattle.porch_live.specs.Views.{value_of}
use Rattle.porch_live.specs.inside.Leaves.{zeros_of}
use Rattle.porch_live.proofs.zeros.zeros.Given as goal

abbrev pub invariant-loop-leaf : goal.invariant-loop-leaf
invariant-loop-leaf l = map value_of l.values.items ≡ zeros_of l.types l.ty l.leaf
