use Rattle.std.proofs.Common.{◌≡◌, ℕ, ◌<◌}
use Rattle.porch_live.specs.inside.Leaves.{zero_at}
use Rattle.porch_live.proofs.zeros.are_alike.Given as goal

abbrev pub invariant-loop-leaf : goal.invariant-loop-leaf
invariant-loop-leaf l = (leaf : ℕ) → leaf < l.leaf → zero_at l.types l.ty leaf ≡ zero_at l.types l.ty 0
