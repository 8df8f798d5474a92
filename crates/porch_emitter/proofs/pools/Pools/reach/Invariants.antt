use Rattle.std.proofs.Common.{◌≡◌, ℕ, ◌+◌, ◌-◌, length}
use Rattle.porch_emitter.specs.Pools.{pool_in}
use Rattle.porch_emitter.proofs.pools.Pools.reach.Given as goal

abbrev pub invariant-loop-self : goal.invariant-loop-self
invariant-loop-self l = (n : ℕ) → pool_in l.self n ≡ pool_in l.initial.self n

abbrev pub decreases-loop-self : goal.decreases-loop-self
decreases-loop-self l = l.ty + 1 - length l.self.of.items
