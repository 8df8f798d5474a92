use Rattle.std.proofs.Common.{◌≡◌, ◌++◌, take, drop, map}
use Rattle.porch_emitter.specs.inside.Pools.{counted}
use Rattle.porch_emitter.proofs.pools.Pools.count.Given as goal

abbrev pub invariant-loop-pool : goal.invariant-loop-pool
invariant-loop-pool l =
    l.pool-items ≡ map counted (take l.pool-index l.initial.pool-items) ++ drop l.pool-index l.initial.pool-items
