use Rattle.std.proofs.Common.{◌≡◌, map}
use Rattle.std.specs.List.{range_with_len}
use Rattle.porch_lowering.specs.Lowering.{pool_start}
use Rattle.porch_emitter.specs.Pools.{most_in}
use Rattle.porch_emitter.proofs.starts.Starts.after.Given as goal

abbrev pub invariant-loop-pool : goal.invariant-loop-pool
invariant-loop-pool l = record {
  here : l.at ≡ pool_start l.variables (most_in l.pools) l.pool-index;
  done : l.of.items ≡ map (pool_start l.variables (most_in l.pools)) (range_with_len 0 l.pool-index);
}
