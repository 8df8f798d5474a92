use Rattle.std.proofs.Common.{◌≡◌, ◌++◌, ◌-◌}
use Rattle.std.specs.List.{range_with_len}
use Rattle.porch_lowering.specs.Lowering.{pool_types}
use Rattle.porch_emitter.specs.Pools.{most_in}
use Rattle.porch_emitter.proofs.variables.add_pool_types.Given as goal

abbrev pub invariant-loop-ty : goal.invariant-loop-ty
invariant-loop-ty l =
    l.variables ++ pool_types (most_in l.pools) (range_with_len l.ty (l.types - l.ty))
    ≡ l.initial.variables ++ pool_types (most_in l.pools) (range_with_len 0 l.types)
