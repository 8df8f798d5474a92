use Rattle.std.proofs.Common.{◌∙◌, arith}
use Rattle.porch_emitter.specs.Pools.{most_in}
use Rattle.porch_emitter.proofs.Numbers.{types_more}
use Rattle.porch_emitter.proofs.variables.add_pool_types.Goals as goal

pub loop-ty-preserved : goal.loop-ty-preserved
loop-ty-preserved c =
    types_more (most_in c.args.pools.now) c.loop-ty.variables c.add_alike.new.variables c.loop-ty.ty c.args.types c.most.result c.in_ok-add_alike.ensures c.most.ensures (omega arith)
    ∙ c.loop-ty.invariant
