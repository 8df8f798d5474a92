use Rattle.std.proofs.Common.{◌≡◌, ℕ, List, length, ap, arith}
use Rattle.std.proofs.Math.Path.{fun_ext}
use Rattle.porch_lowering.specs.Lowering.{pool_start}
use Rattle.porch_emitter.specs.declared.pools.Pool.{Pool}
use Rattle.porch_emitter.specs.Pools.{most_in}
use Rattle.porch_emitter.proofs.Numbers.{most_at, start_more, starts_more, starts_at}
use Rattle.porch_emitter.proofs.starts.Starts.after.Goals as goal

pub loop-pool-preserved : goal.loop-pool-preserved
loop-pool-preserved c =
    let most = most_in c.args.pools.now in
    let i = c.loop-pool.pool-index in
    let same = ap (λ (pools : List Pool). most_at pools i) c.as_slice-pool-items.ensures in
    record {
      here = start_more c.args.variables most i c.loop-pool.at c.in-Some.next _ c.loop-pool.invariant.here same c.in-Some.ensures.1;
      done = starts_more (pool_start c.args.variables most) i c.loop-pool.at c.loop-pool.of.items _ c.loop-pool.invariant.done c.in_ok-push.ensures.items c.loop-pool.invariant.here;
    }

pub returns : goal.returns
returns c =
    let whole : c.loop-pool.pool-index ≡ length c.args.pools.now.of.items = omega (arith, ap length c.as_slice-pool-items.ensures) in
    fun_ext (λ (ty : ℕ). starts_at c.args.variables c.args.pools.now.of.items c.loop-pool.of.items c.loop-pool.at c.loop-pool.pool-index ty whole c.loop-pool.invariant.done c.loop-pool.invariant.here)
