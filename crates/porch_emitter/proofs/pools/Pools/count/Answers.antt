use Rattle.std.proofs.Common.{◌∙◌, ℕ, ap, length, get_or, slice_set, arith}
use Rattle.std.proofs.Math.Path.{fun_ext}
use Rattle.std.proofs.lemmas.List.{get_or_default, with_items_is}
use Rattle.std.proofs.lemmas.List.Edits.{map_over_more}
use Rattle.porch_emitter.specs.declared.pools.Pool.{Pool}
use Rattle.porch_emitter.specs.inside.Pools.{counted}
use Rattle.porch_emitter.specs.Pools.{no_temporaries}
use Rattle.porch_emitter.proofs.Numbers.{all_counted}
use Rattle.porch_emitter.proofs.pools.Pools.count.Goals as goal

pub loop-pool-preserved : goal.loop-pool-preserved
loop-pool-preserved c =
    let pools = c.loop-pool.pool-items in
    let at = c.loop-pool.pool-index in
    let pool : Pool = get_or pools at no_temporaries in
    ap (λ (pool : Pool). slice_set pools at pool) c.counted.ensures
    ∙ map_over_more counted c.deref_mut-pool-items.result.now pools at pool (omega arith) c.loop-pool.invariant (get_or_default pools at no_temporaries pool (omega arith))

pub returns-clause-used : goal.returns-clause-used
returns-clause-used c =
    let same = with_items_is c.args.self.now.of c.loop-pool.pool-items (omega (arith, c.args.self.now.of.ok.0, ap length c.deref_mut-pool-items.ensures.value)) in
    let each = all_counted c.args.self.now.of.items c.deref_mut-pool-items.result.now c.loop-pool.pool-items _ c.loop-pool.pool-index c.deref_mut-pool-items.ensures.value c.loop-pool-test.false c.loop-pool.invariant same in
    fun_ext (λ (ty : ℕ). ap (λ (pool : Pool). pool.used) (each ty))

pub returns-clause-most : goal.returns-clause-most
returns-clause-most c =
    let same = with_items_is c.args.self.now.of c.loop-pool.pool-items (omega (arith, c.args.self.now.of.ok.0, ap length c.deref_mut-pool-items.ensures.value)) in
    let each = all_counted c.args.self.now.of.items c.deref_mut-pool-items.result.now c.loop-pool.pool-items _ c.loop-pool.pool-index c.deref_mut-pool-items.ensures.value c.loop-pool-test.false c.loop-pool.invariant same in
    fun_ext (λ (ty : ℕ). ap (λ (pool : Pool). pool.most) (each ty))
