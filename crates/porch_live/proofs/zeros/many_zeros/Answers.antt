use Rattle.std.proofs.Common.{◌≡◌, ℕ, ◌<◌, map, replicate, refl, ap, ◌∙◌, arith}
use Rattle.std.specs.Prelude.{slice_get}
use Rattle.std.proofs.lemmas.Result.{IfOk-weaker}
use Rattle.porch_types.specs.Leaves.{leaves_of}
use Rattle.porch_objects.specs.Store.{zero_of}
use Rattle.porch_sparse.specs.Repeated.{repeated}
use Rattle.porch_live.specs.declared.leaves.Leaves.{Leaves}
use Rattle.porch_live.specs.Views.{value_of}
use Rattle.porch_live.specs.inside.Leaves.{values_in, zeros_of, zero_at}
use Rattle.porch_live.proofs.Elements.{all_alike, over_and_over}
use Rattle.porch_live.proofs.zeros.many_zeros.Goals as goal

pub returns-then-are_alike : goal.returns-then-are_alike
returns-then-are_alike c =
    let types = c.args.types.now in
    let ty = c.args.ty in
    let some : 0 < leaves_of types ty = rw (← c.leaves-element.ensures.value) c.leaves-element.ensures.some in
    let same : (leaf : ℕ) → leaf < leaves_of types ty → zero_at types ty leaf ≡ zero_at types ty 0 =
    λ leaf below. c.if-are_alike.ensures refl leaf (omega (arith, below, c.leaves-element.ensures.value)) in
    IfOk-weaker c.alike.result
    (λ (leaves : Leaves). values_in leaves ≡ replicate c.args.count c.zero_of.result)
    (λ (leaves : Leaves). map value_of (values_in leaves) ≡ zeros_of types ty c.args.count)
    (λ leaves is. ap (λ vs. map value_of vs) is
    ∙ all_alike types ty c.args.count c.zero_of.result some same (c.zero_of.ensures ∙ ap (λ n. zero_of (slice_get types n)) c.leaf_type.ensures.value))
    c.alike.ensures

pub returns : goal.returns
returns c =
    let types = c.args.types.now in
    let ty = c.args.ty in
    let some : 0 < leaves_of types ty = rw (← c.leaves-element.ensures.value) c.leaves-element.ensures.some in
    let pattern = c.in_ok-pattern.pattern.items in
    IfOk-weaker c.repeated.result
    (λ (leaves : Leaves). values_in leaves ≡ repeated c.args.count pattern)
    (λ (leaves : Leaves). map value_of (values_in leaves) ≡ zeros_of types ty c.args.count)
    (λ leaves is. ap (λ vs. map value_of vs) is
    ∙ over_and_over types ty c.args.count pattern some (c.in_ok-pattern.ensures ∙ ap (λ n. zeros_of types ty n) c.leaves-element.ensures.value))
    c.repeated.ensures
