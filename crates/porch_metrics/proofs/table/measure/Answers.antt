use Rattle.std.proofs.Common.{◌≤◌, ◌+◌, ◌∙◌, length, map, arith, ap, sym, subst, take, length-append, [], ◌∷◌}
use Rattle.porch_metrics.specs.Extents.{extent_in, type_extent}
use Rattle.porch_metrics.specs.inside.Tables.{extent, places_of, AreMeasured, IsSmall}
use Rattle.porch_metrics.proofs.Counted.{counted}
use Rattle.porch_metrics.proofs.Measuring.{measured_small, measured_put, parts_few, take_all}
use Rattle.porch_metrics.proofs.table.measure.Goals as goal

pub measure_type-requires-clause-known : goal.measure_type-requires-clause-known
measure_type-requires-clause-known c = λ k d lt.
    let e = (c.len-len.ensures.types.formed.each c.loop-number.number c.get-ty.result.now c.get-ty.ensures).earlier k d lt in
    omega (arith, e, ap length c.deref.ensures.value, c.loop-number.invariant.count)

pub measure_type-requires-clause-few : goal.measure_type-requires-clause-few
measure_type-requires-clause-few c = parts_few c.args.types.now c.loop-number.number c.get-ty.result.now (counted c.args.types.now c.len-len.ensures.types c.leaves_add_up.ensures.together c.leaves_add_up.ensures.some) c.get-ty.ensures

pub measure_type-requires-clause-small : goal.measure_type-requires-clause-small
measure_type-requires-clause-small c = λ part lt.
    let within : c.loop-number.number ≤ length c.args.types.now = omega (arith, c.len-len.ensures.length, c.loop-number-test.true) in
    subst (λ ms. IsSmall (extent_in (map extent ms) part)) (sym c.deref.ensures.value)
    (measured_small c.args.layout.now c.args.types.now c.loop-number.measured.items c.loop-number.number part c.requires (counted c.args.types.now c.len-len.ensures.types c.leaves_add_up.ensures.together c.leaves_add_up.ensures.some)
    c.loop-number.invariant.first (omega (arith, lt, ap length c.deref.ensures.value, c.loop-number.invariant.count)) within)

pub loop-number-preserved : goal.loop-number-preserved
loop-number-preserved c =
    let l = c.args.layout.now in
    let types = c.args.types.now in
    let ms = c.loop-number.measured.items in
    let next = c.in_ok-next.next in
    let d = c.deref.ensures.value in
    record {
      count = omega (arith, ap length c.in_ok-push.ensures.items, length-append ms (next ∷ []), c.loop-number.invariant.count);
      first = subst (AreMeasured l (take (c.loop-number.number + 1) types)) (sym c.in_ok-push.ensures.items)
          (measured_put l types c.loop-number.number c.get-ty.result.now ms next (counted c.args.types.now c.len-len.ensures.types c.leaves_add_up.ensures.together c.leaves_add_up.ensures.some) c.loop-number.invariant.first c.loop-number.invariant.count
          c.get-ty.ensures (c.in_ok-next.ensures.extent_is ∙ ap (λ es. type_extent l (extent_in (map extent es)) c.get-ty.result.now) d)
          (c.in_ok-next.ensures.places ∙ ap (λ es. places_of (extent_in (map extent es)) c.get-ty.result.now) d));
    }

pub returns-clause-table : goal.returns-clause-table
returns-clause-table c = record {
  types_are = c.len-len.ensures.types;
  counted = counted c.args.types.now c.len-len.ensures.types c.leaves_add_up.ensures.together c.leaves_add_up.ensures.some;
  layout = c.requires;
  measured = subst (λ ts. AreMeasured c.args.layout.now ts c.loop-number.measured.items)
      (take_all c.args.types.now c.loop-number.number (omega (arith, c.len-len.ensures.length, c.loop-number-test.false))) c.loop-number.invariant.first;
}
