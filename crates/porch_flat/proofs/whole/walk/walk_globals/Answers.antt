use Rattle.std.proofs.Common.{◌≡◌, ◌+◌, ◌∷◌, drop, slice_get, Some, arith, rules, ◌∙◌}
use Rattle.porch_flat.specs.whole.Search.{first_rule}
use Rattle.porch_types.specs.Leaves.{leaves_of}
use Rattle.porch_flat.specs.inside.Walks.{leaves_before}
use Rattle.porch_flat.proofs.Walked.{at_element, from_element, next_global, end_global, stop_global, leaves_more}
use Rattle.porch_flat.proofs.whole.walk.walk_globals.Goals as goal

pub returns-in_err-line : goal.returns-in_err-line
returns-in_err-line c =
    let k = c.loop-number.number in
    let items = c.args.flat.now.globals in
    let split : drop k items ≡ c.g-item.result ∷ drop (k + 1) items = from_element items c.as_slice-g-items.result.now k _ c.as_slice-g-items.ensures (omega arith) c.g-item.is in
    let found = stop_global (first_rule c.args.sort c.args.flat.now) c.loop-number.line k items c.g-item.result _ split c.in_err-line.ensures.passes in
    let all = c.loop-number.invariant.0 in
    search (rules, found, all)

pub loop-number-preserved : goal.loop-number-preserved
loop-number-preserved c =
    let test = first_rule c.args.sort c.args.flat.now in
    let k = c.loop-number.number in
    let items = c.args.flat.now.globals in
    let split : drop k items ≡ c.g-item.result ∷ drop (k + 1) items = from_element items c.as_slice-g-items.result.now k _ c.as_slice-g-items.ensures (omega arith) c.g-item.is in
    let next = next_global test c.loop-number.line c.in_ok-line.line k items c.g-item.result split c.in_ok-line.ensures.passes in
    let ends = end_global test c.loop-number.line c.in_ok-line.line k items c.g-item.result split c.in_ok-line.ensures.passes in
    let here : slice_get items k ≡ Some c.g-item.result = at_element items c.as_slice-g-items.result.now k _ c.as_slice-g-items.ensures (omega arith) c.g-item.is in
    let sum : leaves_before c.args.flat.now (k + 1) ≡ leaves_before c.args.flat.now k + leaves_of c.args.flat.now.types c.g-item.result.ty = leaves_more c.args.flat.now k c.g-item.result here in
    let total : c.loop-number.leaves + c.leaves-leaves.result ≡ leaves_before c.args.flat.now (k + 1) = omega (arith, sum, c.leaves-leaves.ensures.value, c.loop-number.invariant.2) in
    (c.loop-number.invariant.0 ∙ next, c.loop-number.invariant.1 ∙ ends, total, omega (arith, total, c.in_ok-line.ensures.fits))
