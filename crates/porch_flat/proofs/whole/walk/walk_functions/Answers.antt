use Rattle.std.proofs.Common.{◌≡◌, ◌+◌, ◌∷◌, drop, arith, rules, ◌∙◌}
use Rattle.porch_flat.specs.whole.Search.{first_rule}
use Rattle.porch_flat.proofs.Walked.{from_element, next_function, end_function, stop_function}
use Rattle.porch_flat.proofs.whole.walk.walk_functions.Goals as goal

pub returns-in_err-line : goal.returns-in_err-line
returns-in_err-line c =
    let k = c.loop-number.number in
    let items = c.args.flat.now.functions in
    let split : drop k items ≡ c.f-item.result ∷ drop (k + 1) items = from_element items c.as_slice-f-items.result.now k _ c.as_slice-f-items.ensures (omega arith) c.f-item.is in
    let found = stop_function (first_rule c.args.sort c.args.flat.now) c.loop-number.line k items c.f-item.result _ split c.in_err-line.ensures in
    let all = c.loop-number.invariant.0 in
    search (rules, found, all)

pub loop-number-preserved : goal.loop-number-preserved
loop-number-preserved c =
    let test = first_rule c.args.sort c.args.flat.now in
    let k = c.loop-number.number in
    let items = c.args.flat.now.functions in
    let split : drop k items ≡ c.f-item.result ∷ drop (k + 1) items = from_element items c.as_slice-f-items.result.now k _ c.as_slice-f-items.ensures (omega arith) c.f-item.is in
    let next = next_function test c.loop-number.line c.in_ok-line.line k items c.f-item.result split c.in_ok-line.ensures in
    let ends = end_function test c.loop-number.line c.in_ok-line.line k items c.f-item.result split c.in_ok-line.ensures in
    (c.loop-number.invariant.0 ∙ next, c.loop-number.invariant.1 ∙ ends)
