use Rattle.std.proofs.Common.{◌∙◌, ◌<◌, ◌≤◌, ◌^◌, length, arith}
use Rattle.porch_live.proofs.Unknown.{near_row, near_unknown, some_still, unknown_row}
use Rattle.porch_types.specs.Rows.{IsRowAt}
use Rattle.porch_live.specs.inside.Rows.{IsNear}
use Rattle.porch_live.proofs.roots.row_of.Goals as goal

pub returns-then-root-len-clause-near : goal.returns-then-root-len-clause-near
returns-then-root-len-clause-near c =
    let types = c.args.types.now in
    let root = c.args.root.ty in
    let count = c.from.result in
    let few : count < 2 ^ 32 = omega (arith, c.from.ensures) in
    some_still (λ row. IsRowAt types root count c.args.place c.args.pointee row) (λ row. IsNear types c.args.pointee c.args.place row) c.row_of.result
    (λ row at. near_row types root count c.args.place c.args.pointee row c.len.ensures.types few at
    (c.rows_lie_inside.ensures.rows types root count c.args.pointee row.first row.len c.len.ensures.types at.is_row)
    (c.leaves_add_up.ensures.some types c.args.pointee c.len.ensures.types
    (c.rows_lie_inside.ensures.known types root count c.args.place c.args.pointee c.len.ensures.types (omega (arith, c.len.ensures.length)) (row, at))))
    c.row_of.ensures.row

pub returns-else-root-len-clause-value : goal.returns-else-root-len-clause-value
returns-else-root-len-clause-value c =
    let out : length c.args.types.now ≤ c.args.root.ty = omega (arith, c.len.ensures.length) in
    c.row_without_type.ensures ∙ unknown_row c.args.types.now c.args.root.ty c.args.root.count c.args.place c.args.pointee out

pub returns-else-root-len-clause-near : goal.returns-else-root-len-clause-near
returns-else-root-len-clause-near c =
    let out : length c.args.types.now ≤ c.args.root.ty = omega (arith, c.len.ensures.length) in
    let few : c.args.root.count < 2 ^ 32 = omega arith in
    rw c.row_without_type.ensures (near_unknown c.args.types.now c.args.root.ty c.args.root.count c.args.place c.args.pointee out few)
