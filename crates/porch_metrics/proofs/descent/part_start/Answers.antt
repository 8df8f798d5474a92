use Rattle.std.proofs.Common.{◌∙◌, Some, ap, arith}
use Rattle.porch_metrics.proofs.Reading.{array_known, array_near, struct_member}
use Rattle.porch_metrics.proofs.descent.part_start.Goals as goal

pub size_at-requires-clause-known : goal.size_at-requires-clause-known
size_at-requires-clause-known c =
    array_known c.args.types.now c.args.ty c.in-Array.of c.in-Array.count c.requires.table.counted (c.get.ensures ∙ ap Some c.in-Array.is)

pub overflow_mul-result : goal.overflow_mul-result
overflow_mul-result c =
    let f = c.requires.found in
    let h = array_near c.args.types.now c.args.table.now c.args.ty f.0 c.in-Array.of c.in-Array.count c.args.part c.requires.table c.requires.known f.1 f.2 (c.get.ensures ∙ ap Some c.in-Array.is) in
    rw c.size_at.ensures.value (omega (arith, h))

pub member_start-requires-clause-member : goal.member_start-requires-clause-member
member_start-requires-clause-member c =
    let f = c.requires.found in
    struct_member c.args.types.now c.args.ty f.0 c.in-Struct.members c.args.part f.2 (c.get.ensures ∙ ap Some c.in-Struct.is)
