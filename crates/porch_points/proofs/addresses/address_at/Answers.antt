use Rattle.std.proofs.Common.{arith}
use Rattle.porch_points.proofs.addresses.address_at.Goals as goal

pub overflow_add-place : goal.overflow_add-place
overflow_add-place c =
    let inside = c.subobjects_end_inside.ensures c.args.metrics.now.layout c.args.metrics.now.types c.args.object.ty c.args.object.count c.args.pointee c.args.leaf c.layout-layout.ensures.allowed c.layout-layout.ensures.types c.requires.known c.requires.sub in
    omega (arith, inside, c.place.ensures.value, c.requires.ends)

pub overflow_add-result : goal.overflow_add-result
overflow_add-result c =
    let inside = c.subobjects_end_inside.ensures c.args.metrics.now.layout c.args.metrics.now.types c.args.object.ty c.args.object.count c.args.pointee c.args.leaf c.layout-layout.ensures.allowed c.layout-layout.ensures.types c.requires.known c.requires.sub in
    omega (arith, inside, c.place.ensures.value, c.size.ensures.value, c.requires.ends)
