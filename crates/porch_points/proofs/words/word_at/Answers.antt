use Rattle.std.proofs.Common.{◌≡◌, ◌*◌, ◌^◌, ◌≤◌, ap, ◌∙◌, arith}
use Rattle.std.proofs.lemmas.Nat.{mul-le}
use Rattle.porch_types.specs.Leaves.{leaves_of}
use Rattle.porch_metrics.specs.Extents.{ucf_layout}
use Rattle.porch_points.proofs.words.word_at.Goals as goal

pub ucf_place-requires-clause-near : goal.ucf_place-requires-clause-near
ucf_place-requires-clause-near c =
    let types = c.args.metrics.now.types in
    let leaves : c.leaves-leaves.result ≡ leaves_of types c.args.object.ty = c.leaves-leaves.ensures.value ∙ ap (λ ts. leaves_of ts c.args.object.ty) c.types.ensures in
    let most : c.args.object.count * leaves_of types c.args.object.ty ≤ 2 ^ 32 * 1048576 = mul-le c.args.object.count (leaves_of types c.args.object.ty) (2 ^ 32) 1048576 (omega (arith, c.requires.few)) (omega (arith, leaves, c.leaves-leaves.ensures.small)) in
    omega (arith, most, c.rows_lie_inside.ensures.subobjects types c.args.object.ty c.args.object.count c.args.spot.leaf c.args.pointee c.layout-layout.ensures.types c.requires.sub)

pub overflow_add-place : goal.overflow_add-place
overflow_add-place c =
    let inside = c.subobjects_end_inside.ensures ucf_layout c.args.metrics.now.types c.args.object.ty c.args.object.count c.args.pointee c.args.spot.leaf c.ucf_is_a_layout.ensures c.layout-layout.ensures.types c.requires.known c.requires.sub in
    omega (arith, inside, c.ucf_place.ensures.value, c.requires.ends)

pub overflow_add-word : goal.overflow_add-word
overflow_add-word c =
    let inside = c.subobjects_end_inside.ensures ucf_layout c.args.metrics.now.types c.args.object.ty c.args.object.count c.args.pointee c.args.spot.leaf c.ucf_is_a_layout.ensures c.layout-layout.ensures.types c.requires.known c.requires.sub in
    omega (arith, inside, c.ucf_place.ensures.value, c.requires.ends)

pub overflow_mul-word : goal.overflow_mul-word
overflow_mul-word c =
    let inside = c.subobjects_end_inside.ensures ucf_layout c.args.metrics.now.types c.args.object.ty c.args.object.count c.args.pointee c.args.spot.leaf c.ucf_is_a_layout.ensures c.layout-layout.ensures.types c.requires.known c.requires.sub in
    omega (arith, inside, c.ucf_place.ensures.value, c.requires.ends)

pub overflow_add-result : goal.overflow_add-result
overflow_add-result c =
    let inside = c.subobjects_end_inside.ensures ucf_layout c.args.metrics.now.types c.args.object.ty c.args.object.count c.args.pointee c.args.spot.leaf c.ucf_is_a_layout.ensures c.layout-layout.ensures.types c.requires.known c.requires.sub in
    omega (arith, inside, c.ucf_place.ensures.value, c.requires.ends)
