use Rattle.std.proofs.Common.{◌≡◌, ◌+◌, ◌-◌, ◌*◌, ◌/◌, ◌%◌, ◌<◌, slice_get, Some, ap, sym, ◌∙◌, subst, arith}
use Rattle.porch_types.specs.declared.shapes.Ty.TheVariants.{Array}
use Rattle.porch_types.specs.Leaves.{leaves_of}
use Rattle.porch_metrics.specs.Extents.{extent_of}
use Rattle.porch_find.specs.inside.Forms.{layout_in}
use Rattle.porch_find.proofs.Arrays.{LiesDown, LiesUp, down_next, in_element_of, part_known, room_next, up_next}
use Rattle.porch_find.proofs.leaf.leaf_within.Goals as goal

pub size_in-size-requires : goal.size_in-size-requires
size_in-size-requires c =
    let types = c.args.metrics.now.types in
    let array : slice_get types c.arrays.whole ≡ Some (Array c.in-Some.of c.in-Some.count) = subst (λ ts. slice_get ts c.arrays.whole ≡ Some (Array c.in-Some.of c.in-Some.count)) c.types-types.ensures c.in-Some.ensures in
    omega (arith, c.forms_are_measured.ensures.earlier c.arrays.whole c.in-Some.of c.in-Some.count array, c.arrays.invariant.known)

pub nonzero_div-index : goal.nonzero_div-index
nonzero_div-index c =
    let types = c.args.metrics.now.types in
    let array : slice_get types c.arrays.whole ≡ Some (Array c.in-Some.of c.in-Some.count) = subst (λ ts. slice_get ts c.arrays.whole ≡ Some (Array c.in-Some.of c.in-Some.count)) c.types-types.ensures c.in-Some.ensures in
    let known = part_known (layout_in c.args.form c.args.metrics.now.layout) types c.arrays.whole c.in-Some.of c.in-Some.count c.forms_are_measured.ensures c.arrays.invariant.known array in
    omega (arith, c.size_in-size.ensures, c.forms_are_measured.ensures.sizes c.in-Some.of known)

pub returns-then-index-count-clause-none : goal.returns-then-index-count-clause-none
returns-then-index-count-clause-none c = λ leaf lt at.
    let l = layout_in c.args.form c.args.metrics.now.layout in
    let types = c.args.metrics.now.types in
    let of = c.in-Some.of in
    let array : slice_get types c.arrays.whole ≡ Some (Array of c.in-Some.count) = subst (λ ts. slice_get ts c.arrays.whole ≡ Some (Array of c.in-Some.count)) c.types-types.ensures c.in-Some.ensures in
    let known = part_known l types c.arrays.whole of c.in-Some.count c.forms_are_measured.ensures c.arrays.invariant.known array in
    let d = c.arrays.invariant.down leaf lt at in
    let s = in_element_of l types c.arrays.whole of c.in-Some.count c.arrays.inner (leaf - c.arrays.before) c.forms_are_measured.ensures known array d.1 d.2 in
    let same : c.arrays.inner / c.size_in-size.result ≡ c.arrays.inner / (extent_of l types of).size = ap (λ x. c.arrays.inner / x) c.size_in-size.ensures in
    omega (arith, s.index, same, c.if-index-count.true)

pub overflow_mul-before : goal.overflow_mul-before
overflow_mul-before c =
    let types = c.args.metrics.now.types in
    let of = c.in-Some.of in
    let array : slice_get types c.arrays.whole ≡ Some (Array of c.in-Some.count) = subst (λ ts. slice_get ts c.arrays.whole ≡ Some (Array of c.in-Some.count)) c.types-types.ensures c.in-Some.ensures in
    let leaves : c.leaves.result ≡ leaves_of types of = c.leaves.ensures.value ∙ ap (λ ts. leaves_of ts of) c.types-types.ensures in
    let most : c.leaves-most.result ≡ leaves_of types c.args.ty = c.leaves-most.ensures.value ∙ ap (λ ts. leaves_of ts c.args.ty) c.types-types.ensures in
    let whole : leaves_of types c.arrays.whole ≡ c.in-Some.count * c.leaves.result = c.forms_are_measured.ensures.counts c.arrays.whole of c.in-Some.count array ∙ ap (λ x. c.in-Some.count * x) (sym leaves) in
    let room = room_next c.in-Some.count (c.arrays.inner / c.size_in-size.result) c.leaves.result (leaves_of types c.arrays.whole) whole c.if-index-count.false in
    omega (arith, room, c.arrays.invariant.room, most, c.leaves-most.ensures.small)

pub overflow_add-before : goal.overflow_add-before
overflow_add-before c =
    let types = c.args.metrics.now.types in
    let of = c.in-Some.of in
    let array : slice_get types c.arrays.whole ≡ Some (Array of c.in-Some.count) = subst (λ ts. slice_get ts c.arrays.whole ≡ Some (Array of c.in-Some.count)) c.types-types.ensures c.in-Some.ensures in
    let leaves : c.leaves.result ≡ leaves_of types of = c.leaves.ensures.value ∙ ap (λ ts. leaves_of ts of) c.types-types.ensures in
    let most : c.leaves-most.result ≡ leaves_of types c.args.ty = c.leaves-most.ensures.value ∙ ap (λ ts. leaves_of ts c.args.ty) c.types-types.ensures in
    let whole : leaves_of types c.arrays.whole ≡ c.in-Some.count * c.leaves.result = c.forms_are_measured.ensures.counts c.arrays.whole of c.in-Some.count array ∙ ap (λ x. c.in-Some.count * x) (sym leaves) in
    let room = room_next c.in-Some.count (c.arrays.inner / c.size_in-size.result) c.leaves.result (leaves_of types c.arrays.whole) whole c.if-index-count.false in
    omega (arith, room, c.arrays.invariant.room, most, c.leaves-most.ensures.small)

pub arrays-preserved : goal.arrays-preserved
arrays-preserved c =
    let l = layout_in c.args.form c.args.metrics.now.layout in
    let types = c.args.metrics.now.types in
    let of = c.in-Some.of in
    let ty = c.args.ty in
    let byte = c.args.byte in
    let before = c.arrays.before in
    let inner = c.arrays.inner in
    let m = c.forms_are_measured.ensures in
    let i = c.arrays.invariant in
    let array : slice_get types c.arrays.whole ≡ Some (Array of c.in-Some.count) = subst (λ ts. slice_get ts c.arrays.whole ≡ Some (Array of c.in-Some.count)) c.types-types.ensures c.in-Some.ensures in
    let known = part_known l types c.arrays.whole of c.in-Some.count m i.known array in
    let leaves : leaves_of types of ≡ c.leaves.result = sym (c.leaves.ensures.value ∙ ap (λ ts. leaves_of ts of) c.types-types.ensures) in
    let size : (extent_of l types of).size ≡ c.size_in-size.result = sym c.size_in-size.ensures in
    let index : inner / (extent_of l types of).size ≡ inner / c.size_in-size.result = ap (λ x. inner / x) size in
    let less : inner / (extent_of l types of).size < c.in-Some.count = omega (arith, index, c.if-index-count.false) in
    let whole : leaves_of types c.arrays.whole ≡ c.in-Some.count * c.leaves.result = m.counts c.arrays.whole of c.in-Some.count array ∙ ap (λ x. c.in-Some.count * x) leaves in
    let room = room_next c.in-Some.count (inner / c.size_in-size.result) c.leaves.result (leaves_of types c.arrays.whole) whole c.if-index-count.false in
    let down : LiesDown l types ty byte of (before + inner / c.size_in-size.result * c.leaves.result) (inner % c.size_in-size.result) =
    subst (λ x. LiesDown l types ty byte of (before + inner / x * c.leaves.result) (inner % x)) size
    (subst (λ x. LiesDown l types ty byte of (before + inner / (extent_of l types of).size * x) (inner % (extent_of l types of).size)) leaves
    (down_next l types ty byte c.arrays.whole of c.in-Some.count before inner m known array i.down)) in
    let up : LiesUp l types ty byte of (before + inner / c.size_in-size.result * c.leaves.result) (inner % c.size_in-size.result) =
    subst (λ x. LiesUp l types ty byte of (before + inner / x * c.leaves.result) (inner % x)) size
    (subst (λ x. LiesUp l types ty byte of (before + inner / (extent_of l types of).size * x) (inner % (extent_of l types of).size)) leaves
    (up_next l types ty byte c.arrays.whole of c.in-Some.count before inner m known array less i.up)) in
    record {
      known = known;
      room = omega (arith, room, i.room, leaves);
      down = down;
      up = up;
    }
