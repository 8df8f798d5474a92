use Rattle.std.proofs.Common.{◌≡◌, ◌*◌, ◌<◌, length, slice_get, ap, sym, ◌∙◌, subst, arith}
use Rattle.porch_types.specs.Leaves.{leaves_of}
use Rattle.porch_types.specs.LeafTypes.{IsScalar, leaf_type}
use Rattle.porch_types.specs.Rows.{IsRowAt, IsSubobject}
use Rattle.porch_metrics.specs.Extents.{ucf_layout}
use Rattle.porch_ucf.proofs.Stretches.{RowLaws, row_holds, stretch_of}
use Rattle.porch_ucf.proofs.runs.stretch_at.Goals as goal

pub overflow_add-result : goal.overflow_add-result
overflow_add-result c =
    let types = c.args.metrics.now.types in
    let root = c.args.root in
    let ty = c.leaf_type-ty.result in
    let row = c.in-Some.row in
    let is = c.layout-layout.ensures.types in
    let laws : RowLaws types root = record {
      together = λ ty t e. c.leaves_add_up.ensures.together types ty t is e;
      inside = λ ty first len r. c.rows_lie_inside.ensures.rows types root 1 ty first len is r;
      typed = λ ty first len leaf r lt. c.leaves_are_scalars.ensures.rows types root 1 ty first len leaf is c.requires.known r lt;
      scalar = λ ty leaf s. c.leaf_types_go_by_parts.ensures.scalar types ty leaf s;
      placed = λ ty first len k r lt. c.places_add_up.ensures.elements ucf_layout types root 1 ty first len k c.ucf_is_a_layout.ensures is c.requires.known r lt;
    } in
    let known = subst (λ ts. ty < length ts) c.types-types.ensures c.leaf_type-ty.ensures.known in
    let scalar = subst (λ ts. IsScalar (slice_get ts ty)) c.types-types.ensures c.leaf_type-ty.ensures.scalar in
    let at = subst (λ ts. IsRowAt ts root 1 c.args.leaf ty row) c.types-types.ensures c.in-Some.ensures.row in
    let most : c.leaves-most.result ≡ leaves_of types root = c.leaves-most.ensures.value ∙ ap (λ ts. leaves_of ts root) c.types-types.ensures in
    let s = stretch_of types root c.args.leaf ty row laws known scalar at in
    omega (arith, s.within, row_holds types root c.args.leaf ty row laws known scalar at, most, c.leaves-most.ensures.small)

pub overflow_sub-result : goal.overflow_sub-result
overflow_sub-result c =
    let types = c.args.metrics.now.types in
    let root = c.args.root in
    let ty = c.leaf_type-ty.result in
    let row = c.in-Some.row in
    let is = c.layout-layout.ensures.types in
    let laws : RowLaws types root = record {
      together = λ ty t e. c.leaves_add_up.ensures.together types ty t is e;
      inside = λ ty first len r. c.rows_lie_inside.ensures.rows types root 1 ty first len is r;
      typed = λ ty first len leaf r lt. c.leaves_are_scalars.ensures.rows types root 1 ty first len leaf is c.requires.known r lt;
      scalar = λ ty leaf s. c.leaf_types_go_by_parts.ensures.scalar types ty leaf s;
      placed = λ ty first len k r lt. c.places_add_up.ensures.elements ucf_layout types root 1 ty first len k c.ucf_is_a_layout.ensures is c.requires.known r lt;
    } in
    let known = subst (λ ts. ty < length ts) c.types-types.ensures c.leaf_type-ty.ensures.known in
    let scalar = subst (λ ts. IsScalar (slice_get ts ty)) c.types-types.ensures c.leaf_type-ty.ensures.scalar in
    let at = subst (λ ts. IsRowAt ts root 1 c.args.leaf ty row) c.types-types.ensures c.in-Some.ensures.row in
    omega (arith, row_holds types root c.args.leaf ty row laws known scalar at)

pub returns-in-Some : goal.returns-in-Some
returns-in-Some c =
    let types = c.args.metrics.now.types in
    let root = c.args.root in
    let ty = c.leaf_type-ty.result in
    let row = c.in-Some.row in
    let is = c.layout-layout.ensures.types in
    let laws : RowLaws types root = record {
      together = λ ty t e. c.leaves_add_up.ensures.together types ty t is e;
      inside = λ ty first len r. c.rows_lie_inside.ensures.rows types root 1 ty first len is r;
      typed = λ ty first len leaf r lt. c.leaves_are_scalars.ensures.rows types root 1 ty first len leaf is c.requires.known r lt;
      scalar = λ ty leaf s. c.leaf_types_go_by_parts.ensures.scalar types ty leaf s;
      placed = λ ty first len k r lt. c.places_add_up.ensures.elements ucf_layout types root 1 ty first len k c.ucf_is_a_layout.ensures is c.requires.known r lt;
    } in
    let known = subst (λ ts. ty < length ts) c.types-types.ensures c.leaf_type-ty.ensures.known in
    let scalar = subst (λ ts. IsScalar (slice_get ts ty)) c.types-types.ensures c.leaf_type-ty.ensures.scalar in
    let at = subst (λ ts. IsRowAt ts root 1 c.args.leaf ty row) c.types-types.ensures c.in-Some.ensures.row in
    stretch_of types root c.args.leaf ty row laws known scalar at

pub returns-in-None : goal.returns-in-None
returns-in-None c =
    let types = c.args.metrics.now.types in
    let root = c.args.root in
    let leaf = c.args.leaf in
    let ty = c.leaf_type-ty.result in
    let is = c.layout-layout.ensures.types in
    let one : leaf < 1 * leaves_of types root = omega (arith, c.requires.within) in
    let begins = c.leaves_are_scalars.ensures.begins types root 1 leaf is c.requires.known one in
    let value = c.leaf_type-ty.ensures.value ∙ ap (λ ts. leaf_type ts root leaf) c.types-types.ensures in
    let here = subst (λ t. IsSubobject types root 1 leaf t) (sym value) begins in
    absurd (c.in-None.ensures.none (subst (λ ts. IsSubobject ts root 1 leaf ty) (sym c.types-types.ensures) here))
