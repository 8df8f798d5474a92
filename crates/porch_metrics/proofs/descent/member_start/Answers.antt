use Rattle.std.proofs.Common.{◌∙◌, length, get_or, ap, arith}
use Rattle.porch_metrics.proofs.Reading.{measured_len, place_at}
use Rattle.porch_metrics.proofs.descent.member_start.Goals as goal

pub bounds-measured-ty : goal.bounds-measured-ty
bounds-measured-ty c = omega (arith, ap length c.deref-measured.ensures.value, measured_len c.args.types.now c.args.table.now c.requires.table, c.requires.known)

pub offset_bounds-places-index : goal.offset_bounds-places-index
offset_bounds-places-index c =
    let e = c.index-measured-ty in
    let p = place_at c.args.types.now c.args.table.now c.args.ty c.args.index e.result c.requires.table c.requires.known c.requires.member
    (e.is ∙ ap (λ es. get_or es c.args.ty e.result) c.deref-measured.ensures.value) in
    omega (arith, p.few)

pub bounds-places-index : goal.bounds-places-index
bounds-places-index c =
    let e = c.index-measured-ty in
    let p = place_at c.args.types.now c.args.table.now c.args.ty c.args.index e.result c.requires.table c.requires.known c.requires.member
    (e.is ∙ ap (λ es. get_or es c.args.ty e.result) c.deref-measured.ensures.value) in
    omega (arith, p.within, ap length c.deref-places.ensures.value)

pub returns : goal.returns
returns c =
    let e = c.index-measured-ty in
    let p = place_at c.args.types.now c.args.table.now c.args.ty c.args.index e.result c.requires.table c.requires.known c.requires.member
    (e.is ∙ ap (λ es. get_or es c.args.ty e.result) c.deref-measured.ensures.value) in
    ap (λ xs. get_or xs c.args.index 0) c.deref-places.ensures.value ∙ p.place
