-- Types that are added leave the places of the earlier ones as they are.
use Rattle.std.proofs.Common.{◌≡◌, ℕ, zero, suc, ◌+◌, ◌-◌, ◌*◌, ◌/◌, ◌%◌, ◌<◌, List, length, get_or, slice_get, Option, Some, None, refl, arith, ap, sym, ◌∙◌, All}
use Rattle.std.proofs.lemmas.Option.{slice_get-get_or}
use Rattle.std.specs.Option.{option_map_or}
use Rattle.porch_types.specs.declared.shapes.Ty.{Ty}
use Rattle.porch_types.specs.declared.shapes.Ty.TheVariants.{Whole, Pointer, Array, Struct}
use Rattle.porch_types.specs.declared.parts.Part.{Part}
use Rattle.porch_types.specs.Leaves.{parts_of, leaves_of, IsFormed}
use Rattle.porch_types.specs.Rows.{part_at}
use Rattle.porch_types.specs.Longer.{KeepsTypes}
use Rattle.porch_layout.specs.declared.layout.Layout.{Layout}
use Rattle.porch_metrics.specs.Extents.{Extent, extent_of, ucf_layout}
use Rattle.porch_metrics.specs.Places.{part_place, place_of, place_within}
use Rattle.porch_metrics.specs.inside.Tables.{AreCounted}
use Rattle.porch_metrics.proofs.Descending.{Lies, lies}
use Rattle.porch_metrics.proofs.Extended.{Agree, places_same}
use Rattle.porch_metrics.proofs.Packed.{is_layout}

-- the parts of a type begin at the same places where their extents are the same
start_same : (f g : ℕ → Extent) (n index : ℕ) (ty : Ty) → All (λ p. p < n) (parts_of ty) → Agree f g n → part_place f (Some ty) index ≡ part_place g (Some ty) index
start_same f g n index (Whole kind) a e = refl
start_same f g n index (Pointer to) a e = refl
start_same f g n index (Array of count) a e = ap (λ (x : Extent). index * x.size) (e of (a 0 0 (omega arith)))
start_same f g n index (Struct members) a e = ap (λ xs. get_or xs index 0) (places_same f g n (Struct members) a e)

start_stays : (l : Layout) (types longer : List Ty) (ty index : ℕ) → AreCounted types → KeepsTypes types longer → Agree (extent_of l longer) (extent_of l types) (length types) → ty < length types
    → part_place (extent_of l longer) (slice_get longer ty) index ≡ part_place (extent_of l types) (slice_get types ty) index
start_stays l types longer ty index formed keeps same known =
    let this : Ty = get_or types ty (Pointer 0) in
    let at : slice_get types ty ≡ Some this = slice_get-get_or types ty (Pointer 0) known in
    let f : IsFormed types ty this = formed.each ty this at in
    ap (λ o. part_place (extent_of l longer) o index) (keeps.same ty known ∙ at)
    ∙ start_same (extent_of l longer) (extent_of l types) ty index this f.earlier (λ p lt. same p (omega (arith, lt, known)))
    ∙ ap (λ o. part_place (extent_of l types) o index) (sym at)

stays_option : (l : Layout) (types longer : List Ty) (n ty leaf : ℕ) (o : Option Part) → AreCounted types → KeepsTypes types longer → Agree (extent_of l longer) (extent_of l types) (length types) → ty < length types
    → part_at types ty leaf ≡ o
    → ((part : Part) → part.ty < length types → place_within n l longer part.ty (leaf - part.first) ≡ place_within n l types part.ty (leaf - part.first))
    → option_map_or (λ part. part_place (extent_of l longer) (slice_get longer ty) part.index + place_within n l longer part.ty (leaf - part.first)) o 0
    ≡ option_map_or (λ part. part_place (extent_of l types) (slice_get types ty) part.index + place_within n l types part.ty (leaf - part.first)) o 0
stays_option l types longer n ty leaf None formed keeps same known at deeper = refl
stays_option l types longer n ty leaf (Some part) formed keeps same known at deeper =
    let d : Lies ucf_layout types ty leaf (slice_get types ty) part = lies ucf_layout types ty leaf part is_layout formed at in
    omega (arith, start_stays l types longer ty part.index formed keeps same known, deeper part (omega (arith, d.holds.earlier, known)))

within_stays : (l : Layout) (types longer : List Ty) (n ty leaf : ℕ) → AreCounted types → KeepsTypes types longer → Agree (extent_of l longer) (extent_of l types) (length types) → ty < length types
    → place_within n l longer ty leaf ≡ place_within n l types ty leaf
within_stays l types longer zero ty leaf formed keeps same known = refl
within_stays l types longer (suc n) ty leaf formed keeps same known =
    ap (λ o. option_map_or (λ part. part_place (extent_of l longer) (slice_get longer ty) part.index + place_within n l longer part.ty (leaf - part.first)) o 0) (keeps.parts ty leaf known)
    ∙ stays_option l types longer n ty leaf (part_at types ty leaf) formed keeps same known refl
    (λ part below. within_stays l types longer n part.ty (leaf - part.first) formed keeps same below)

pub place_stays : (l : Layout) (types longer : List Ty) (ty leaf : ℕ) → AreCounted types → KeepsTypes types longer → Agree (extent_of l longer) (extent_of l types) (length types) → ty < length types
    → place_of l longer ty leaf ≡ place_of l types ty leaf
place_stays l types longer ty leaf formed keeps same known =
    ap (λ x. leaf / x * (extent_of l longer ty).size + place_within (suc ty) l longer ty (leaf % x)) (keeps.leaves ty known)
    ∙ ap (λ (x : Extent). leaf / leaves_of types ty * x.size + place_within (suc ty) l longer ty (leaf % leaves_of types ty)) (same ty known)
    ∙ ap (λ x. leaf / leaves_of types ty * (extent_of l types ty).size + x) (within_stays l types longer (suc ty) ty (leaf % leaves_of types ty) formed keeps same known)
