-- A type has at least one byte and at most eight for each leaf, in whole alignments, and places are bounded alike.
use Rattle.std.proofs.Common.{◌≡◌, ℕ, zero, suc, ◌+◌, ◌-◌, ◌*◌, ◌/◌, ◌%◌, ◌<◌, ◌≤◌, List, length, slice_get, Option, Some, None, refl, arith, ap, ◌∙◌}
use Rattle.std.specs.Option.{option_map_or}
use Rattle.std.proofs.lemmas.Nat.{div-add-mod'}
use Rattle.std.proofs.Math.Nat.{mul-mod_left}
use Rattle.porch_types.specs.declared.shapes.Ty.{Ty}
use Rattle.porch_types.specs.declared.parts.Part.{Part}
use Rattle.porch_types.specs.Leaves.{leaves_of}
use Rattle.porch_types.specs.Rows.{part_at}
use Rattle.porch_layout.specs.declared.layout.Layout.{Layout}
use Rattle.porch_layout.specs.Layouts.{IsLayout}
use Rattle.porch_metrics.specs.Extents.{extent_of}
use Rattle.porch_metrics.specs.Places.{part_place, place_of, place_within}
use Rattle.porch_metrics.specs.Bounds.{IsExtentOf}
use Rattle.porch_metrics.specs.inside.Tables.{AreCounted}
use Rattle.porch_metrics.proofs.Bounds.{IsBounded, bounded, array_bound}
use Rattle.porch_metrics.proofs.Descending.{Lies, lies}
use Rattle.porch_metrics.proofs.Rising.{Multiple, multiple_below, size_some}

pub extent_bounds : (l : Layout) (types : List Ty) (ty : ℕ) → IsLayout l → AreCounted types → ty < length types → IsExtentOf (leaves_of types ty) (extent_of l types ty)
extent_bounds l types ty is formed known =
    let e = extent_of l types ty in
    let b : IsBounded e (leaves_of types ty) = bounded l types ty is formed known in
    let m : Multiple e.size e.align = multiple_below l types is formed (suc ty) ty (omega arith) known in
    record {
      some = size_some l types ty is formed known;
      most = b.size;
      whole = ap (λ x. x % e.align) m.is ∙ mul-mod_left m.q e.align;
      align = b.power;
    }

within_option : (l : Layout) (types : List Ty) (n ty leaf : ℕ) (o : Option Part) → IsLayout l → AreCounted types → part_at types ty leaf ≡ o
    → ((part : Part) → place_within n l types part.ty (leaf - part.first) ≤ 8 * (leaf - part.first))
    → option_map_or (λ part. part_place (extent_of l types) (slice_get types ty) part.index + place_within n l types part.ty (leaf - part.first)) o 0 ≤ 8 * leaf
within_option l types n ty leaf None is formed at e = omega arith
within_option l types n ty leaf (Some part) is formed at e =
    let d : Lies l types ty leaf (slice_get types ty) part = lies l types ty leaf part is formed at in
    omega (arith, e part, d.bound, d.holds.below)

within_bound : (l : Layout) (types : List Ty) (n ty leaf : ℕ) → IsLayout l → AreCounted types → place_within n l types ty leaf ≤ 8 * leaf
within_bound l types zero ty leaf is formed = omega arith
within_bound l types (suc n) ty leaf is formed =
    within_option l types n ty leaf (part_at types ty leaf) is formed refl (λ part. within_bound l types n part.ty (leaf - part.first) is formed)

pub place_bound_of : (l : Layout) (types : List Ty) (ty leaf : ℕ) → IsLayout l → AreCounted types → ty < length types → place_of l types ty leaf ≤ 8 * leaf
place_bound_of l types ty leaf is formed known =
    let n = leaves_of types ty in
    let b : IsBounded (extent_of l types ty) n = bounded l types ty is formed known in
    omega (arith, array_bound (leaf / n) (extent_of l types ty).size n b.size, div-add-mod' leaf n, within_bound l types (suc ty) ty (leaf % n) is formed)
