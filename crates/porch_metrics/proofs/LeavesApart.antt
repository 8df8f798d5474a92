-- An integer or a pointer is one leaf, so leaves lie apart as subobjects do.
use Rattle.std.proofs.Common.{◌≡◌, ℕ, ◌+◌, ◌*◌, ◌/◌, ◌<◌, ◌≤◌, List, length, slice_get, Option, Some, None, refl, arith, ap, ◌∙◌}
use Rattle.std.proofs.Math.Nat.{lt-div-mul-add}
use Rattle.porch_types.specs.declared.shapes.Ty.{Ty}
use Rattle.porch_types.specs.declared.shapes.Ty.TheVariants.{Whole, Pointer, Array, Struct}
use Rattle.porch_types.specs.Leaves.{leaves_of}
use Rattle.porch_types.specs.Rows.{IsSubobject}
use Rattle.porch_types.specs.LeafTypes.{IsScalar}
use Rattle.porch_layout.specs.declared.layout.Layout.{Layout}
use Rattle.porch_layout.specs.Layouts.{IsLayout}
use Rattle.porch_metrics.specs.Extents.{extent_of, ucf_layout}
use Rattle.porch_metrics.specs.Places.{place_of}
use Rattle.porch_metrics.specs.inside.Tables.{AreCounted}
use Rattle.porch_metrics.proofs.RowsApart.{one_more, subobjects_apart}
use Rattle.porch_metrics.proofs.Packed.{subobject_packed}

one_leaf : (types : List Ty) (ty : ℕ) (o : Option Ty) → AreCounted types → slice_get types ty ≡ o → IsScalar o → leaves_of types ty ≡ 1
one_leaf types ty None formed at scalar = absurd scalar
one_leaf types ty (Some (Whole kind)) formed at scalar = formed.together ty (Whole kind) at
one_leaf types ty (Some (Pointer to)) formed at scalar = formed.together ty (Pointer to) at
one_leaf types ty (Some (Array of n)) formed at scalar = absurd scalar
one_leaf types ty (Some (Struct members)) formed at scalar = absurd scalar

-- so many elements hold the leaf
pub leaf_held : (leaf n : ℕ) → 0 < n → leaf < (leaf / n + 1) * n
leaf_held leaf n some =
    let high : leaf < leaf / n * n + n = lt-div-mul-add some in
    omega (arith, high, one_more (leaf / n) n)

pub leaf_apart : (l : Layout) (types : List Ty) (root count a b ty : ℕ) → IsLayout l → AreCounted types → root < length types → IsScalar (slice_get types ty) → IsSubobject types root count a ty → a < b
    → place_of l types root a + (extent_of l types ty).size ≤ place_of l types root b
leaf_apart l types root count a b ty is formed known scalar sub lt =
    subobjects_apart l types root count a ty b is formed known sub (omega (arith, one_leaf types ty (slice_get types ty) formed refl scalar, lt))

pub leaf_packed : (types : List Ty) (root count leaf ty : ℕ) → AreCounted types → root < length types → IsScalar (slice_get types ty) → IsSubobject types root count leaf ty
    → place_of ucf_layout types root (leaf + 1) ≡ place_of ucf_layout types root leaf + (extent_of ucf_layout types ty).size
leaf_packed types root count leaf ty formed known scalar sub =
    let one : leaf + 1 ≡ leaf + leaves_of types ty = omega (arith, one_leaf types ty (slice_get types ty) formed refl scalar) in
    ap (place_of ucf_layout types root) one ∙ subobject_packed types root count leaf ty formed known sub
