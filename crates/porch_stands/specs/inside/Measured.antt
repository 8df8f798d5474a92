-- What the laws of the crates below say of one program under one layout.
use Rattle.std.specs.Prelude.{◌≡◌, ℕ, ◌<◌, ◌≤◌, ◌+◌, ◌*◌, ◌%◌, List, length, slice_get, Some}
use Rattle.porch_types.specs.declared.shapes.Ty.{Ty}
use Rattle.porch_types.specs.Leaves.{leaves_of}
use Rattle.porch_types.specs.LeafTypes.{IsScalar, leaf_type}
use Rattle.porch_layout.specs.declared.layout.Layout.{Layout}
use Rattle.porch_layout.specs.Layouts.{IsLayout}
use Rattle.porch_metrics.specs.Extents.{extent_of, round_up, type_extent}
use Rattle.porch_metrics.specs.Bounds.{IsExtentOf}
use Rattle.porch_metrics.specs.Places.{place_of}
use Rattle.porch_bytes.specs.Leaf.{OthersStay, NumbersHaveSizes}
use Rattle.porch_bytes.specs.Shapes.{NumbersAreReadBack}

pub record AreMeasured (under : Layout) (types : List Ty) : Type 0 where
  pub is : IsLayout under
  pub multiple : (place align : ℕ) → 0 < align → round_up place align % align ≡ 0
  pub after : (place align : ℕ) → 0 < align → place ≤ round_up place align
  pub bounded : (ty : ℕ) → ty < length types → IsExtentOf (leaves_of types ty) (extent_of under types ty)
  pub adds_up : (number : ℕ) (ty : Ty) → slice_get types number ≡ Some ty → extent_of under types number ≡ type_extent under (extent_of under types) ty
  pub apart : (ty a b : ℕ) → ty < length types → a < b
      → place_of under types ty a + (extent_of under types (leaf_type types ty a)).size ≤ place_of under types ty b
  pub elements : (ty k : ℕ) → ty < length types → place_of under types ty (k * leaves_of types ty) ≡ k * (extent_of under types ty).size
  pub scalar : (root leaf : ℕ) → root < length types → IsScalar (slice_get types (leaf_type types root leaf))
  pub alone : (ty leaf : ℕ) → IsScalar (slice_get types ty) → leaf_type types ty leaf ≡ ty
  pub stay : OthersStay
  pub sizes : NumbersHaveSizes
  pub back : NumbersAreReadBack
