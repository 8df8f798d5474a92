-- What is true of the places of a list of types, under a layout.
use Rattle.std.specs.Prelude.{◌≡◌, ℕ, ◌+◌, ◌*◌, ◌<◌, ◌≤◌, List, length, slice_get, Some}
use Rattle.porch_types.specs.declared.shapes.Ty.{Ty}
use Rattle.porch_types.specs.declared.shapes.Ty.TheVariants.{Array}
use Rattle.porch_types.specs.Leaves.{leaves_of}
use Rattle.porch_types.specs.Rows.{IsSubobject}
use Rattle.porch_layout.specs.declared.layout.Layout.{Layout}
use Rattle.porch_metrics.specs.Extents.{extent_of}
use Rattle.porch_metrics.specs.Places.{place_of}

-- each type has leaves and bytes, and leaves stand in order, apart, inside their subobjects and these
-- inside their object; in an array they stand as in its elements alone
pub record AreMeasured (under : Layout) (types : List Ty) : Type 0 where
  pub some : (ty : ℕ) → ty < length types → 0 < leaves_of types ty
  pub sizes : (ty : ℕ) → ty < length types → 0 < (extent_of under types ty).size
  pub begins : (ty : ℕ) → ty < length types → place_of under types ty 0 ≡ 0
  pub rise : (ty a b : ℕ) → ty < length types → a < b
      → place_of under types ty a < place_of under types ty b
  pub elements : (ty k : ℕ) → ty < length types
      → place_of under types ty (k * leaves_of types ty) ≡ k * (extent_of under types ty).size
  pub leaves : (root count place ty leaf : ℕ) → root < length types
      → IsSubobject types root count place ty → leaf < leaves_of types ty
      → place_of under types root (place + leaf)
      ≡ place_of under types root place + place_of under types ty leaf
  pub apart : (root count place ty leaf : ℕ) → root < length types
      → IsSubobject types root count place ty → place + leaves_of types ty ≤ leaf
      → place_of under types root place + (extent_of under types ty).size
      ≤ place_of under types root leaf
  pub inside : (root count place ty : ℕ) → IsSubobject types root count place ty
      → place + leaves_of types ty ≤ count * leaves_of types root
  pub known : (root count place ty : ℕ) → root < length types
      → IsSubobject types root count place ty → ty < length types
  pub earlier : (ty of n : ℕ) → slice_get types ty ≡ Some (Array of n) → of < ty
  pub counts : (ty of n : ℕ) → slice_get types ty ≡ Some (Array of n)
      → leaves_of types ty ≡ n * leaves_of types of
  pub arrays : (ty of n leaf : ℕ) → slice_get types ty ≡ Some (Array of n)
      → leaf < n * leaves_of types of
      → place_of under types ty leaf ≡ place_of under types of leaf
