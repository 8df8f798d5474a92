-- What a list of types says stays so in a longer one.
use Rattle.std.specs.Prelude.{◌≡◌, ◌↔◌, ℕ, ◌<◌, List, length, slice_get}
use Rattle.porch_types.specs.declared.shapes.Ty.{Ty}
use Rattle.porch_types.specs.Leaves.{leaves_of}
use Rattle.porch_types.specs.Rows.{IsRow, IsSubobject, part_at, row_at, has_shared_end}
use Rattle.porch_types.specs.LeafTypes.{leaf_type}

-- of each type of the first list the longer one says the same
pub record KeepsTypes (types longer : List Ty) : Type 0 where
  pub same : (ty : ℕ) → ty < length types → slice_get longer ty ≡ slice_get types ty
  pub leaves : (ty : ℕ) → ty < length types → leaves_of longer ty ≡ leaves_of types ty
  pub parts : (ty leaf : ℕ) → ty < length types → part_at longer ty leaf ≡ part_at types ty leaf
  pub leaf_types : (ty leaf : ℕ) → ty < length types → leaf_type longer ty leaf ≡ leaf_type types ty leaf
  pub rows : (root count ty first len : ℕ) → root < length types
      → IsRow longer root count ty first len ↔ IsRow types root count ty first len
  pub subobjects : (root count place pointee : ℕ) → root < length types
      → IsSubobject longer root count place pointee ↔ IsSubobject types root count place pointee
  pub found_rows : (root count place pointee : ℕ) → root < length types
      → row_at longer root count place pointee ≡ row_at types root count place pointee
  pub shared_ends : (root count place pointee : ℕ) → root < length types → pointee < length types
      → has_shared_end longer root count place pointee ≡ has_shared_end types root count place pointee
