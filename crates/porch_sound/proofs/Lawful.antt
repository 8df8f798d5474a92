-- What the laws of porch_types say of one list of types.
use Rattle.std.proofs.Common.{◌≡◌, ℕ, ◌<◌, ◌≤◌, ◌+◌, ◌*◌, List, length, Some}
use Rattle.std.specs.Prelude.{slice_get}
use Rattle.porch_types.specs.declared.shapes.Ty.{Ty}
use Rattle.porch_types.specs.declared.parts.Row.{Row}
use Rattle.porch_types.specs.Leaves.{IsTypes, leaf_count, leaves_of}
use Rattle.porch_types.specs.LeafTypes.{IsScalar, leaf_type}
use Rattle.porch_types.specs.Rows.{IsRowAt, IsSubobject, row_at}

pub record AreLawful (types : List Ty) : Type 0 where
  pub are : IsTypes types
  pub together : (number : ℕ) (ty : Ty) → slice_get types number ≡ Some ty → leaves_of types number ≡ leaf_count (leaves_of types) ty
  pub some : (number : ℕ) → number < length types → 0 < leaves_of types number
  pub scalar : (root leaf : ℕ) → root < length types → IsScalar (slice_get types (leaf_type types root leaf))
  pub only : (root count leaf ty : ℕ) → root < length types → IsSubobject types root count leaf ty → IsScalar (slice_get types ty)
      → ty ≡ leaf_type types root leaf
  pub subobjects : (root count place ty leaf : ℕ) → IsSubobject types root count place ty → leaf < leaves_of types ty
      → leaf_type types root (place + leaf) ≡ leaf_type types ty leaf
  pub inside : (root count place ty : ℕ) → IsSubobject types root count place ty → place + leaves_of types ty ≤ count * leaves_of types root
  pub nest : (root count place ty inner pointee : ℕ) → IsSubobject types root count place ty → IsSubobject types ty 1 inner pointee
      → IsSubobject types root count (place + inner) pointee
  pub found : (root count place pointee : ℕ) (row : Row) → root < length types → row_at types root count place pointee ≡ Some row
      → IsRowAt types root count place pointee row
  pub known : (root count place ty : ℕ) → root < length types → IsSubobject types root count place ty → ty < length types
