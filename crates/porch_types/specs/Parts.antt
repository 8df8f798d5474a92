-- What the part is that holds a leaf of a type.
use Rattle.std.specs.Prelude.{ℕ, ◌+◌, ◌<◌, ◌≤◌, List}
use Rattle.porch_types.specs.declared.shapes.Ty.{Ty}
use Rattle.porch_types.specs.declared.parts.Part.{Part}
use Rattle.porch_types.specs.Leaves.{leaves_of}
use Rattle.porch_types.specs.Rows.{IsRowAt}

-- the part holds the leaf, lies in the type, is of an earlier one, and tells its row
pub record HoldsLeaf (types : List Ty) (ty leaf : ℕ) (part : Part) : Type 0 where
  pub earlier : part.ty < ty
  pub begun : part.first ≤ leaf
  pub not_ended : leaf < part.first + leaves_of types part.ty
  pub within : part.first + leaves_of types part.ty ≤ leaves_of types ty
  pub row : IsRowAt types ty 1 part.first part.ty part.row
