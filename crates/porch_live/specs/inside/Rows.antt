-- Rows whose leaves can be counted in 64 bits, and rows of a type that a list doesn't have.
use Rattle.std.specs.Prelude.{ℕ, ◌+◌, ◌*◌, ◌^◌, ◌≤◌, ◌==◌, ◌&&◌, nat_lt, if◌then◌else◌, List, Option, Some, None}
use Rattle.porch_types.specs.declared.shapes.Ty.{Ty}
use Rattle.porch_types.specs.declared.parts.Row.{Row}
use Rattle.porch_types.specs.Leaves.{leaves_of}

-- the row begins at this place or before, and both lie at small numbers
pub record IsNear (types : List Ty) (pointee place : ℕ) (row : Row) : Type 0 where
  pub small : place ≤ 2 ^ 52
  pub begun : row.first ≤ place
  pub short : row.len ≤ 2 ^ 52
  pub ended : row.first + row.len * leaves_of types pointee ≤ 2 ^ 52

-- the row at a place of a root whose type isn't there: it has elements, but no leaf
abbrev pub row_without_type : ℕ → ℕ → ℕ → ℕ → Option Row
row_without_type root count place pointee =
    if nat_lt 0 count && (root == pointee && place == 0) then Some (record { first = 0; len = count }) else None
