-- Positions in rows, as the code has them.
use Rattle.std.specs.Prelude.{ℕ, ℤ, pos, negsuc, ◌+◌, ◌-◌, ◌/◌, ◌<◌, ◌*◌, ◌^◌, ◌≤◌, List}
use Rattle.porch_types.specs.declared.shapes.Ty.{Ty}
use Rattle.porch_types.specs.Leaves.{leaves_of}
use Rattle.porch_objects.specs.Pointers as pointers
use Rattle.porch_types.specs.declared.parts.Row.{Row}
use Rattle.porch_objects.specs.Store as store
use Rattle.porch_live.specs.Views.{home_of}
use Rattle.porch_live.specs.declared.positions.Position.{Position}

abbrev pub view_of : Position → pointers.Position
view_of p = record { home = home_of p.home; row = p.row; index = p.index }

-- the position lies at small numbers
pub record IsNearPosition (types : List Ty) (pointee : ℕ) (p : Position) : Type 0 where
  pub small : p.index ≤ 2 ^ 53
  pub begun : p.row.first ≤ 2 ^ 52
  pub short : p.row.len ≤ 2 ^ 52
  pub ended : p.row.first + p.row.len * leaves_of types pointee ≤ 2 ^ 52

-- the position of the element at a leaf of a row, or so many behind it
abbrev pub place_in : List Ty → ℕ → store.Home → ℕ → ℕ → Row → pointers.Position
place_in types pointee home leaf more row = record { home = home; row = row; index = (leaf - row.first) / leaves_of types pointee + more }

-- an index before a row, or after its end
abbrev pub IsOutside : ℤ → ℕ → Type 0
IsOutside (pos index) len = len < index
IsOutside (negsuc n) len = Unit {0}
