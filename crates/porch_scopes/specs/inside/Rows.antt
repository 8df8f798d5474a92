-- Rows of the code, and those that contracts see.
use Rattle.std.specs.Prelude.{◌≡◌, ℕ, slice_get, ◌*◌, List, [], ◌∷◌, map, Option, Some, None}
use Rattle.std.specs.Option.{option_map, option_map_or}
use Rattle.porch_types.specs.Leaves.{MOST_LEAVES}
use Rattle.porch_check.specs.Shapes.{Member, Row, void}
use Rattle.porch_scopes.specs.Sizes.{AreWithin}
use Rattle.porch_shape.specs.declared.shape.Shape as code_shape
use Rattle.porch_shape.specs.Views.{as_shape}
use Rattle.porch_scopes.specs.declared.row.Row as code_row

abbrev pub row_of : code_row.Row → Row
row_of r = record { shape = as_shape r.shape; leaves = r.leaves; members = r.members.list; awaited = r.awaited }

abbrev pub rows_of : List code_row.Row → List Row
rows_of rs = map row_of rs

-- the members of each begin within as many leaves as a type may have
abbrev pub AreSmall : List Row → Type 0
AreSmall [] = Unit {0}
AreSmall (r ∷ rs) = AreWithin r.members MOST_LEAVES × AreSmall rs

pub record IsNothing (s : code_shape.Shape) : Type 0 where
  pub is : as_shape s ≡ void

-- the leaves of an array of a type that has so many
abbrev pub array_leaves : (count leaves : Option ℕ) → Option ℕ
array_leaves None leaves = None
array_leaves (Some n) leaves = option_map (λ k. n * k) leaves

abbrev pub leaves_in_rows : List Row → ℕ → Option ℕ
leaves_in_rows rs n = option_map_or (λ (r : Row). r.leaves) (slice_get rs n) None

abbrev pub members_in_rows : List Row → ℕ → List Member
members_in_rows rs n = option_map_or (λ (r : Row). r.members) (slice_get rs n) []
