-- Rows and subobjects of a root, which is a type and a count of elements in a row.
use Rattle.std.specs.Prelude.{◌≡◌, ℕ, zero, suc, ◌+◌, ◌*◌, ◌/◌, ◌-◌, ◌<◌, ◌==◌, ◌&&◌, Bool, nat_lt, if◌then◌else◌, List, [], ◌∷◌, slice_get, take, Option, Some, None, is_some}
use Rattle.std.specs.Option.{option_map}
use Rattle.porch_types.specs.declared.shapes.Ty.{Ty}
use Rattle.porch_types.specs.declared.shapes.Ty.TheVariants.{Whole, Pointer, Array, Struct}
use Rattle.porch_types.specs.declared.parts.Row.{Row}
use Rattle.porch_types.specs.declared.parts.Part.{Part}
use Rattle.porch_types.specs.Leaves.{leaves_of, leaves_together}

-- the rows of a root, each a type, its first leaf and its number of elements:
-- the root's elements, the elements of each array in it, and each member of a struct in it alone
pub data IsRow (types : List Ty) (root count : ℕ) : ℕ → ℕ → ℕ → Type 0 where
  elements_of_root : IsRow types root count root 0 count
  elements_of_array : {ty first len k of n : ℕ} → IsRow types root count ty first len → k < len
      → slice_get types ty ≡ Some (Array of n) → IsRow types root count of (first + k * leaves_of types ty) n
  member_of_struct : {ty first len k member : ℕ} {members : List ℕ} (i : ℕ) → IsRow types root count ty first len → k < len
      → slice_get types ty ≡ Some (Struct members) → slice_get members i ≡ Some member
      → IsRow types root count member (first + k * leaves_of types ty + leaves_together (leaves_of types) (take i members)) 1

-- an element of this row is the subobject of type `pointee` that begins at leaf `place`
pub record IsRowAt (types : List Ty) (root count place pointee : ℕ) (row : Row) : Type 0 where
  pub is_row : IsRow types root count pointee row.first row.len
  pub element : (k : ℕ) × (k < row.len) × (place ≡ row.first + k * leaves_of types pointee)

-- a subobject of type `pointee` begins at leaf `place` of the root
abbrev pub IsSubobject : List Ty → ℕ → ℕ → ℕ → ℕ → Type 0
IsSubobject types root count place pointee = (row : Row) × IsRowAt types root count place pointee row

-- the end of the subobject of type `pointee` at leaf `place` is shared: at the next leaf of the root
-- begins a subobject of that type
abbrev pub IsSharedEnd : List Ty → ℕ → ℕ → ℕ → ℕ → Type 0
IsSharedEnd types root count place pointee = IsSubobject types root count (place + leaves_of types pointee) pointee

-- What follows finds the row by going down the parts: `row_of` ensures that it is the row above.

-- the element that holds a leaf, of `count` elements with so many leaves each
abbrev pub element_at : ℕ → ℕ → ℕ → ℕ → Option Part
element_at of leaves count place =
    if nat_lt (place / leaves) count
    then Some (record { ty = of; index = place / leaves; first = place / leaves * leaves; row = record { first = 0; len = count } })
    else None

-- the member that holds a leaf; the first member here is number `index` and begins at leaf `first`
abbrev pub member_at : (ℕ → ℕ) → List ℕ → ℕ → ℕ → ℕ → Option Part
member_at leaves [] index first place = None
member_at leaves (ty ∷ rest) index first place =
    if nat_lt place (first + leaves ty)
    then Some (record { ty = ty; index = index; first = first; row = record { first = first; len = 1 } })
    else member_at leaves rest (index + 1) (first + leaves ty) place

-- the element or member of such a type that holds a leaf
abbrev pub part_of : List Ty → Option Ty → ℕ → Option Part
part_of types (Some (Array of count)) place = element_at of (leaves_of types of) count place
part_of types (Some (Struct members)) place = member_at (leaves_of types) members 0 0 place
part_of types (Some (Whole kind)) place = None
part_of types (Some (Pointer to)) place = None
part_of types None place = None

-- the element or member of a type that holds a leaf
abbrev pub part_at : List Ty → ℕ → ℕ → Option Part
part_at types ty place = part_of types (slice_get types ty) place

-- a row of a part, by the leaves of the whole
abbrev pub moved_row : ℕ → Row → Row
moved_row by row = record { first = by + row.first; len = row.len }

-- the row of the subobject of type `pointee` that begins at a leaf of this part, or of a part in it
-- (nested at most so deep)
abbrev pub row_within : ℕ → List Ty → Option Part → ℕ → ℕ → Option Row
row_within zero types part place pointee = None
row_within (suc depth) types None place pointee = None
row_within (suc depth) types (Some part) place pointee =
    if part.ty == pointee && part.first == place
    then Some part.row
    else option_map (moved_row part.first)
    (row_within depth types (part_at types part.ty (place - part.first)) (place - part.first) pointee)

-- the row of the subobject of type `pointee` that begins at leaf `place` of a root
abbrev pub row_at : List Ty → ℕ → ℕ → ℕ → ℕ → Option Row
row_at types root count place pointee =
    row_within (suc root) types (element_at root (leaves_of types root) count place) place pointee

-- the test of a shared end
abbrev pub has_shared_end : List Ty → ℕ → ℕ → ℕ → ℕ → Bool
has_shared_end types root count place pointee =
    is_some (row_at types root count (place + leaves_of types pointee) pointee)
