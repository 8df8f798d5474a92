-- Where rows and subobjects of a root begin, in bytes, and how their leaves lie in them.
use Rattle.std.specs.Prelude.{◌≡◌, ℕ, ◌+◌, ◌*◌, ◌%◌, ◌<◌, List, length, slice_get, Some, take}
use Rattle.porch_types.specs.declared.shapes.Ty.{Ty}
use Rattle.porch_types.specs.declared.shapes.Ty.TheVariants.{Array, Struct}
use Rattle.porch_types.specs.Leaves.{IsTypes, leaves_of, leaves_together}
use Rattle.porch_types.specs.Rows.{IsRow, IsSubobject}
use Rattle.porch_layout.specs.declared.layout.Layout.{Layout}
use Rattle.porch_layout.specs.Layouts.{IsLayout}
use Rattle.porch_metrics.specs.Extents.{extent_of}
use Rattle.porch_metrics.specs.Places.{member_place, place_of}

-- The rows of a root, each a type, its first leaf, its number of elements and the byte at which it
-- begins. In a row each element begins at its number times its size; in a struct its members have
-- places.
pub data IsPlacedRow (under : Layout) (types : List Ty) (root count : ℕ)
    : ℕ → ℕ → ℕ → ℕ → Type 0 where
  placed_root : IsPlacedRow under types root count root 0 count 0
  placed_elements : {ty first len place k of n : ℕ}
      → IsPlacedRow under types root count ty first len place → k < len
      → slice_get types ty ≡ Some (Array of n)
      → IsPlacedRow under types root count of (first + k * leaves_of types ty) n
      (place + k * (extent_of under types ty).size)
  placed_member : {ty first len place k member : ℕ} {members : List ℕ} (i : ℕ)
      → IsPlacedRow under types root count ty first len place → k < len
      → slice_get types ty ≡ Some (Struct members) → slice_get members i ≡ Some member
      → IsPlacedRow under types root count member
      (first + k * leaves_of types ty + leaves_together (leaves_of types) (take i members)) 1
      (place + k * (extent_of under types ty).size + member_place (extent_of under types) members i)

-- each row begins where its first leaf does
abbrev pub RowsHavePlaces : Type 0
RowsHavePlaces =
    (under : Layout) (types : List Ty) (root count ty first len : ℕ)
    → IsLayout under → IsTypes types → root < length types → IsRow types root count ty first len
    → IsPlacedRow under types root count ty first len (place_of under types root first)

-- and nowhere else
pub record IsRowAtPlace (under : Layout) (types : List Ty) (root count ty first len place : ℕ)
    : Type 0 where
  pub is_row : IsRow types root count ty first len
  pub place_is : place ≡ place_of under types root first

abbrev pub PlacesAreOfRows : Type 0
PlacesAreOfRows =
    (under : Layout) (types : List Ty) (root count ty first len place : ℕ)
    → IsLayout under → IsTypes types → root < length types
    → IsPlacedRow under types root count ty first len place
    → IsRowAtPlace under types root count ty first len place

-- a leaf stands as far after the beginning of its row as in elements of that type alone
abbrev pub LeavesStandInRows : Type 0
LeavesStandInRows =
    (under : Layout) (types : List Ty) (root count ty first len leaf : ℕ)
    → IsLayout under → IsTypes types → root < length types → IsRow types root count ty first len
    → leaf < len * leaves_of types ty
    → place_of under types root (first + leaf)
    ≡ place_of under types root first + place_of under types ty leaf

-- an element stands at its number times its size after the beginning of its row
abbrev pub ElementsStandInRows : Type 0
ElementsStandInRows =
    (under : Layout) (types : List Ty) (root count ty first len k : ℕ)
    → IsLayout under → IsTypes types → root < length types → IsRow types root count ty first len
    → k < len
    → place_of under types root (first + k * leaves_of types ty)
    ≡ place_of under types root first + k * (extent_of under types ty).size

-- a leaf stands as far after the beginning of a subobject as in its type
abbrev pub LeavesStandInSubobjects : Type 0
LeavesStandInSubobjects =
    (under : Layout) (types : List Ty) (root count place ty leaf : ℕ)
    → IsLayout under → IsTypes types → root < length types → IsSubobject types root count place ty
    → leaf < leaves_of types ty
    → place_of under types root (place + leaf)
    ≡ place_of under types root place + place_of under types ty leaf

-- a member of a struct stands where its first leaf does
abbrev pub MembersHavePlaces : Type 0
MembersHavePlaces =
    (under : Layout) (types : List Ty) (ty i member : ℕ) (members : List ℕ)
    → IsLayout under → IsTypes types → slice_get types ty ≡ Some (Struct members)
    → slice_get members i ≡ Some member
    → place_of under types ty (leaves_together (leaves_of types) (take i members))
    ≡ member_place (extent_of under types) members i

-- a subobject stands at a multiple of its alignment
abbrev pub SubobjectsAreAligned : Type 0
SubobjectsAreAligned =
    (under : Layout) (types : List Ty) (root count place ty : ℕ)
    → IsLayout under → IsTypes types → root < length types → IsSubobject types root count place ty
    → place_of under types root place % (extent_of under types ty).align ≡ 0

-- and the alignment of its root is a multiple of its own
abbrev pub RootsAreAligned : Type 0
RootsAreAligned =
    (under : Layout) (types : List Ty) (root count place ty : ℕ)
    → IsLayout under → IsTypes types → root < length types → IsSubobject types root count place ty
    → (extent_of under types root).align % (extent_of under types ty).align ≡ 0
