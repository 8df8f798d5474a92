-- What a byte of an object names, by the type that is pointed to. An object is `count` elements of type
-- `root`; bytes are counted from its beginning.
use Rattle.std.specs.Prelude.{◌≡◌, ℕ, ◌+◌, ◌*◌, ◌<◌, ◌≤◌, List, length, MatchBool, true, false}
use Rattle.porch_types.specs.declared.shapes.Ty.{Ty}
use Rattle.porch_types.specs.declared.parts.Row.{Row}
use Rattle.porch_types.specs.Leaves.{IsTypes, leaves_of}
use Rattle.porch_types.specs.Rows.{IsRowAt, IsSubobject, IsSharedEnd}
use Rattle.porch_layout.specs.declared.layout.Layout.{Layout}
use Rattle.porch_layout.specs.Layouts.{IsLayout}
use Rattle.porch_metrics.specs.Extents.{extent_of}
use Rattle.porch_metrics.specs.Places.{place_of}
use Rattle.porch_find.specs.declared.spot.Spot.{Spot}

-- the subobject of type `pointee` at this leaf is the last of its row, and its end isn't shared
pub record IsRowEnd (types : List Ty) (root count pointee leaf : ℕ) : Type 0 where
  pub row : Row
  pub is : IsRowAt types root count leaf pointee row
  pub last : leaf + leaves_of types pointee ≡ row.first + row.len * leaves_of types pointee
  pub unshared : IsSharedEnd types root count leaf pointee → ⊥

-- a subobject of type `pointee` begins at this leaf, and the leaf at the byte
pub record BeginsAt (under : Layout) (types : List Ty) (root count byte pointee leaf : ℕ)
    : Type 0 where
  pub is : IsSubobject types root count leaf pointee
  pub at : byte ≡ place_of under types root leaf

-- a row ends with the subobject at this leaf, and the subobject at the byte
pub record EndsAt (under : Layout) (types : List Ty) (root count byte pointee leaf : ℕ)
    : Type 0 where
  pub is : IsRowEnd types root count pointee leaf
  pub at : byte ≡ place_of under types root leaf + (extent_of under types pointee).size

-- the byte names this spot: the subobject of type `pointee` that begins there, or the end of a row
-- of them that isn't where another one begins
abbrev pub IsSpot : Layout → List Ty → ℕ → ℕ → ℕ → ℕ → Spot → Type 0
IsSpot under types root count byte pointee spot =
    MatchBool spot.past (EndsAt under types root count byte pointee spot.leaf)
    (BeginsAt under types root count byte pointee spot.leaf)

-- a subobject is named by the place of its first leaf
abbrev pub SubobjectsAreNamed : Type 0
SubobjectsAreNamed =
    (under : Layout) (types : List Ty) (root count pointee leaf : ℕ)
    → IsSubobject types root count leaf pointee
    → IsSpot under types root count (place_of under types root leaf) pointee
    (record { leaf = leaf; past = false })

-- and the end of a row by the byte after its last subobject
abbrev pub RowEndsAreNamed : Type 0
RowEndsAreNamed =
    (under : Layout) (types : List Ty) (root count pointee leaf : ℕ)
    → IsRowEnd types root count pointee leaf
    → IsSpot under types root count
    (place_of under types root leaf + (extent_of under types pointee).size) pointee
    (record { leaf = leaf; past = true })

-- a byte names at most one spot of a type
abbrev pub SpotsAreOne : Type 0
SpotsAreOne =
    (under : Layout) (types : List Ty) (root count byte pointee : ℕ) (a b : Spot)
    → IsLayout under → IsTypes types → root < length types
    → IsSpot under types root count byte pointee a → IsSpot under types root count byte pointee b
    → a ≡ b

-- a subobject ends at or before the end of its object
abbrev pub SubobjectsEndInside : Type 0
SubobjectsEndInside =
    (under : Layout) (types : List Ty) (root count pointee leaf : ℕ)
    → IsLayout under → IsTypes types → root < length types
    → IsSubobject types root count leaf pointee
    → place_of under types root leaf + (extent_of under types pointee).size
    ≤ count * (extent_of under types root).size
