-- The words of addresses, and the addresses of words. `pointee` is the type that is pointed to.
use Rattle.std.specs.Prelude.{◌≡◌, ℕ, ◌+◌, ◌-◌, ◌*◌, ◌<◌, ◌≤◌, List, slice_get, Some, if◌then◌else◌}
use Rattle.porch_types.specs.declared.shapes.Ty.{Ty}
use Rattle.porch_layout.specs.declared.layout.Layout.{Layout}
use Rattle.porch_metrics.specs.Extents.{ucf_layout}
use Rattle.porch_metrics.specs.Places.{place_of}
use Rattle.porch_find.specs.declared.roots.Root.{Root}
use Rattle.porch_find.specs.declared.spot.Spot.{Spot}
use Rattle.porch_find.specs.Spots.{IsSpot}
use Rattle.porch_points.specs.Plans.{dead_word}

-- the place names this spot of this object
pub record NamesIn (under : Layout) (types : List Ty) (object : Root) (pointee place : ℕ)
    (spot : Spot) : Type 0 where
  pub begun : object.at ≤ place
  pub spot_is : IsSpot under types object.ty object.count (place - object.at) pointee spot

-- the place names this spot of the object of this number
pub record NamesSpot (under : Layout) (types : List Ty) (objects : List Root) (pointee place : ℕ)
    (number : ℕ) (spot : Spot) : Type 0 where
  pub object : Root
  pub is_object : slice_get objects number ≡ Some object
  pub names : NamesIn under types object pointee place spot

-- the word of a spot of the object at this place in the data: twice the place behind the first byte
-- of its subobject, and one more where it is the end
abbrev pub word_of : List Ty → Root → Spot → ℕ
word_of types object spot =
    2 * (object.at + place_of ucf_layout types object.ty spot.leaf + 1)
    + (if spot.past then 1 else 0)

-- the address and the word name the same spot of the same object
pub record NameOne (under : Layout) (types : List Ty) (addresses places : List Root)
    (pointee address word : ℕ) : Type 0 where
  pub number : ℕ
  pub spot : Spot
  pub copy : Root
  pub by_address : NamesSpot under types addresses pointee address number spot
  pub is_copy : slice_get places number ≡ Some copy
  pub word_is : word ≡ word_of types copy spot

-- the word of an address: null's, that of the spot that it names, or the dead word where it names
-- none
pub data IsWordOf (under : Layout) (types : List Ty) (addresses places : List Root) (pointee : ℕ)
    : ℕ → ℕ → Type 0 where
  null_word : IsWordOf under types addresses places pointee 0 0
  spot_word : {address word : ℕ} → NameOne under types addresses places pointee address word
      → IsWordOf under types addresses places pointee address word
  no_word : {address : ℕ} → 0 < address
      → ((word : ℕ) → NameOne under types addresses places pointee address word → ⊥)
      → IsWordOf under types addresses places pointee address dead_word

-- the address of a word: null's, that of the spot that it names, or all bits set for the dead word
pub data IsAddressOf (under : Layout) (types : List Ty) (addresses places : List Root) (pointee : ℕ)
    : ℕ → ℕ → Type 0 where
  null_address : IsAddressOf under types addresses places pointee 0 0
  spot_address : {word address : ℕ} → NameOne under types addresses places pointee address word
      → IsAddressOf under types addresses places pointee word address
  dead_address : IsAddressOf under types addresses places pointee dead_word dead_word
