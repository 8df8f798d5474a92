-- Which words a checkpoint may have for a pointer, by its data alone. `pointee` is the type that is
-- pointed to.
use Rattle.std.specs.Prelude.{◌≡◌, ℕ, List, slice_get, Some, MatchBool}
use Rattle.porch_types.specs.declared.shapes.Ty.{Ty}
use Rattle.porch_types.specs.Rows.{IsSubobject}
use Rattle.porch_find.specs.declared.roots.Root.{Root}
use Rattle.porch_find.specs.declared.spot.Spot.{Spot}
use Rattle.porch_find.specs.Spots.{IsRowEnd}
use Rattle.porch_points.specs.Plans.{dead_word}
use Rattle.porch_points.specs.Words.{word_of}

-- the spot is a subobject of the object, or the end of a row that isn't where another one begins
abbrev pub IsSpotOf : List Ty → Root → (pointee : ℕ) → Spot → Type 0
IsSpotOf types object pointee spot =
    MatchBool spot.past (IsRowEnd types object.ty object.count pointee spot.leaf)
    (IsSubobject types object.ty object.count spot.leaf pointee)

-- the word is that of a spot of an object in the data
pub record NamesSpotOf (types : List Ty) (places : List Root) (pointee word : ℕ) : Type 0 where
  pub number : ℕ
  pub object : Root
  pub spot : Spot
  pub is_object : slice_get places number ≡ Some object
  pub is_spot : IsSpotOf types object pointee spot
  pub word_is : word ≡ word_of types object spot

-- the words: null's, the dead word, and those of spots
pub data IsDisplacement (types : List Ty) (places : List Root) (pointee : ℕ) : ℕ → Type 0 where
  null : IsDisplacement types places pointee 0
  dead : IsDisplacement types places pointee dead_word
  spot : {word : ℕ} → NamesSpotOf types places pointee word
      → IsDisplacement types places pointee word
