-- How large types are, and how far their leaves lie.
use Rattle.std.specs.Prelude.{◌≡◌, ℕ, ◌*◌, ◌%◌, ◌<◌, ◌≤◌, List, length}
use Rattle.porch_types.specs.declared.shapes.Ty.{Ty}
use Rattle.porch_types.specs.Leaves.{IsTypes, leaves_of}
use Rattle.porch_layout.specs.declared.layout.Layout.{Layout}
use Rattle.porch_layout.specs.Layouts.{IsAlignment, IsLayout}
use Rattle.porch_metrics.specs.Extents.{Extent, extent_of, round_up}
use Rattle.porch_metrics.specs.Places.{place_of}

-- an extent of so many leaves: at least one byte, at most eight for each leaf, in whole alignments
pub record IsExtentOf (leaves : ℕ) (extent : Extent) : Type 0 where
  pub some : 0 < extent.size
  pub most : extent.size ≤ 8 * leaves
  pub whole : extent.size % extent.align ≡ 0
  pub align : IsAlignment extent.align

abbrev pub ExtentsAreBounded : Type 0
ExtentsAreBounded =
    (under : Layout) (types : List Ty) (ty : ℕ)
    → IsLayout under → IsTypes types → ty < length types
    → IsExtentOf (leaves_of types ty) (extent_of under types ty)

-- a leaf begins at most eight bytes in for each leaf before it
abbrev pub PlacesAreBounded : Type 0
PlacesAreBounded =
    (under : Layout) (types : List Ty) (ty leaf : ℕ)
    → IsLayout under → IsTypes types → ty < length types
    → place_of under types ty leaf ≤ 8 * leaf

-- elements stand at their size times their number
abbrev pub ElementsHavePlaces : Type 0
ElementsHavePlaces =
    (under : Layout) (types : List Ty) (ty k : ℕ)
    → IsLayout under → IsTypes types → ty < length types
    → place_of under types ty (k * leaves_of types ty) ≡ k * (extent_of under types ty).size

abbrev pub ElementsAreAligned : Type 0
ElementsAreAligned =
    (under : Layout) (types : List Ty) (ty k : ℕ)
    → IsLayout under → IsTypes types → ty < length types
    → place_of under types ty (k * leaves_of types ty) % (extent_of under types ty).align ≡ 0

-- a multiple of an alignment that isn't before a place isn't before the place rounded up
abbrev pub RoundsUpLeast : Type 0
RoundsUpLeast =
    (place align other : ℕ) → 0 < align → place ≤ other → other % align ≡ 0
    → round_up place align ≤ other
