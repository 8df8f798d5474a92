-- A type's extent comes from those of its parts, and so stays where types are added behind it.
use Rattle.std.specs.Prelude.{◌≡◌, ℕ, ◌*◌, ◌<◌, List, ◌++◌, length, slice_get, Some}
use Rattle.porch_types.specs.declared.shapes.Ty.{Ty}
use Rattle.porch_types.specs.declared.shapes.Ty.TheVariants.{Pointer, Array}
use Rattle.porch_types.specs.Leaves.{IsTypes}
use Rattle.porch_layout.specs.declared.layout.Layout.{Layout}
use Rattle.porch_metrics.specs.Extents.{extent_of, type_extent}
use Rattle.porch_metrics.specs.Places.{place_of}

-- a type has the extent that the extents of its parts give it
abbrev pub ExtentsAddUp : Type 0
ExtentsAddUp =
    (under : Layout) (types : List Ty) (number : ℕ) (ty : Ty)
    → IsTypes types → slice_get types number ≡ Some ty
    → extent_of under types number ≡ type_extent under (extent_of under types) ty

-- an array has the size of its elements together, at the alignment of one
abbrev pub ArraysAddUp : Type 0
ArraysAddUp =
    (under : Layout) (types : List Ty) (ty of count : ℕ)
    → IsTypes types → slice_get types ty ≡ Some (Array of count)
    → extent_of under types ty ≡ record {
      size = count * (extent_of under types of).size;
      align = (extent_of under types of).align;
    }

-- a pointer has the extent that the layout says
abbrev pub PointersAreAlike : Type 0
PointersAreAlike =
    (under : Layout) (types : List Ty) (ty to : ℕ)
    → IsTypes types → slice_get types ty ≡ Some (Pointer to)
    → extent_of under types ty ≡ record { size = under.pointer; align = under.align_pointer }

-- types that are added leave the extents of the earlier ones as they are
abbrev pub ExtentsStay : Type 0
ExtentsStay =
    (under : Layout) (types more : List Ty) (ty : ℕ) → ty < length types
    → extent_of under (types ++ more) ty ≡ extent_of under types ty

-- and the places of their leaves
abbrev pub PlacesStay : Type 0
PlacesStay =
    (under : Layout) (types more : List Ty) (ty leaf : ℕ) → IsTypes types → ty < length types
    → place_of under (types ++ more) ty leaf ≡ place_of under types ty leaf
