-- Leaves and subobjects lie apart.
use Rattle.std.specs.Prelude.{◌≡◌, ℕ, ◌+◌, ◌<◌, ◌≤◌, List, length, slice_get, Some}
use Rattle.porch_types.specs.declared.shapes.Ty.{Ty}
use Rattle.porch_types.specs.declared.parts.Part.{Part}
use Rattle.porch_types.specs.Leaves.{IsTypes, leaves_of}
use Rattle.porch_types.specs.Rows.{IsSubobject, part_at}
use Rattle.porch_types.specs.LeafTypes.{leaf_type}
use Rattle.porch_layout.specs.declared.layout.Layout.{Layout}
use Rattle.porch_layout.specs.Layouts.{IsLayout}
use Rattle.porch_metrics.specs.Extents.{extent_of, ucf_layout}
use Rattle.porch_metrics.specs.Places.{part_place, place_of}

-- later leaves stand at later places
abbrev pub PlacesRise : Type 0
PlacesRise =
    (under : Layout) (types : List Ty) (ty a b : ℕ)
    → IsLayout under → IsTypes types → ty < length types → a < b
    → place_of under types ty a < place_of under types ty b

-- an element or a member ends inside its array or struct
abbrev pub PartsLieInside : Type 0
PartsLieInside =
    (under : Layout) (types : List Ty) (ty leaf : ℕ) (part : Part) → IsLayout under → IsTypes types
    → part_at types ty leaf ≡ Some part
    → part_place (extent_of under types) (slice_get types ty) part.index
    + (extent_of under types part.ty).size
    ≤ (extent_of under types ty).size

-- a subobject ends at or before each leaf that follows its last one
abbrev pub SubobjectsLieApart : Type 0
SubobjectsLieApart =
    (under : Layout) (types : List Ty) (root count place ty leaf : ℕ)
    → IsLayout under → IsTypes types → root < length types → IsSubobject types root count place ty
    → place + leaves_of types ty ≤ leaf
    → place_of under types root place + (extent_of under types ty).size
    ≤ place_of under types root leaf

-- a leaf ends at or before the next one
abbrev pub LeavesLieApart : Type 0
LeavesLieApart =
    (under : Layout) (types : List Ty) (ty a b : ℕ)
    → IsLayout under → IsTypes types → ty < length types → a < b
    → place_of under types ty a + (extent_of under types (leaf_type types ty a)).size
    ≤ place_of under types ty b

-- in a UCF file the leaf after a subobject begins where the subobject ends
abbrev pub SubobjectsArePacked : Type 0
SubobjectsArePacked =
    (types : List Ty) (root count place ty : ℕ)
    → IsTypes types → root < length types → IsSubobject types root count place ty
    → place_of ucf_layout types root (place + leaves_of types ty)
    ≡ place_of ucf_layout types root place + (extent_of ucf_layout types ty).size

-- and each leaf begins where the one before it ends
abbrev pub LeavesArePacked : Type 0
LeavesArePacked =
    (types : List Ty) (ty leaf : ℕ) → IsTypes types → ty < length types
    → place_of ucf_layout types ty (leaf + 1)
    ≡ place_of ucf_layout types ty leaf
    + (extent_of ucf_layout types (leaf_type types ty leaf)).size
