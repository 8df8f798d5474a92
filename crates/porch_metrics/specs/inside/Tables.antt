-- What is kept of each type, and that it is right.
use Rattle.std.specs.Prelude.{◌≡◌, ℕ, ◌<◌, ◌≤◌, List, [], length, slice_get, Option, Some, None, map}
use Rattle.porch_types.specs.declared.shapes.Ty.{Ty}
use Rattle.porch_types.specs.declared.shapes.Ty.TheVariants.{Whole, Pointer, Array, Struct}
use Rattle.porch_types.specs.Leaves.{IsFormed, IsTypes, leaf_count, leaves_of}
use Rattle.porch_types.specs.declared.parts.Part.{Part}
use Rattle.porch_types.specs.Rows.{part_at}
use Rattle.porch_layout.specs.declared.layout.Layout.{Layout}
use Rattle.porch_layout.specs.Layouts.{IsLayout}
use Rattle.porch_metrics.specs.declared.table.Measured.{Measured}
use Rattle.porch_metrics.specs.declared.table.Table.{Table}
use Rattle.porch_metrics.specs.Extents.{Extent, extent_in, extents_of, extent_of, type_extent, round_up, greatest_align, member_places, members_end, ucf_layout}
use Rattle.porch_metrics.specs.Places.{part_place}

-- the extent that was measured
abbrev pub extent : Measured → Extent
extent m = record { size = m.size; align = m.align }

-- the extents that were measured, by the number of the type
abbrev pub extents_in : List Measured → ℕ → Extent
extents_in measured = extent_in (map extent measured)

-- where each member of a type begins
abbrev pub places_of : (ℕ → Extent) → Ty → List ℕ
places_of extents (Struct members) = member_places extents 0 members
places_of extents (Whole kind) = []
places_of extents (Pointer to) = []
places_of extents (Array of count) = []

-- small enough that the sums of a struct fit
pub record IsSmall (e : Extent) : Type 0 where
  pub size : e.size ≤ 8_388_608
  pub some : 0 < e.align
  pub align : e.align ≤ 8

-- what was measured is small
abbrev pub AreSmall : List Measured → Type 0
AreSmall measured = (ty : ℕ) → ty < length measured → IsSmall (extents_in measured ty)

-- the measures of a struct whose members have these extents
pub record IsStructMeasured (under : Layout) (extents : ℕ → Extent) (members : List ℕ) (m : Measured) : Type 0 where
  pub size : m.size ≡ round_up (members_end extents 0 members) (greatest_align extents under.least_struct members)
  pub align : m.align ≡ greatest_align extents under.least_struct members
  pub places : m.places.items ≡ member_places extents 0 members

-- the measures of a type whose parts have these extents
pub record IsTypeMeasured (under : Layout) (extents : ℕ → Extent) (ty : Ty) (m : Measured) : Type 0 where
  pub extent_is : extent m ≡ type_extent under extents ty
  pub places : m.places.items ≡ places_of extents ty

-- each type of a list is well formed, has the leaves of its parts together, and at least one
pub record AreCounted (types : List Ty) : Type 0 where
  pub each : (number : ℕ) (ty : Ty) → slice_get types number ≡ Some ty → IsFormed types number ty
  pub together : (number : ℕ) (ty : Ty) → slice_get types number ≡ Some ty → leaves_of types number ≡ leaf_count (leaves_of types) ty
  pub some : (number : ℕ) → number < length types → 0 < leaves_of types number

-- these are the measures of the first types
pub record AreMeasured (under : Layout) (types : List Ty) (measured : List Measured) : Type 0 where
  pub extents : map extent measured ≡ extents_of under types
  pub placed : (ty : ℕ) (this : Ty) (m : Measured) → slice_get types ty ≡ Some this → slice_get measured ty ≡ Some m
      → m.places.items ≡ places_of (extent_of under types) this

-- a table of the measures of these types
pub record IsTable (types : List Ty) (table : Table) : Type 0 where
  pub types_are : IsTypes types
  pub counted : AreCounted types
  pub layout : IsLayout table.layout
  pub measured : AreMeasured table.layout types table.measured.items

-- a table under the layout, and one packed as in a UCF file
pub record AreTables (types : List Ty) (native packed : Table) : Type 0 where
  pub native_table : IsTable types native
  pub packed_table : IsTable types packed
  pub ucf : packed.layout ≡ ucf_layout

-- a type that is a struct with a member of this number
abbrev pub IsMember : Option Ty → ℕ → Type 0
IsMember (Some (Struct members)) index = index < length members
IsMember (Some (Whole kind)) index = ⊥
IsMember (Some (Pointer to)) index = ⊥
IsMember (Some (Array of count)) index = ⊥
IsMember None index = ⊥

-- a part that holds a leaf of a type
abbrev pub IsPartOf : List Ty → ℕ → Part → Type 0
IsPartOf types ty part = (leaf : ℕ) × (leaf < leaves_of types ty) × (part_at types ty leaf ≡ Some part)

-- where element or member number `index` of the type of this number begins in it
abbrev pub start_of : Layout → List Ty → ℕ → ℕ → ℕ
start_of under types ty index = part_place (extent_of under types) (slice_get types ty) index
