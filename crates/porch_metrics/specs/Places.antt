-- Where the leaves of a type begin, in bytes, by going down the parts that hold them. PlacedRows says
-- it of rows, without a search.
use Rattle.std.specs.Prelude.{ℕ, zero, suc, ◌+◌, ◌-◌, ◌*◌, ◌/◌, ◌%◌, List, slice_get, slice_index, Option, Some, None}
use Rattle.std.specs.Option.{option_map_or}
use Rattle.porch_types.specs.declared.shapes.Ty.{Ty}
use Rattle.porch_types.specs.declared.shapes.Ty.TheVariants.{Whole, Pointer, Array, Struct}
use Rattle.porch_types.specs.Leaves.{leaves_of}
use Rattle.porch_types.specs.Rows.{part_at}
use Rattle.porch_layout.specs.declared.layout.Layout.{Layout}
use Rattle.porch_metrics.specs.Extents.{Extent, extent_of, member_places}

-- the types and the layout that places are counted under
pub record Measures : Type 0 where
  pub types : List Ty
  pub layout : Layout

-- where member number `i` of a struct begins in it
abbrev pub member_place : (ℕ → Extent) → List ℕ → ℕ → ℕ
member_place extents members i = slice_index (member_places extents 0 members) i

-- where element or member number `index` of a type begins in it
abbrev pub part_place : (ℕ → Extent) → Option Ty → ℕ → ℕ
part_place extents (Some (Array of count)) index = index * (extents of).size
part_place extents (Some (Struct members)) index = member_place extents members index
part_place extents (Some (Whole kind)) index = 0
part_place extents (Some (Pointer to)) index = 0
part_place extents None index = 0

-- where a leaf begins in a type (nested at most so deep): where the part that holds it begins, and
-- where it begins in that
abbrev pub place_within : ℕ → Layout → List Ty → ℕ → ℕ → ℕ
place_within zero under types ty leaf = 0
place_within (suc depth) under types ty leaf =
    option_map_or
    (λ part. part_place (extent_of under types) (slice_get types ty) part.index
    + place_within depth under types part.ty (leaf - part.first))
    (part_at types ty leaf) 0

-- where a leaf begins in elements of a type that stand after each other
abbrev pub place_of : Layout → List Ty → ℕ → ℕ → ℕ
place_of under types ty leaf =
    leaf / leaves_of types ty * (extent_of under types ty).size
    + place_within (suc ty) under types ty (leaf % leaves_of types ty)
