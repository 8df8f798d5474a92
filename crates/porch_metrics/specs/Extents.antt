-- Sizes and alignments of types under a layout, in bytes.
use Rattle.std.specs.Prelude.{ℕ, ◌+◌, ◌-◌, ◌*◌, ◌/◌, true, max, List, [], ◌∷◌, ◌++◌, slice_index_or}
use Rattle.porch_types.specs.declared.shapes.Kind.{Kind}
use Rattle.porch_types.specs.declared.shapes.Kind.TheVariants.{Char, UChar, Short, UShort, Int, UInt, Long, ULong}
use Rattle.porch_types.specs.declared.shapes.Ty.{Ty}
use Rattle.porch_types.specs.declared.shapes.Ty.TheVariants.{Whole, Pointer, Array, Struct}
use Rattle.porch_layout.specs.declared.layout.Layout.{Layout}
use Rattle.porch_layout.specs.Layouts.{layout}

-- how many bytes a type has, and of what number of bytes its places are multiples
pub record Extent : Type 0 where
  pub size : ℕ
  pub align : ℕ

-- the extent of an integer
abbrev pub kind_extent : Layout → Kind → Extent
kind_extent under Char = record { size = 1; align = 1 }
kind_extent under UChar = record { size = 1; align = 1 }
kind_extent under Short = record { size = 2; align = under.align_short }
kind_extent under UShort = record { size = 2; align = under.align_short }
kind_extent under Int = record { size = 4; align = under.align_int }
kind_extent under UInt = record { size = 4; align = under.align_int }
kind_extent under Long = record { size = under.long; align = under.align_long }
kind_extent under ULong = record { size = under.long; align = under.align_long }

-- the lowest multiple of an alignment at or after a place
abbrev pub round_up : ℕ → ℕ → ℕ
round_up place align = (place + (align - 1)) / align * align

-- the greatest of the members' alignments and the least that a struct has
abbrev pub greatest_align : (ℕ → Extent) → ℕ → List ℕ → ℕ
greatest_align extents least [] = least
greatest_align extents least (ty ∷ rest) =
    max (extents ty).align (greatest_align extents least rest)

-- where each member begins: the lowest multiple of its alignment at or after the end of the one
-- before
abbrev pub member_places : (ℕ → Extent) → ℕ → List ℕ → List ℕ
member_places extents end [] = []
member_places extents end (ty ∷ rest) =
    round_up end (extents ty).align
    ∷ member_places extents (round_up end (extents ty).align + (extents ty).size) rest

-- where the last member ends
abbrev pub members_end : (ℕ → Extent) → ℕ → List ℕ → ℕ
members_end extents end [] = end
members_end extents end (ty ∷ rest) =
    members_end extents (round_up end (extents ty).align + (extents ty).size) rest

-- the extent of a type whose parts have these extents
abbrev pub type_extent : Layout → (ℕ → Extent) → Ty → Extent
type_extent under extents (Whole kind) = kind_extent under kind
type_extent under extents (Pointer to) =
    record { size = under.pointer; align = under.align_pointer }
type_extent under extents (Array of count) =
    record { size = count * (extents of).size; align = (extents of).align }
type_extent under extents (Struct members) =
    record {
      size =
          round_up (members_end extents 0 members)
          (greatest_align extents under.least_struct members);
      align = greatest_align extents under.least_struct members;
    }

-- the extent of a type in a list of extents
abbrev pub extent_in : List Extent → ℕ → Extent
extent_in extents ty = slice_index_or extents ty (record { size = 0; align = 1 })

-- the extent of each further type, where the types before it have these
abbrev pub extents_from : Layout → List Extent → List Ty → List Extent
extents_from under before [] = before
extents_from under before (ty ∷ rest) =
    extents_from under (before ++ type_extent under (extent_in before) ty ∷ []) rest

-- the extents of the types of a list, from the first type on
abbrev pub extents_of : Layout → List Ty → List Extent
extents_of under types = extents_from under [] types

-- the extent of the type of this number
abbrev pub extent_of : Layout → List Ty → ℕ → Extent
extent_of under types ty = extent_in (extents_of under types) ty

-- UCF files pack leaves with no bytes between them, in 1, 2, 4 or 8 bytes by their kind and 8 for a
-- pointer
abbrev pub ucf_layout : Layout
ucf_layout = layout true 8 8 1 1 1 1 1
