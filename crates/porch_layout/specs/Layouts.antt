-- Which layouts may be used, and the six that have names.
use Rattle.std.specs.Prelude.{◌≡◌, ℕ, ◌≤◌, ◌⊎◌, Bool, true, false, List, [], ◌∷◌, codes, Option}
use Rattle.std.specs.Map.{lookup}
use Rattle.std.specs.Str.{bytes_eq}
use Rattle.porch_layout.specs.declared.layout.Layout.{Layout}

-- the size of a long or a pointer, in bytes
abbrev pub IsSize : ℕ → Type 0
IsSize n = (n ≡ 4) ⊎ (n ≡ 8)

-- what an alignment may be, in bytes
abbrev pub IsAlignment : ℕ → Type 0
IsAlignment n = (n ≡ 1) ⊎ (n ≡ 2) ⊎ (n ≡ 4) ⊎ (n ≡ 8)

-- an alignment of at most this many bytes
pub record IsAlignmentWithin (most n : ℕ) : Type 0 where
  pub alignment : IsAlignment n
  pub within : n ≤ most

-- a layout that may be used: no alignment is above the size of its own type
pub record IsLayout (l : Layout) : Type 0 where
  pub long : IsSize l.long
  pub pointer : IsSize l.pointer
  pub align_short : IsAlignmentWithin 2 l.align_short
  pub align_int : IsAlignmentWithin 4 l.align_int
  pub align_long : IsAlignmentWithin l.long l.align_long
  pub align_pointer : IsAlignmentWithin l.pointer l.align_pointer
  pub least_struct : IsAlignmentWithin 8 l.least_struct

-- a layout by its byte order (big or not), the bytes of long and of a pointer, the alignments of
-- short, int, long and pointer, and the least alignment of a struct
abbrev pub layout : Bool → ℕ → ℕ → ℕ → ℕ → ℕ → ℕ → ℕ → Layout
layout big long pointer short int at_long at_pointer least =
    record {
      big = big;
      long = long;
      pointer = pointer;
      align_short = short;
      align_int = int;
      align_long = at_long;
      align_pointer = at_pointer;
      least_struct = least;
    }

-- the layouts that have names
abbrev pub le32 : Layout
le32 = layout false 4 4 2 4 4 4 1

abbrev pub be32 : Layout
be32 = layout true 4 4 2 4 4 4 1

abbrev pub le64 : Layout
le64 = layout false 8 8 2 4 8 8 1

abbrev pub be64 : Layout
be64 = layout true 8 8 2 4 8 8 1

abbrev pub be32p : Layout
be32p = layout true 4 4 2 2 2 2 1

abbrev pub le32l : Layout
le32l = layout false 4 4 1 1 1 1 1

abbrev pub built_in_layouts : List (List ℕ × Layout)
built_in_layouts =
    (codes "le32", le32) ∷ (codes "be32", be32) ∷ (codes "le64", le64)
    ∷ (codes "be64", be64) ∷ (codes "be32p", be32p) ∷ (codes "le32l", le32l) ∷ []

-- the one of this name
abbrev pub built_in_of : List ℕ → Option Layout
built_in_of name = lookup (bytes_eq name) built_in_layouts
