-- Types as a list, the numbers of their leaves, and what a list of types is.
use Rattle.std.specs.Prelude.{◌≡◌, ℕ, ◌+◌, ◌*◌, ◌^◌, ◌<◌, ◌≤◌, List, [], ◌∷◌, ◌++◌, length, slice_get, slice_index, Some, take, All}
use Rattle.porch_types.specs.declared.shapes.Kind.TheVariants.{Char, UChar, Short, UShort, Int, UInt, Long, ULong}
use Rattle.porch_types.specs.declared.shapes.Ty.{Ty}
use Rattle.porch_types.specs.declared.shapes.Ty.TheVariants.{Whole, Pointer, Array, Struct}

-- the types that a type is made of, which are its element's or its members'
abbrev pub parts_of : Ty → List ℕ
parts_of (Whole kind) = []
parts_of (Pointer to) = []
parts_of (Array of count) = of ∷ []
parts_of (Struct members) = members

-- how many elements or members a type has; an integer and a pointer count as one
abbrev pub width_of : Ty → ℕ
width_of (Whole kind) = 1
width_of (Pointer to) = 1
width_of (Array of count) = count
width_of (Struct members) = length members

-- the leaves of these types together
abbrev pub leaves_together : (ℕ → ℕ) → List ℕ → ℕ
leaves_together leaves [] = 0
leaves_together leaves (ty ∷ rest) = leaves ty + leaves_together leaves rest

-- the leaves of a type whose parts have so many: its integers and pointers
abbrev pub leaf_count : (ℕ → ℕ) → Ty → ℕ
leaf_count leaves (Whole kind) = 1
leaf_count leaves (Pointer to) = 1
leaf_count leaves (Array of count) = count * leaves of
leaf_count leaves (Struct members) = leaves_together leaves members

-- the leaves of each further type, where the types before them have these many
abbrev pub leaf_counts_from : List ℕ → List Ty → List ℕ
leaf_counts_from before [] = before
leaf_counts_from before (ty ∷ rest) = leaf_counts_from (before ++ leaf_count (slice_index before) ty ∷ []) rest

-- the leaves of each type of a list, from the first type on
abbrev pub leaf_counts : List Ty → List ℕ
leaf_counts types = leaf_counts_from [] types

-- the leaves of the type of this number
abbrev pub leaves_of : List Ty → ℕ → ℕ
leaves_of types ty = slice_index (leaf_counts types) ty

-- the most leaves that a type may have
abbrev pub MOST_LEAVES : ℕ
MOST_LEAVES = 1_048_576

-- the eight kinds, with which each list of types begins
abbrev pub kind_types : List Ty
kind_types = Whole Char ∷ Whole UChar ∷ Whole Short ∷ Whole UShort ∷ Whole Int ∷ Whole UInt ∷ Whole Long ∷ Whole ULong ∷ []

-- the type of this number is made of earlier types, has a part, and is not too large
pub record IsFormed (types : List Ty) (number : ℕ) (ty : Ty) : Type 0 where
  pub earlier : All (λ part. part < number) (parts_of ty)
  pub occupied : 0 < width_of ty
  pub small : leaves_of types number ≤ MOST_LEAVES

-- each type of a list is well formed
pub record AreFormed (types : List Ty) : Type 0 where
  pub each : (number : ℕ) (ty : Ty) → slice_get types number ≡ Some ty → IsFormed types number ty

-- a list of types: the eight kinds first, each type well formed, and a number of 32 bits for each
pub record IsTypes (types : List Ty) : Type 0 where
  pub kinds : take 8 types ≡ kind_types
  pub few : length types ≤ 2 ^ 31
  pub formed : AreFormed types
