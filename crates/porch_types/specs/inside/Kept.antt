-- What is kept beside each type, and that it is right.
use Rattle.std.specs.Prelude.{◌≡◌, ℕ, ◌+◌, ◌^◌, List, [], ◌∷◌, ◌<◌, ◌≤◌, length, slice_get, Some, map, take, All}
use Rattle.porch_types.specs.declared.shapes.Ty.{Ty}
use Rattle.porch_types.specs.declared.shapes.Ty.TheVariants.{Whole, Pointer, Array, Struct}
use Rattle.porch_types.specs.declared.entries.Entry.{Entry}
use Rattle.porch_types.specs.Entries.{types_of}
use Rattle.porch_types.specs.Leaves.{AreFormed, MOST_LEAVES, kind_types, parts_of, width_of, leaf_count, leaf_counts, leaves_of}

-- the first leaf of each member, where the first of them begins at `first`
abbrev pub starts_from : (ℕ → ℕ) → ℕ → List ℕ → List ℕ
starts_from leaves first [] = []
starts_from leaves first (ty ∷ rest) = first ∷ starts_from leaves (first + leaves ty) rest

-- the first leaf of each member of a struct
abbrev pub starts_of : (ℕ → ℕ) → Ty → List ℕ
starts_of leaves (Struct members) = starts_from leaves 0 members
starts_of leaves (Whole kind) = []
starts_of leaves (Pointer to) = []
starts_of leaves (Array of count) = []

-- the entries hold well formed types, the number of leaves of each, and where its members begin
pub record IsKept (entries : List Entry) : Type 0 where
  pub formed : AreFormed (types_of entries)
  pub counted : map (λ entry. entry.leaves) entries ≡ leaf_counts (types_of entries)
  pub started : (number : ℕ) (entry : Entry) → slice_get entries number ≡ Some entry
      → entry.starts.items ≡ starts_of (leaves_of (types_of entries)) entry.ty

-- an entry that may stand next behind these
pub record IsNext (entries : List Entry) (entry : Entry) : Type 0 where
  pub earlier : All (λ part. part < length entries) (parts_of entry.ty)
  pub occupied : 0 < width_of entry.ty
  pub small : entry.leaves ≤ MOST_LEAVES
  pub counted : entry.leaves ≡ leaf_count (leaves_of (types_of entries)) entry.ty
  pub started : entry.starts.items ≡ starts_of (leaves_of (types_of entries)) entry.ty

-- the entries hold a list of types
pub record AreEntries (entries : List Entry) : Type 0 where
  pub kinds : take 8 (types_of entries) ≡ kind_types
  pub few : length (types_of entries) ≤ 2 ^ 31
  pub kept : IsKept entries

-- what an entry holds
abbrev pub content : Entry → Ty × ℕ × List ℕ
content entry = (entry.ty, entry.leaves, entry.starts.items)

abbrev pub contents : List Entry → List (Ty × ℕ × List ℕ)
contents entries = map content entries
