-- Where the live objects are, in memory and in the data of a checkpoint.
use Rattle.std.specs.Prelude.{◌≡◌, ℕ, ◌+◌, ◌-◌, ◌*◌, ◌^◌, ◌<◌, ◌≤◌, List, length, slice_get, Some}
use Rattle.porch_types.specs.declared.shapes.Ty.{Ty}
use Rattle.porch_layout.specs.declared.layout.Layout.{Layout}
use Rattle.porch_metrics.specs.Extents.{extent_of, ucf_layout}
use Rattle.porch_find.specs.declared.roots.Root.{Root}

-- the word of a pointer that points to nothing that lives: all bits set
abbrev pub dead_word : ℕ
dead_word = 2 ^ 64 - 1

-- where an object ends
abbrev pub end_of : Layout → List Ty → Root → ℕ
end_of under types object = object.at + object.count * (extent_of under types object.ty).size

-- the types of the objects are of the list
abbrev pub AreKnown : List Ty → List Root → Type 0
AreKnown types objects =
    (i : ℕ) (a : Root) → slice_get objects i ≡ Some a → a.ty < length types

-- the objects rise, with at least one byte between them
abbrev pub LieApart : Layout → List Ty → List Root → Type 0
LieApart under types objects =
    (i j : ℕ) (a b : Root) → i < j → slice_get objects i ≡ Some a
    → slice_get objects j ≡ Some b → end_of under types a < b.at

-- the objects follow one another, and may touch
abbrev pub FollowOn : Layout → List Ty → List Root → Type 0
FollowOn under types objects =
    (i j : ℕ) (a b : Root) → i < j → slice_get objects i ≡ Some a
    → slice_get objects j ≡ Some b → end_of under types a ≤ b.at

-- The objects by address are those by place, in the same order. Those by address begin above 0 and
-- end below 2 ^ 31; those by place follow one another and end below 2 ^ 62.
pub record IsPlan (under : Layout) (types : List Ty) (addresses places : List Root) : Type 0 where
  pub alike : length addresses ≡ length places
  pub same : (i : ℕ) (a p : Root) → slice_get addresses i ≡ Some a → slice_get places i ≡ Some p
      → p ≡ record a { at = p.at }
  pub known : AreKnown types addresses
  pub above : (i : ℕ) (a : Root) → slice_get addresses i ≡ Some a → 0 < a.at
  pub ends : (i : ℕ) (a : Root) → slice_get addresses i ≡ Some a → end_of under types a < 2 ^ 31
  pub follow : FollowOn ucf_layout types places
  pub data_ends : (i : ℕ) (p : Root) → slice_get places i ≡ Some p
      → end_of ucf_layout types p < 2 ^ 62
