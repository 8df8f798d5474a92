-- Lists of objects by where they begin.
use Rattle.std.specs.Prelude.{◌≡◌, ℕ, ◌<◌, ◌≤◌, List, slice_get, Some}
use Rattle.porch_find.specs.declared.roots.Root.{Root}

-- the roots, and how many there may be with no memory taken
pub record RootList : Type 0 where
  pub items : List Root
  pub room : ℕ

-- no root begins before an earlier one
abbrev pub IsRising : List Root → Type 0
IsRising roots =
    (i j : ℕ) (a b : Root) → i < j → slice_get roots i ≡ Some a → slice_get roots j ≡ Some b
    → a.at ≤ b.at

-- root number `i` is the last one that begins at or before the place
pub record IsLastAt (roots : List Root) (place i : ℕ) : Type 0 where
  pub root : Root
  pub is : slice_get roots i ≡ Some root
  pub begun : root.at ≤ place
  pub last : (j : ℕ) (other : Root) → slice_get roots j ≡ Some other → other.at ≤ place → j ≤ i
