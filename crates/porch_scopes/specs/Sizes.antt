-- Types with at most as many leaves as one may have.
use Rattle.std.specs.Prelude.{ℕ, ◌≤◌, nat_le, Bool, List, [], ◌∷◌}
use Rattle.porch_types.specs.Leaves.{MOST_LEAVES}
use Rattle.porch_check.specs.Shapes.{Shapes, Member, size_of}

abbrev pub is_few : (leaves : ℕ) → Bool
is_few leaves = nat_le leaves MOST_LEAVES

-- a type by its number, and the types that it is among
abbrev pub is_small : ℕ × Shapes → Bool
is_small r = is_few (size_of r.1 r.0)

-- each of the members begins within so many leaves
abbrev pub AreWithin : List Member → (leaves : ℕ) → Type 0
AreWithin [] n = Unit {0}
AreWithin (m ∷ ms) n = (m.leaf ≤ n) × AreWithin ms n
