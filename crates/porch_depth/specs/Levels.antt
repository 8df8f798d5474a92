-- The first token that is shown to lie too deep, and the first fault of a text by that.
use Rattle.std.specs.Prelude.{ℕ, ◌≤◌, ◌+◌, ⊤, nat_lt, if◌then◌else◌, List, [], ◌∷◌, take, Option, Some, None}
use Rattle.porch_tree.specs.Pieces.{Spelled}
use Rattle.porch_tree.specs.Grammar.{MOST_USES, nesting}
use Rattle.porch_walk.specs.Walk.{start, Wrong, wrong, wrong_at}
use Rattle.porch_walk.specs.Reach.{reach_of}
use Rattle.porch_walk.specs.Levels.{uses_shown}

-- the number of the first token that lies too deep, where the first of these is token `i`
abbrev pub deep_from : ℕ → List ℕ → Option ℕ
deep_from i [] = None
deep_from i (n ∷ ns) = if nat_lt MOST_USES n then Some i else deep_from (i + 1) ns

abbrev pub first_deep : List Spelled → Option ℕ
first_deep ts = deep_from 0 (uses_shown ts)

abbrev pub nesting_or : Option ℕ → Option Wrong → Option Wrong
nesting_or None found = found
nesting_or (Some i) found = wrong_at i nesting

-- The first token that lies too deep before the place where something else is wrong, or what is wrong there.
abbrev pub first_fault : List Spelled → Option Wrong
first_fault ts = nesting_or (first_deep (take (reach_of ts (wrong 0 start ts)) ts)) (wrong 0 start ts)

-- as many numbers or more, each of the first ones at least as large
abbrev pub AreAtLeast : List ℕ → List ℕ → Type 0
AreAtLeast ms [] = ⊤
AreAtLeast [] (n ∷ ns) = ⊥
AreAtLeast (m ∷ ms) (n ∷ ns) = (n ≤ m) × AreAtLeast ms ns
