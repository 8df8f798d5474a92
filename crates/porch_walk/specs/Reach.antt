-- How far a text is read, by the answer of the walk.
use Rattle.std.specs.Prelude.{ℕ, List, length, Option, Some, None}
use Rattle.porch_tree.specs.Pieces.{Spelled}
use Rattle.porch_tree.specs.Grammar.{IsReach}
use Rattle.porch_walk.specs.Walk.{Wrong}

-- Up to the token that is named, or to the end where none is: some unit goes on with each token before,
-- and none of these is outside the language behind the beginning of any unit.
abbrev pub IsReachOf : List Spelled → Option Wrong → Type 0
IsReachOf ts None = IsReach ts (length ts) None
IsReachOf ts (Some w) = IsReach ts w.token (Some w.fault)

-- how far that is
abbrev pub reach_of : List Spelled → Option Wrong → ℕ
reach_of ts None = length ts
reach_of ts (Some w) = w.token
