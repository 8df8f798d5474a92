-- Which limits of a run are allowed.
use Rattle.std.specs.Prelude.{ℕ, ◌≤◌}
use Rattle.porch_session.specs.declared.limits.TheConstants.{MOST_TURNS, LEAST_STACK, MOST_STACK, LEAST_HEAP, MOST_HEAP}
use Rattle.porch_session.specs.declared.limits.Limits.{Limits}

-- from a least to a greatest number, both included
pub record IsWithin (least most n : ℕ) : Type 0 where
  pub low : least ≤ n
  pub high : n ≤ most

-- turns are at least one, and stack and heap have the bytes that they may have
pub record AreLimits (l : Limits) : Type 0 where
  pub every : IsWithin 1 MOST_TURNS l.every
  pub turns : IsWithin 1 MOST_TURNS l.turns
  pub stack : IsWithin LEAST_STACK MOST_STACK l.stack
  pub heap : IsWithin LEAST_HEAP MOST_HEAP l.heap
