-- What an answer says of a text with these tokens.
use Rattle.std.specs.Prelude.{List, length, Option, Some, None}
use Rattle.porch_tree.specs.Mirror.{TranslationUnit}
use Rattle.porch_tree.specs.Pieces.{Spelled}
use Rattle.porch_tree.specs.Grammar.{IsUnit, IsReach, IsFault}
use Rattle.porch_walk.specs.Walk.{Wrong}

-- A unit has these tokens, and nothing is wrong up to their end.
pub record IsFaultless (ts : List Spelled) : Type 0 where
  pub unit : TranslationUnit
  pub has : IsUnit ts unit
  pub reach : IsReach ts (length ts) None

-- This is the first fault by the grammar or, where nothing is named, there is none.
abbrev pub IsFound : List Spelled → Option Wrong → Type 0
IsFound ts None = IsFaultless ts
IsFound ts (Some w) = IsFault ts w.token w.fault
