-- A unit in which the tokens that it begins with lie just as deep as they are shown to.
use Rattle.std.specs.Prelude.{ℕ, ◌≡◌, ◌<◌, List, length, get_or, slice_get}
use Rattle.porch_tree.specs.Mirror.{TranslationUnit}
use Rattle.porch_tree.specs.Pieces.{Spelled, unit_pieces}
use Rattle.porch_tree.specs.Grammar.{Begins, uses_at}
use Rattle.porch_walk.specs.Levels.{uses_shown}

pub record IsHad (ts : List Spelled) : Type 0 where
  pub unit : TranslationUnit
  pub begins : Begins ts unit
  pub uses : (i : ℕ) → i < length ts → uses_at (slice_get (unit_pieces unit) i) ≡ get_or (uses_shown ts) i 0
