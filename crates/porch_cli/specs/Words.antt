-- What the words of the command line order.
use Rattle.std.specs.Prelude.{ℕ, ◌≡◌, List}
use Rattle.porch_session.specs.declared.limits.Limits.{Limits}
use Rattle.porch_words.specs.Orders.{exec}
use Rattle.porch_words.specs.Words.{IsOrder}

-- A run that is ordered: the name of its layout, and what it is limited to.
pub record RunOrder : Type 0 where
  pub layout : List ℕ
  pub limits : Limits

-- The words are `exec` with its options, and order this run.
abbrev pub IsExec : List (List ℕ) → RunOrder → Type 0
IsExec words o = IsOrder words (exec o.layout o.limits)
