-- Laws of every run.
use Rattle.std.specs.Prelude.{◌≡◌, ◌≢◌, ◌≤◌, ℕ, ◌+◌, List, ◌++◌}
use Rattle.porch_values.specs.declared.acts.Act.{Act}
use Rattle.porch_values.specs.declared.widths.Widths.{Widths}
use Rattle.porch_values.specs.Widths.{AreWithin}
use Rattle.porch_objects.specs.Store.{Value}
use Rattle.porch_objects.specs.Meaning.{Environment, Mark, Progress, Meaning, Met, Paused}
use Rattle.porch_typed.specs.Mirror.{Program}
use Rattle.porch_mean.specs.Outcome.{Outcome, Went, Left, Undefined, Stopped}
use Rattle.porch_mean.specs.Mean.{enter_to, mean}

-- how far the run has come, whatever comes out
abbrev pub progress_of : Outcome → Progress
progress_of (Went v s) = s
progress_of (Left how s) = s
progress_of (Undefined a s) = s
progress_of (Stopped s) = s

-- what was shown and marked stays, more comes behind it, and turns only rise
pub record IsLater (s t : Progress) : Type 0 where
  pub output : (more : List ℕ) × (t.output ≡ s.output ++ more)
  pub marks : (more : List Mark) × (t.marks ≡ s.marks ++ more)
  pub turns : s.turns ≤ t.turns

-- From each state a call only adds to the output, the marks and the turns, however it comes out.
abbrev pub CallsOnlyAdd : Type 0
CallsOnlyAdd = (p : Program) (under : Environment) (n depth function : ℕ) (vs : List Value) (s : Progress)
    → IsLater s (progress_of (enter_to depth p under n function vs s))

-- A program counts n turns at most, and where it is paused exactly n.
pub record CountsUpTo (n : ℕ) (m : Meaning) : Type 0 where
  pub most : m.turns ≤ n
  pub paused : m.ending ≡ Paused → m.turns ≡ n

abbrev pub TurnsAreCounted : Type 0
TurnsAreCounted = (p : Program) (under : Environment) (n : ℕ) → CountsUpTo n (mean p under n)

-- How deep calls may be nested doesn't matter, where it is more than the turns that are left.
abbrev pub DepthDoesNotMatter : Type 0
DepthDoesNotMatter = (p : Program) (under : Environment) (n depth other function : ℕ) (vs : List Value) (s : Progress)
    → n + 1 ≤ depth + s.turns → n + 1 ≤ other + s.turns
    → enter_to depth p under n function vs s ≡ enter_to other p under n function vs s

-- What a program means for more turns: the same where it isn't paused, and else what it showed and marked is the beginning.
pub record GoesOn (m more : Meaning) : Type 0 where
  pub same : m.ending ≢ Paused → more ≡ m
  pub output : (rest : List ℕ) × (more.output ≡ m.output ++ rest)
  pub marks : (rest : List Mark) × (more.marks ≡ m.marks ++ rest)
  pub turns : m.turns ≤ more.turns

abbrev pub MoreTurnsGoOn : Type 0
MoreTurnsGoOn = (p : Program) (under : Environment) (n more : ℕ) → GoesOn (mean p under n) (mean p under (n + more))

-- the same environment with other widths of long
abbrev pub in_widths : Environment → Widths → Environment
in_widths under widths = record { widths = widths; input = under.input; ended = under.ended }

-- What a program means in some widths of long without meeting an act, it means in fewer of them.
abbrev pub FewerWidthsMeanTheSame : Type 0
FewerWidthsMeanTheSame = (p : Program) (under : Environment) (n : ℕ) (fewer : Widths) → AreWithin fewer under.widths
    → ((a : Act) → (mean p under n).ending ≢ Met a) → mean p (in_widths under fewer) n ≡ mean p under n
