-- What is said of a run, whatever runs: what surrounds it, how far it has come, how it ends, and what it shows.
use Rattle.std.specs.Prelude.{ℕ, ◌+◌, ℤ, pos, int_lt, unsigned_abs, Bool, true, List, [], ◌++◌, if◌then◌else◌}
use Rattle.porch_values.specs.declared.acts.Act.{Act}
use Rattle.porch_values.specs.declared.widths.Widths.{Widths}
use Rattle.porch_values.specs.Integers.{low_bits}
use Rattle.porch_objects.specs.Store.{Object, Store, store_of}

-- what a run takes from outside: the widths that long may have, and the bytes of the input, which has ended or may grow
pub record Environment : Type 0 where
  pub widths : Widths
  pub input : List ℕ
  pub ended : Bool

-- widths, and an input that is empty and has ended
abbrev pub without_input : Widths → Environment
without_input widths = record { widths = widths; input = []; ended = true }

-- what a checker of marks sees of a run
pub data Mark : Type 0 where
  -- checkpoint() was reached: the turns, and the length of the output
  reached : (turns : ℕ) → (output : ℕ) → Mark
  -- an allocation: its count, and the leaves of one element
  allocated : (count : ℕ) → (leaves : ℕ) → Mark
  -- a free that ended an object
  freed : Mark

-- how far the run of a source has come: what lives, what was shown, the marks so far, the turns that were counted, and how
-- many bytes of the input were taken
pub record Progress : Type 0 where
  pub store : Store
  pub output : List ℕ
  pub marks : List Mark
  pub turns : ℕ
  pub taken : ℕ

-- before turn 1, with these globals
abbrev pub beginning : List Object → Progress
beginning globals = record { store = store_of globals; output = []; marks = []; turns = 0; taken = 0 }

abbrev pub with_store : Progress → Store → Progress
with_store s store = record { store = store; output = s.output; marks = s.marks; turns = s.turns; taken = s.taken }

-- bytes more of output
abbrev pub with_shown : Progress → List ℕ → Progress
with_shown s bytes = record { store = s.store; output = s.output ++ bytes; marks = s.marks; turns = s.turns; taken = s.taken }

-- a turn more
abbrev pub with_turn : Progress → Progress
with_turn s = record { store = s.store; output = s.output; marks = s.marks; turns = s.turns + 1; taken = s.taken }

-- how a run comes to an end: with the value of main, with an undefined act, or before one turn too many
pub data Ending : Type 0 where
  Ended : (z : ℤ) → Ending
  Met : (a : Act) → Ending
  Paused : Ending

-- what is said of a run
pub record Meaning : Type 0 where
  pub output : List ℕ
  pub marks : List Mark
  pub turns : ℕ
  pub ending : Ending

-- the int 1 or 0 of a comparison
abbrev pub truth : ℤ → ℤ → ℤ
truth x y = if int_lt x y then pos 1 else pos 0

-- what is shown of a number: its low byte, as a number from 0 on
abbrev pub byte_of : ℤ → ℕ
byte_of z = unsigned_abs (low_bits 8 z)
