-- What a disk in memory keeps of its calls.
use Rattle.std.specs.Prelude.{◌≡◌, ℕ, ◌+◌, ◌^◌, ◌≤◌, ◌++◌, List, [], ◌∷◌, length, min, Vec}
use Rattle.std.specs.declared.alloc.Global.{Global}
use Rattle.porch_edge.specs.declared.disk.FileName.{FileName}
use Rattle.porch_edge.specs.declared.memory_calls.Change.{Change}
use Rattle.porch_edge.specs.declared.memory_calls.Change.TheVariants.{Nothing, Synced, Write, Cut, Put}
use Rattle.porch_edge.specs.declared.memory_calls.Call.{Call}
use Rattle.porch_edge.specs.Files.{Files, file_of, with_file, IsWithin, Torn, Shortened}
use Rattle.porch_edge.specs.Calls.{change_on, bytes_before, end_of_time}

-- one call more is kept, which has left its file so
pub record Logged (fs gs : Files) (old new : List Call) (file : FileName) (bytes : List ℕ) (change : Change) (moment : ℕ) : Type 0 where
  pub before : Vec ℕ Global
  pub had : before.items ≡ file_of file fs
  pub has : gs ≡ with_file file fs bytes
  pub kept : new ≡ old ++ record { file = file; change = change; before = before; moment = moment } ∷ []

-- one call more is kept, which has changed no byte
pub record Noted (old new : List Call) (file : FileName) (change : Change) (moment : ℕ) : Type 0 where
  pub before : Vec ℕ Global
  pub kept : new ≡ old ++ record { file = file; change = change; before = before; moment = moment } ∷ []

-- a call has done what it says to bytes that were so before it
abbrev pub Did : Change → List ℕ → List ℕ → Type 0
Did Nothing before now = Unit {0}
Did Synced before now = Unit {0}
Did (Write from to) before now = Torn from to before now
Did (Cut len) before now = Shortened len before now × (length before ≤ 2 ^ 62)
Did Put before now = Unit {0}

-- each of these calls has done what it says to the file
abbrev pub FileKept : FileName → List ℕ → List Call → Type 0
FileKept file now [] = Unit {0}
FileKept file now (call ∷ earlier) =
    Did (change_on file call) call.before.items now × FileKept file (bytes_before (change_on file call) call.before.items now) earlier

-- the files read as their calls have made them, and none is too long
pub record Kept (fs : Files) (calls : List Call) : Type 0 where
  pub within : IsWithin fs
  pub each : (file : FileName) → FileKept file (file_of file fs) calls

-- the moment of the last of these calls
abbrev pub last_moment : List Call → ℕ
last_moment [] = 0
last_moment (call ∷ earlier) = call.moment

-- the moment of the next call
abbrev pub next_moment : ℕ → ℕ
next_moment now = min (now + 1) end_of_time
