-- What an output stands for on a disk, and what a crash leaves of its file.
use Rattle.std.specs.Prelude.{◌≡◌, ℕ, ◌+◌, List, ◌++◌, length, true}
use Rattle.porch_edge.specs.declared.disk.FileName.TheVariants.{Output as OutputFile}
use Rattle.porch_edge.specs.Files.{Files}
use Rattle.porch_edge.specs.Disk.{DiskState, Moment, IsBy, since, WhereTold, TouchesOnly}
use Rattle.porch_output.specs.declared.output.Output.{Output}

-- what waits to be written
abbrev pub waiting : Output → List ℕ
waiting output = output.buffer.items

-- the bytes of the file and those that wait
abbrev pub text_of : Output → Files → List ℕ
text_of output fs = fs.output ++ waiting output

-- how many they are
abbrev pub length_of : Output → ℕ
length_of output = output.written + length (waiting output)

-- a call has failed, and the output is of no more use
abbrev pub IsSpent : Output → Type 0
IsSpent output = output.spent ≡ true

-- the output knows where its file ends, where the disk tells it
abbrev pub IsReady : Output → DiskState → Type 0
IsReady output disk = WhereTold disk (λ fs. output.written ≡ length fs.output)

-- these bytes begin with those
abbrev pub BeginsWith : List ℕ → List ℕ → Type 0
BeginsWith start bytes = (rest : List ℕ) × (bytes ≡ start ++ rest)

-- a crash leaves a file that begins with these bytes
abbrev pub LeavesBeginning : List ℕ → DiskState → Type 0
LeavesBeginning kept disk = WhereTold disk (λ _. (c : Files) → disk.leaves c → BeginsWith kept c.output)

-- calls on the output's file alone, at each moment of which it begins with these bytes
abbrev pub KeepsBeginning : List ℕ → DiskState → DiskState → Type 0
KeepsBeginning kept old new = TouchesOnly old new OutputFile (λ _ bytes. BeginsWith kept bytes)

-- a crash at any moment since that one left a file that begins with these bytes
pub record BeginsSince (kept : List ℕ) (mark : Moment) (disk : DiskState) : Type 0 where
  pub by : IsBy mark disk.moment
  pub each : (c : Files) → since disk mark c → BeginsWith kept c.output
