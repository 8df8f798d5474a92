-- What a crash may leave after the calls that a disk in memory keeps.
use Rattle.std.specs.Prelude.{◌≡◌, ◌==◌, ℕ, ◌-◌, ◌^◌, ◌<◌, ◌≤◌, ◌⊎◌, List, [], ◌∷◌, leb, if◌then◌else◌}
use Rattle.std.specs.declared.option.Option.TheVariants.{Some}
use Rattle.porch_edge.specs.declared.disk.FileName.{FileName}
use Rattle.porch_edge.specs.declared.disk.FileName.TheVariants.{Program, Output, CkA, CkB, Layouts, Input}
use Rattle.porch_edge.specs.declared.memory_calls.Change.{Change}
use Rattle.porch_edge.specs.declared.memory_calls.Change.TheVariants.{Nothing, Synced, Write, Cut, Put}
use Rattle.porch_edge.specs.declared.memory_calls.Call.{Call}
use Rattle.porch_edge.specs.Files.{Files, file_of, with_file, Torn, Shortened}
use Rattle.porch_edge.specs.Disk.{DiskState, Moment}

-- a number for each file
abbrev pub index_of : FileName → ℕ
index_of Program = 0
index_of Output = 1
index_of CkA = 2
index_of CkB = 3
index_of Layouts = 4
index_of Input = 5

-- what a call does to a file: nothing where it is another one
abbrev pub change_on : FileName → Call → Change
change_on file call = if index_of file == index_of call.file then call.change else Nothing

-- the bytes from before a call, which keeps these where it has changed them
abbrev pub bytes_before : Change → List ℕ → List ℕ → List ℕ
bytes_before Nothing kept now = now
bytes_before Synced kept now = now
bytes_before (Write from to) kept now = kept
bytes_before (Cut len) kept now = kept
bytes_before Put kept now = kept

-- what a call makes of what a crash may leave of its file
abbrev pub LeavesBy : Change → List ℕ → (List ℕ → Type 0) → List ℕ → Type 0
LeavesBy Nothing now earlier c = earlier c
LeavesBy Synced now earlier c = c ≡ now
LeavesBy (Write from to) now earlier c = (d : List ℕ) × earlier d × Torn from to d c
LeavesBy (Cut len) now earlier c = (d : List ℕ) × earlier d × Shortened len d c
LeavesBy Put now earlier c = c ≡ now

-- what a crash may leave of a file that reads so after these calls, of which the last stands first
abbrev pub FileLeaves : FileName → List ℕ → List Call → List ℕ → Type 0
FileLeaves file now [] c = c ≡ now
FileLeaves file now (call ∷ earlier) c =
    LeavesBy (change_on file call) now (FileLeaves file (bytes_before (change_on file call) call.before.items now) earlier) c

-- files are independent
abbrev pub Leaves : Files → List Call → Files → Type 0
Leaves fs calls c = (file : FileName) → FileLeaves file (file_of file fs) calls (file_of file c)

-- the files from before a call
abbrev pub files_before : Call → Files → Files
files_before call fs = with_file call.file fs (bytes_before call.change call.before.items (file_of call.file fs))

-- What a crash at a moment may have left, by the calls of that moment and before. One that isn't kept has changed
-- nothing.
abbrev pub LeftAt : Files → List Call → ℕ → Files → Type 0
LeftAt fs [] m c = Leaves fs [] c
LeftAt fs (call ∷ earlier) m c =
    ((call.moment ≤ m) × Leaves fs (call ∷ earlier) c) ⊎ ((m < call.moment) × LeftAt (files_before call fs) earlier m c)

-- the last moment, in which no call goes
abbrev pub end_of_time : ℕ
end_of_time = 2 ^ 64 - 1

-- all clocks show the same: it is that of one device
abbrev pub IsOfOne : Moment → Type 0
IsOfOne m = (clock : ℕ) → m clock ≡ m 0

-- a disk with these files after these calls, of which the last stands first, at this moment
abbrev pub memory_state : Files → List Call → ℕ → DiskState
memory_state fs calls now = record {
  files = Some fs;
  leaves = Leaves fs calls;
  moment = λ _. now;
  at = λ m c. IsOfOne m × (m 0 ≤ now) × LeftAt fs calls (m 0) c;
  halted = leb end_of_time now;
}
