-- What each call on a disk does: what it answers, what reads give afterwards, and what a crash may leave.
use Rattle.std.specs.Prelude.{◌≡◌, ℕ, ◌+◌, ◌-◌, ◌^◌, ◌<◌, ◌≤◌, ◌⊎◌, ◌++◌, Bool, true, false, List, [], length, take, drop, min, Result, IfOk, IsErr, OnOk, OnErr}
use Rattle.std.specs.declared.option.Option.{Option}
use Rattle.std.specs.declared.option.Option.TheVariants.{Some, None}
use Rattle.porch_edge.specs.declared.disk.FileName.{FileName}
use Rattle.porch_edge.specs.declared.failed.Failed.{Failed}
use Rattle.porch_edge.specs.Files.{Files, file_of, with_file, written, Torn, Shortened, Marred, Changed}

-- a moment, as what each clock shows; a disk over one device has one clock, for all its files
abbrev pub Moment : Type 0
Moment = ℕ → ℕ

-- the first moment is the second, or an earlier one
abbrev pub IsBy : Moment → Moment → Type 0
IsBy s t = (clock : ℕ) → s clock ≤ t clock

-- the first moment is a later one than the second
abbrev pub IsBehind : Moment → Moment → Type 0
IsBehind t s = IsBy s t × (IsBy t s → ⊥)

-- each clock shows one more
abbrev pub IsNext : Moment → Moment → Type 0
IsNext s t = (clock : ℕ) → t clock ≡ s clock + 1

-- What a disk tells: what reads give, where it tells it; what a crash at this moment may leave; the moment; what a
-- crash at some moment may have left, which is nothing where the disk hasn't passed that moment; and whether it has
-- halted, so that each further call fails and changes nothing.
pub record DiskState : Type 1 where
  pub files : Option Files
  pub leaves : Files → Type 0
  pub moment : Moment
  pub at : Moment → Files → Type 0
  pub halted : Bool

-- a crash at some moment from that one to now may have left these
abbrev pub since : DiskState → Moment → Files → Type 0
since disk t c = (m : Moment) × IsBy t m × disk.at m c

-- a disk that tells nothing
abbrev pub untold : DiskState
untold = record { files = None; leaves = λ _. Unit {0}; moment = λ _. 0; at = λ _ _. Unit {0}; halted = false }

-- this holds of what reads give, where the disk tells it
abbrev pub WhenTold : Option Files → (Files → Type 0) → Type 0
WhenTold None P = Unit {0}
WhenTold (Some fs) P = P fs

-- the same of a disk
abbrev pub WhereTold : DiskState → (Files → Type 0) → Type 0
WhereTold disk P = WhenTold disk.files P

-- both tell and this holds, or neither tells
abbrev pub BothTell : Option Files → Option Files → (Files → Files → Type 0) → Type 0
BothTell None None P = Unit {0}
BothTell None (Some gs) P = ⊥
BothTell (Some fs) None P = ⊥
BothTell (Some fs) (Some gs) P = P fs gs

-- a crash may leave nothing that it couldn't leave before
abbrev pub Keeps : (Files → Type 0) → (Files → Type 0) → Type 0
Keeps before now = (c : Files) → now c → before c

-- one from before with this change in one file
abbrev pub Turned : FileName → (List ℕ → List ℕ → Type 0) → (Files → Type 0) → Files → Type 0
Turned file change before c = (d : Files) × before d × Changed file change d c

-- each outcome of a crash is an outcome from before with this change in one file
abbrev pub Follows : FileName → (List ℕ → List ℕ → Type 0) → (Files → Type 0) → (Files → Type 0) → Type 0
Follows file change before now = (c : Files) → now c → Turned file change before c

-- Time goes on: what a crash at an earlier moment may have left stays, and at each moment that is passed now a crash
-- leaves files that have P.
pub record Passes (old new : DiskState) (P : Files → Type 0) : Type 0 where
  pub later : IsBy old.moment new.moment
  pub nothing_else : (m : Moment) (c : Files) → new.at m c → old.at m c ⊎ (IsBehind m old.moment × P c)
  pub keeps : (m : Moment) (c : Files) → old.at m c → new.at m c

-- nothing has changed, and no clock has moved
pub record Rests (old new : DiskState) (fs gs : Files) : Type 0 where
  pub same : gs ≡ fs
  pub still : (clock : ℕ) → new.moment clock ≡ old.moment clock
  pub keeps : Keeps old.leaves new.leaves
  pub leaves : Keeps new.leaves old.leaves
  pub keeps_at : (m : Moment) → Keeps (old.at m) (new.at m)
  pub leaves_at : (m : Moment) → Keeps (new.at m) (old.at m)
  pub halted : new.halted ≡ true

-- With a call all clocks go on by one. None does where the disk had halted: then it fails and changes nothing. It halts
-- only with a call that fails.
pub record Ticks {T : Type 0} (old new : DiskState) (fs gs : Files) (result : Result T Failed) : Type 0 where
  pub going : old.halted ≡ false → IsNext old.moment new.moment
  pub halted : old.halted ≡ true → IsErr result × Rests old new fs gs
  pub goes_on : OnOk result (new.halted ≡ false)

-- reads give the same, and nothing more is pending
pub record Stays (old new : DiskState) (fs gs : Files) : Type 0 where
  pub same : gs ≡ fs
  pub crash : Keeps old.leaves new.leaves
  pub time : Passes old new old.leaves

-- one file is changed: in full at Ok and else somehow, and a crash may leave it on the way; the others stay
pub record Alters (old new : DiskState) (fs gs : Files) (file : FileName) (full : List ℕ) (at_ok at_failed : List ℕ → List ℕ → Type 0)
    (result : Result (Unit {0}) Failed) : Type 0 where
  pub done : OnOk result (gs ≡ with_file file fs full)
  pub failed : OnErr result (Changed file at_failed fs gs)
  pub crash : OnOk result (Follows file at_ok old.leaves new.leaves)
  pub crash_failed : OnErr result (Follows file at_failed old.leaves new.leaves)
  pub time : OnOk result (Passes old new (Turned file at_ok old.leaves))
  pub time_failed : OnErr result (Passes old new (Turned file at_failed old.leaves))

-- it answers the length
abbrev pub LenStep : DiskState → DiskState → FileName → Result ℕ Failed → Type 0
LenStep old new file result = BothTell old.files new.files (λ fs gs.
    Stays old new fs gs × IfOk result (λ n. n ≡ length (file_of file fs)) × Ticks old new fs gs result)

-- it reads what stands from the place on, and leaves the rest of the buffer
abbrev pub ReadStep : DiskState → DiskState → FileName → ℕ → List ℕ → List ℕ → Result ℕ Failed → Type 0
ReadStep old new file at before after result = BothTell old.files new.files (λ fs gs.
    Stays old new fs gs × IfOk result (λ n.
    (n ≡ min (length before) (length (file_of file fs) - at)) × (after ≡ take n (drop at (file_of file fs)) ++ drop n before))
    × Ticks old new fs gs result)

-- the places from the old end on, where the write is past it, belong to the write
abbrev pub TornWrite : List ℕ → ℕ → List ℕ → List ℕ → List ℕ → Type 0
TornWrite bytes at piece = Torn (min at (length bytes)) (at + length piece)

-- without effect where it is empty or would pass 2^62
abbrev pub WriteStep : DiskState → DiskState → FileName → ℕ → List ℕ → Result (Unit {0}) Failed → Type 0
WriteStep old new file at bytes result = BothTell old.files new.files (λ fs gs.
    Alters old new fs gs file (written (file_of file fs) at bytes) (TornWrite (file_of file fs) at bytes) (TornWrite (file_of file fs) at bytes) result
    × ((bytes ≡ []) ⊎ (2 ^ 62 < at + length bytes) → Stays old new fs gs) × Ticks old new fs gs result)

-- without effect where the file isn't longer
abbrev pub CutStep : DiskState → DiskState → FileName → ℕ → Result (Unit {0}) Failed → Type 0
CutStep old new file len result = BothTell old.files new.files (λ fs gs.
    Alters old new fs gs file (take len (file_of file fs)) (Shortened len) (Marred len) result
    × (length (file_of file fs) ≤ len → Stays old new fs gs) × Ticks old new fs gs result)

-- at Ok a crash leaves what reads of this file give
abbrev pub SyncStep : DiskState → DiskState → FileName → Result (Unit {0}) Failed → Type 0
SyncStep old new file result = BothTell old.files new.files (λ fs gs.
    Stays old new fs gs × OnOk result ((c : Files) → new.leaves c → file_of file c ≡ file_of file fs) × Ticks old new fs gs result)

-- a crash at any moment since the old state leaves files that have P, and what one at an earlier moment left stays
pub record LeavesOnly (old new : DiskState) (P : Files → Type 0) : Type 0 where
  pub each : (c : Files) → since new old.moment c → P c
  pub time : Passes old new P

-- what a crash might leave before, but for one file, whose bytes have Q
abbrev pub ButFor : FileName → (Files → Type 0) → (List ℕ → Type 0) → Files → Type 0
ButFor file before Q c = (d : Files) × before d × Changed file (λ _ bytes. Q bytes) d c

-- nothing is pending in a file: a crash leaves what a read gives
abbrev pub IsSettled : DiskState → FileName → Type 0
IsSettled disk file = WhereTold disk (λ fs. (c : Files) → disk.leaves c → file_of file c ≡ file_of file fs)

-- a crash leaves its first byte as it reads
abbrev pub HasFront : DiskState → FileName → Type 0
HasFront disk file = WhereTold disk (λ fs. (c : Files) → disk.leaves c → take 1 (file_of file c) ≡ take 1 (file_of file fs))

-- calls that change no other file, nor what is pending there; at each moment a crash leaves this one with Q, of its old bytes
pub record Touches (old new : DiskState) (fs gs : Files) (file : FileName) (Q : List ℕ → Type 0) : Type 0 where
  pub others : gs ≡ with_file file fs (file_of file gs)
  pub now : (c : Files) → new.leaves c → ButFor file old.leaves Q c
  pub moments : LeavesOnly old new (ButFor file old.leaves Q)

-- the same, where the disk tells its files
abbrev pub TouchesOnly : DiskState → DiskState → FileName → (List ℕ → List ℕ → Type 0) → Type 0
TouchesOnly old new file Q = BothTell old.files new.files (λ fs gs. Touches old new fs gs file (Q (file_of file fs)))

-- calls that change nothing
pub record Looks (old new : DiskState) (fs gs : Files) : Type 0 where
  pub same : gs ≡ fs
  pub now : Keeps old.leaves new.leaves
  pub moments : LeavesOnly old new old.leaves

-- the same, where the disk tells its files
abbrev pub OnlyLooks : DiskState → DiskState → Type 0
OnlyLooks old new = BothTell old.files new.files (Looks old new)

-- reads give these bytes of one file now, of its old ones, and nothing is pending in it
abbrev pub HasNow : DiskState → DiskState → FileName → (List ℕ → List ℕ) → Type 0
HasNow old new file change = BothTell old.files new.files (λ fs gs.
    (gs ≡ with_file file fs (change (file_of file fs))) × ((c : Files) → new.leaves c → file_of file c ≡ file_of file gs))

-- a crash might leave a file so
abbrev pub LeavesOf : FileName → (Files → Type 0) → Files → Type 0
LeavesOf file leaves c = (d : Files) × leaves d × (file_of file c ≡ file_of file d)

-- calls that leave a file as it was, and what is pending in it: at each moment a crash leaves of it what it might before
pub record Spares (old new : DiskState) (fs gs : Files) (file : FileName) : Type 0 where
  pub same : file_of file gs ≡ file_of file fs
  pub now : (c : Files) → new.leaves c → LeavesOf file old.leaves c
  pub moments : LeavesOnly old new (LeavesOf file old.leaves)

-- the same, where the disk tells its files
abbrev pub SparesOne : DiskState → DiskState → FileName → Type 0
SparesOne old new file = BothTell old.files new.files (λ fs gs. Spares old new fs gs file)
