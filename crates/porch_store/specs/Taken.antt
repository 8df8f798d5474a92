-- Which file a commit takes, and what a crash leaves meanwhile of it and of the newest.
use Rattle.std.specs.Prelude.{◌≡◌, ◌⊎◌, ℕ, List}
use Rattle.porch_edge.specs.declared.disk.FileName.{FileName}
use Rattle.porch_edge.specs.declared.disk.FileName.TheVariants.{Program, Output, CkA, CkB, Layouts, Input}
use Rattle.porch_edge.specs.Files.{Files, file_of, with_file}
use Rattle.porch_edge.specs.Disk.{DiskState, BothTell, LeavesOnly}
use Rattle.porch_store.specs.declared.newest.Newest.{Newest}
use Rattle.porch_store.specs.declared.newest.Newest.TheVariants.{Neither, One, Tie}
use Rattle.porch_store.specs.Checkpoints.{IsOpen, IsNewest, whole_file}

-- the file that isn't the newest, and CkA where none is open: a commit takes it
abbrev pub older_of : Newest → FileName
older_of Neither = CkA
older_of (One CkA) = CkB
older_of (One CkB) = CkA
older_of (One Program) = CkA
older_of (One Output) = CkA
older_of (One Layouts) = CkA
older_of (One Input) = CkA
older_of Tie = CkA

-- the other one, which it leaves alone
abbrev pub newer_of : Newest → FileName
newer_of Neither = CkB
newer_of (One CkA) = CkA
newer_of (One CkB) = CkB
newer_of (One Program) = CkB
newer_of (One Output) = CkB
newer_of (One Layouts) = CkB
newer_of (One Input) = CkB
newer_of Tie = CkB

-- the file has its old bytes, or is closed
abbrev pub OldOrShut : List ℕ → List ℕ → Type 0
OldOrShut old now = (now ≡ old) ⊎ (¬ IsOpen now)

-- the file has its old bytes, is closed, or is whole: the letter P and these bytes
pub data OldClosedOrWhole (bytes old now : List ℕ) : Type 0 where
  is_old : now ≡ old → OldClosedOrWhole bytes old now
  is_closed : ¬ IsOpen now → OldClosedOrWhole bytes old now
  is_whole : now ≡ whole_file bytes → OldClosedOrWhole bytes old now

-- a newest file has the bytes that it had
abbrev pub HasOldBytes : Newest → Files → Files → Type 0
HasOldBytes Neither fs c = Unit {0}
HasOldBytes (One file) fs c = file_of file c ≡ file_of file fs
HasOldBytes Tie fs c = Unit {0}

-- there is no newest where there was none, or it is the old one with its old bytes
abbrev pub HasNewest : Newest → Files → Files → Type 0
HasNewest newest fs c = IsNewest newest c × HasOldBytes newest fs c

-- this file is the newest, with the letter P and these bytes
pub record IsNew (file : FileName) (bytes : List ℕ) (c : Files) : Type 0 where
  pub newest : IsNewest (One file) c
  pub whole : file_of file c ≡ whole_file bytes

-- there is no newest where there was none, or it is the old one with its old bytes, or it is the new one, whole
abbrev pub KeepsNewest : Newest → Files → List ℕ → Files → Type 0
KeepsNewest newest fs bytes c = HasNewest newest fs c ⊎ IsNew (older_of newest) bytes c

-- at each moment since the old state a crash leaves the old newest, and so do reads now
abbrev pub KeepsOld : Newest → DiskState → DiskState → Type 0
KeepsOld newest old new = BothTell old.files new.files (λ fs gs. HasOldBytes newest fs gs × LeavesOnly old new (HasNewest newest fs))

-- at each moment since the old state a crash leaves the old newest, or the new one
abbrev pub KeepsOldOrNew : Newest → List ℕ → DiskState → DiskState → Type 0
KeepsOldOrNew newest bytes old new = BothTell old.files new.files (λ fs gs. LeavesOnly old new (KeepsNewest newest fs bytes))

-- each checkpoint file has its old bytes or is closed, and the other files are as they were
pub record Shuts (old new : Files) : Type 0 where
  pub others : new ≡ with_file CkB (with_file CkA old new.ck_a) new.ck_b
  pub a : OldOrShut old.ck_a new.ck_a
  pub b : OldOrShut old.ck_b new.ck_b

-- what a crash might leave before, but that checkpoint files may be closed
abbrev pub ButShut : (Files → Type 0) → Files → Type 0
ButShut before c = (d : Files) × before d × Shuts d c

-- at each moment since the old state a crash leaves that, and reads show it
pub record ShutsOn (old new : DiskState) (fs gs : Files) : Type 0 where
  pub reads : Shuts fs gs
  pub now : (c : Files) → new.leaves c → ButShut old.leaves c
  pub moments : LeavesOnly old new (ButShut old.leaves)

-- the same, where the disk tells its files
abbrev pub OnlyShuts : DiskState → DiskState → Type 0
OnlyShuts old new = BothTell old.files new.files (ShutsOn old new)
