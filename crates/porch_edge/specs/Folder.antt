-- What the disk over the current folder knows of its files: which of them are lost, since a sync of them has failed.
use Rattle.std.specs.Prelude.{Bool, true, false, IsTrue, IsErr, Result}
use Rattle.std.specs.declared.result.Result.TheVariants.{Ok, Err}
use Rattle.porch_edge.specs.declared.disk.FileName.{FileName}
use Rattle.porch_edge.specs.declared.disk.FileName.TheVariants.{Program, Output, CkA, CkB, Layouts, Input}
use Rattle.porch_edge.specs.declared.folder.DirDisk.{DirDisk}
use Rattle.porch_edge.specs.declared.folder.lost.LostFiles.{LostFiles}

-- no file is lost
abbrev pub no_lost : LostFiles
no_lost = record { program = false; output = false; ck_a = false; ck_b = false; layouts = false; input = false }

-- whether this file is lost
abbrev pub is_lost : LostFiles → FileName → Bool
is_lost lost Program = lost.program
is_lost lost Output = lost.output
is_lost lost CkA = lost.ck_a
is_lost lost CkB = lost.ck_b
is_lost lost Layouts = lost.layouts
is_lost lost Input = lost.input

-- the lost files, and this one
abbrev pub with_lost : LostFiles → FileName → LostFiles
with_lost lost Program = record lost { program = true }
with_lost lost Output = record lost { output = true }
with_lost lost CkA = record lost { ck_a = true }
with_lost lost CkB = record lost { ck_b = true }
with_lost lost Layouts = record lost { layouts = true }
with_lost lost Input = record lost { input = true }

-- which files are lost after a sync of this one
abbrev pub lost_after : {T E : Type 0} → LostFiles → FileName → Result T E → LostFiles
lost_after lost file (Ok x) = lost
lost_after lost file (Err e) = with_lost lost file

-- a call on a lost file fails
abbrev pub FailsIfLost : {T E : Type 0} → LostFiles → FileName → Result T E → Type 0
FailsIfLost lost file result = IsTrue (is_lost lost file) → IsErr result

-- which files of a folder are lost
abbrev pub lost_files : {R A B C : Type 0} → DirDisk R A B C → LostFiles
lost_files disk = disk.lost

-- what is lost stays lost
abbrev pub StayLost : LostFiles → LostFiles → Type 0
StayLost old new = (file : FileName) → IsTrue (is_lost old file) → IsTrue (is_lost new file)
