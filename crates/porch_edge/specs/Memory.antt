-- What a disk in memory tells.
use Rattle.std.specs.Prelude.{◌⊎◌, OnOk, Result, ℕ, List, ◌≡◌, [], reverse}
use Rattle.std.specs.declared.option.Option.TheVariants.{None}
use Rattle.porch_edge.specs.declared.disk.FileName.{FileName}
use Rattle.porch_edge.specs.declared.memory_disk.MemDisk.{MemDisk}
use Rattle.porch_edge.specs.declared.memory_plan.Plan.{Plan}
use Rattle.porch_edge.specs.declared.memory_plan.Fate.TheVariants.{Goes, Fails}
use Rattle.porch_edge.specs.declared.failed.Failed.{Failed}
use Rattle.porch_edge.specs.Plan.{next_fate, plan_after}
use Rattle.porch_edge.specs.Files.{Files, file_of}
use Rattle.porch_edge.specs.Disk.{DiskState}
use Rattle.porch_edge.specs.Calls.{memory_state}
use Rattle.porch_edge.specs.Picks.{revived}

-- what reads give
abbrev pub files_held : MemDisk → Files
files_held disk = disk.files

-- what it tells, by its calls, of which the last stands first
abbrev pub mem_state : MemDisk → DiskState
mem_state disk = memory_state disk.files (reverse disk.calls.items) disk.clock

-- how many calls and puts there were
abbrev pub moment_of : MemDisk → ℕ
moment_of disk = disk.clock

-- which of its calls are to fail
abbrev pub plan_of : MemDisk → Plan
plan_of disk = disk.plan

-- a crash leaves what a read of this file gives
abbrev pub IsDurable : MemDisk → FileName → Type 0
IsDurable disk file = (c : Files) → (mem_state disk).leaves c → file_of file c ≡ file_of file (files_held disk)

-- no call was made, and none is to fail
pub record IsFresh (disk : MemDisk) : Type 0 where
  pub calls : disk.calls.items ≡ []
  pub plan : plan_of disk ≡ record { made = 0; fail = None; stop = None; stopped = None }
  pub moment : moment_of disk ≡ 0

-- the files, and what is pending in them, are as they were
pub record IsUntouched (old new : MemDisk) : Type 0 where
  pub files : files_held new ≡ files_held old
  pub calls : new.calls.items ≡ old.calls.items

-- what the disk has of a file after a crash, where it has stopped, and else what a read gives
abbrev pub after_crash : MemDisk → FileName → List ℕ
after_crash disk file = revived (plan_of disk).stopped file (file_of file (files_held disk)) (reverse disk.calls.items)

-- A call keeps to the plan: it is counted, and where it is to fail it has no effect. It answers Ok only where it goes
-- and makes the files these; where it stops the disk, or there was no memory, or the last moment has come, it has made
-- them these or has no effect.
pub record Obeys {T : Type 0} (old new : MemDisk) (files : Files) (result : Result T Failed) : Type 0 where
  pub plan : plan_of new ≡ plan_after (plan_of old)
  pub fails : next_fate (plan_of old) ≡ Fails → IsUntouched old new
  pub effect : (files_held new ≡ files) ⊎ IsUntouched old new
  pub goes : OnOk result (next_fate (plan_of old) ≡ Goes)
