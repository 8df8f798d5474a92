-- What a disk in memory keeps is a fact.
use Rattle.std.specs.Prelude.{ℕ, List, [], ◌∷◌}
use Rattle.std.proofs.Props.{props}
use Rattle.porch_edge.specs.declared.disk.FileName.{FileName}
use Rattle.porch_edge.specs.declared.memory_calls.Change.{Change}
use Rattle.porch_edge.specs.declared.memory_calls.Change.TheVariants.{Nothing, Synced, Write, Cut, Put}
use Rattle.porch_edge.specs.declared.memory_calls.Call.{Call}
use Rattle.porch_edge.specs.Files.{Files}
use Rattle.porch_edge.specs.Calls.{change_on, bytes_before}
use Rattle.porch_edge.specs.inside.Kept.{Did, FileKept, Kept}

did_prop : (x : Change) (before now : List ℕ) → IsProp (Did x before now)
did_prop Nothing before now = hlevel props
did_prop Synced before now = hlevel props
did_prop (Write from to) before now = hlevel props
did_prop (Cut len) before now = hlevel props
did_prop Put before now = hlevel props

file_kept_prop : (file : FileName) (now : List ℕ) (log : List Call) → IsProp (FileKept file now log)
file_kept_prop file now [] = hlevel props
file_kept_prop file now (call ∷ log) =
    hlevel (did_prop (change_on file call) call.before.items now, file_kept_prop file (bytes_before (change_on file call) call.before.items now) log)

pub kept_prop : (fs : Files) (log : List Call) → IsProp (Kept fs log)
kept_prop fs log = hlevel (props, file_kept_prop)
