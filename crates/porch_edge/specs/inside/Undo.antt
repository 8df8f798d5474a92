-- What undoing the calls of a disk in memory comes to.
use Rattle.std.specs.Prelude.{ℕ, Bool, false, List, if◌then◌else◌}
use Rattle.std.proofs.Common.{get_or}
use Rattle.porch_edge.specs.declared.disk.FileName.{FileName}
use Rattle.porch_edge.specs.declared.memory_calls.Call.{Call}
use Rattle.porch_edge.specs.Files.{Files, file_of}
use Rattle.porch_edge.specs.Calls.{index_of}
use Rattle.porch_edge.specs.Picks.{synced_bytes}

-- what undoing these calls is to leave of a file, which has come to its last sync or not
abbrev pub left_to_undo : FileName → Files → List Bool → List Call → List ℕ
left_to_undo file fs settled calls =
    if get_or settled (index_of file) false then file_of file fs else synced_bytes file (file_of file fs) calls
