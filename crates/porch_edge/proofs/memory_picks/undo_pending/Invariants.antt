use Rattle.std.proofs.Common.{◌≡◌, length, reverse, vec_len}
use Rattle.porch_edge.specs.declared.disk.FileName.{FileName}
use Rattle.porch_edge.specs.Files.{file_of}
use Rattle.porch_edge.specs.Picks.{synced_bytes}
use Rattle.porch_edge.specs.inside.Undo.{left_to_undo}
use Rattle.porch_edge.proofs.memory_picks.undo_pending.Given as goal

abbrev pub invariant-loop-call : goal.invariant-loop-call
invariant-loop-call l = record {
  six : length l.settled ≡ 6;
  same : (file : FileName) → left_to_undo file l.files l.settled (reverse l.calls.items) ≡ synced_bytes file (file_of file l.initial.files) (reverse l.initial.calls.items);
}

abbrev pub decreases-loop-call : goal.decreases-loop-call
decreases-loop-call l = vec_len l.calls
