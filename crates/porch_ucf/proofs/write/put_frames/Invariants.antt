use Rattle.std.proofs.Common.{◌≡◌, ◌≤◌, ◌+◌, ◌*◌, ◌++◌, length, take, vec_capacity}
use Rattle.std.specs.List.{flat_map}
use Rattle.porch_ucf.specs.Files.{frame_bytes}
use Rattle.porch_ucf.specs.declared.front.TheConstants.{ROW_BYTES}
use Rattle.porch_ucf.proofs.write.put_frames.Given as goal

abbrev pub invariant-loop-frame : goal.invariant-loop-frame
invariant-loop-frame l = record {
  items : l.into.items ≡ l.fn.into.items ++ flat_map frame_bytes (take l.frame-index l.frames);
  length : length l.into.items ≡ length l.fn.into.items + ROW_BYTES * l.frame-index;
  room : vec_capacity l.fn.into ≤ vec_capacity l.into;
}
