use Rattle.std.proofs.Common.{◌≡◌, ◌≤◌, ◌+◌, ◌*◌, ◌++◌, length, take, vec_capacity}
use Rattle.std.specs.List.{flat_map}
use Rattle.porch_ucf.specs.Files.{block_bytes}
use Rattle.porch_ucf.specs.declared.front.TheConstants.{ROW_BYTES}
use Rattle.porch_ucf.proofs.write.put_blocks.Given as goal

abbrev pub invariant-loop-block : goal.invariant-loop-block
invariant-loop-block l = record {
  items : l.into.items ≡ l.fn.into.items ++ flat_map block_bytes (take l.block-index l.blocks);
  length : length l.into.items ≡ length l.fn.into.items + ROW_BYTES * l.block-index;
  room : vec_capacity l.fn.into ≤ vec_capacity l.into;
}
