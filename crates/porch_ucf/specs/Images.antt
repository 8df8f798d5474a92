-- What a checkpoint holds.
use Rattle.std.specs.Prelude.{◌≡◌, ℕ, ◌+◌, ◌*◌, List, length}
use Rattle.porch_ucf.specs.declared.front.TheConstants.{ROW_BYTES}
use Rattle.porch_ucf.specs.declared.header.Header.{Header}
use Rattle.porch_ucf.specs.declared.image.FrameRow.{FrameRow}
use Rattle.porch_ucf.specs.declared.image.BlockRow.{BlockRow}

pub record Checkpoint : Type 0 where
  pub header : Header
  -- the outermost frame first
  pub frames : List FrameRow
  -- the heap blocks by their addresses when they were saved
  pub blocks : List BlockRow
  -- the packed values of the globals, of the variables of each frame and of the blocks
  pub bytes : List ℕ

-- how many bytes so many rows have
abbrev pub rows_size : ℕ → ℕ → ℕ
rows_size frames blocks = ROW_BYTES * (frames + blocks)

-- the header says how many frames and blocks there are, and how many bytes they have with the data
pub record IsImage (c : Checkpoint) : Type 0 where
  pub frames : c.header.frames ≡ length c.frames
  pub blocks : c.header.blocks ≡ length c.blocks
  pub body : c.header.body ≡ rows_size (length c.frames) (length c.blocks) + length c.bytes
