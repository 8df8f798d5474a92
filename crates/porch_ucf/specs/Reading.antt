-- What a checkpoint file holds, by place.
use Rattle.std.specs.Prelude.{ℕ, ◌+◌, ◌-◌, ◌*◌, List, map, take, drop}
use Rattle.std.specs.List.{range_with_len}
use Rattle.porch_ucf.specs.declared.front.TheConstants.{ROW_BYTES}
use Rattle.porch_ucf.specs.declared.header.TheConstants.{HEADER_BYTES}
use Rattle.porch_ucf.specs.declared.image.FrameRow.{FrameRow}
use Rattle.porch_ucf.specs.declared.image.BlockRow.{BlockRow}
use Rattle.porch_ucf.specs.Fields.{u32_in}
use Rattle.porch_ucf.specs.Headers.{header_of}
use Rattle.porch_ucf.specs.Images.{Checkpoint, rows_size}

-- where a row stands: frames come first, then blocks, numbered on
abbrev pub row_place : ℕ → ℕ
row_place i = HEADER_BYTES + ROW_BYTES * i

abbrev pub frame_in : List ℕ → ℕ → FrameRow
frame_in text i =
    record { function = u32_in text (row_place i); call = u32_in text (row_place i + 4) }

abbrev pub block_in : List ℕ → ℕ → BlockRow
block_in text i =
    record { ty = u32_in text (row_place i); count = u32_in text (row_place i + 4) }

abbrev pub frames_in : List ℕ → (frames : ℕ) → List FrameRow
frames_in text frames = map (frame_in text) (range_with_len 0 frames)

abbrev pub blocks_in : List ℕ → (frames blocks : ℕ) → List BlockRow
blocks_in text frames blocks = map (block_in text) (range_with_len frames blocks)

-- the data: what the body holds behind the rows
abbrev pub bytes_in : List ℕ → (rows body : ℕ) → List ℕ
bytes_in text rows body = take (body - rows) (drop (HEADER_BYTES + rows) text)

-- what a file holds
abbrev pub image_of : List ℕ → Checkpoint
image_of text =
    let h = header_of text in
    record {
      header = h;
      frames = frames_in text h.frames;
      blocks = blocks_in text h.frames h.blocks;
      bytes = bytes_in text (rows_size h.frames h.blocks) h.body;
    }
