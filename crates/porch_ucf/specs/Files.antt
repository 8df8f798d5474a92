-- The bytes of a checkpoint file: the header, the rows, the data, and the digest of all but the gate.
use Rattle.std.specs.Prelude.{ℕ, List, ◌++◌, drop}
use Rattle.std.specs.List.{flat_map}
use Rattle.byteorder.specs.Endian.{big_bytes}
use Rattle.sha2.specs.Sha256.{sha256}
use Rattle.porch_ucf.specs.declared.image.FrameRow.{FrameRow}
use Rattle.porch_ucf.specs.declared.image.BlockRow.{BlockRow}
use Rattle.porch_ucf.specs.Headers.{header_bytes}
use Rattle.porch_ucf.specs.Images.{Checkpoint}

abbrev pub frame_bytes : FrameRow → List ℕ
frame_bytes f = big_bytes 4 f.function ++ big_bytes 4 f.call

abbrev pub block_bytes : BlockRow → List ℕ
block_bytes b = big_bytes 4 b.ty ++ big_bytes 4 b.count

-- the rows of the frames, then those of the blocks
abbrev pub rows_bytes : List FrameRow → List BlockRow → List ℕ
rows_bytes frames blocks = flat_map frame_bytes frames ++ flat_map block_bytes blocks

-- the header and the body
abbrev pub unsealed : Checkpoint → List ℕ
unsealed c = header_bytes c.header ++ rows_bytes c.frames c.blocks ++ c.bytes

-- bytes with the digest of all but the first one behind them: the first one is the gate
abbrev pub sealed : List ℕ → List ℕ
sealed bytes = bytes ++ sha256 (drop 1 bytes)

-- the file of a checkpoint, with an open gate
abbrev pub file_of : Checkpoint → List ℕ
file_of c = sealed (unsealed c)
