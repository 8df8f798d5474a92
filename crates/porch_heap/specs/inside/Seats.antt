-- Where a new block goes among the blocks of chunks.
use Rattle.std.specs.Prelude.{ℕ, ◌<◌, ◌++◌, length, take, List, Option, None, Some}
use Rattle.porch_heap.specs.declared.block.Block.{Block}
use Rattle.porch_heap.specs.declared.chunks.Seat.{Seat}
use Rattle.porch_heap.specs.Chunks.{ChunkState, blocks_of}
use Rattle.porch_heap.specs.inside.ChunkRow.{blocks_at, rank}

-- a block stands there
abbrev pub IsSeat : List ChunkState → Seat → Type 0
IsSeat cs seat = seat.index < length (blocks_at cs seat.chunk)

abbrev pub IsBefore : List ChunkState → Option Seat → Type 0
IsBefore cs None = Unit {0}
IsBefore cs (Some seat) = IsSeat cs seat

-- the number of the block before which it goes
abbrev pub number_of : List ChunkState → Option Seat → ℕ
number_of cs None = length (blocks_of cs)
number_of cs (Some seat) = rank cs seat.chunk seat.index

-- the blocks in front of a seat
abbrev pub blocks_before : List ChunkState → Seat → List Block
blocks_before cs seat = blocks_of (take seat.chunk cs) ++ take seat.index (blocks_at cs seat.chunk)
