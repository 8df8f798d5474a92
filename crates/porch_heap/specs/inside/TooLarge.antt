-- What a chunk keeps beside its blocks.
use Rattle.std.specs.Prelude.{◌≡◌, ℕ, ◌+◌, ◌<◌, ◌≤◌, ◌^◌, length, List}
use Rattle.porch_heap.specs.declared.block.Block.{Block}
use Rattle.porch_heap.specs.declared.too_large.TooLarge.{TooLarge}
use Rattle.porch_heap.specs.Blocks.{Stand}
use Rattle.porch_heap.specs.Chunks.{ChunkState, blocks_of}
use Rattle.porch_heap.specs.inside.ChunkRow.{NoRoom, Linked}

-- by alignment, the bytes for which there is no room before any block
pub record AreTooLarge (from : ℕ) (blocks : List Block) (too_large : TooLarge) : Type 0 where
  pub one : NoRoom 1 too_large.one from blocks
  pub two : NoRoom 2 too_large.two from blocks
  pub four : NoRoom 4 too_large.four from blocks
  pub eight : NoRoom 8 too_large.eight from blocks

-- the blocks of a chunk, at most 128, stand from its address on, and its too_large are true
pub record IsChunk (from : ℕ) (blocks : List Block) (too_large : TooLarge) : Type 0 where
  pub few : length blocks ≤ 128
  pub stand : Stand from (2 ^ 62) blocks
  pub all_too_large : AreTooLarge from blocks too_large

-- the chunks with blocks follow one another from the base on, so many blocks in all; each other chunk
-- is spare, and there is one
pub record IsRow (base count : ℕ) (chunks : List ChunkState) (used spare used_memory spare_memory : ℕ) : Type 0 where
  pub low : base < 2 ^ 62
  pub linked : Linked base chunks
  pub counted : count ≡ length (blocks_of chunks)
  pub few : count ≤ 65536
  pub all : used + spare ≡ 1024
  pub some : 0 < spare
  pub enough : 1024 ≤ used_memory
  pub enough_spare : 1024 ≤ spare_memory
