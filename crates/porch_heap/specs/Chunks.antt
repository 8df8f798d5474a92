-- The blocks that a heap's chunks hold.
use Rattle.std.specs.Prelude.{ℕ, ◌++◌, List, [], ◌∷◌}
use Rattle.porch_heap.specs.declared.block.Block.{Block}

-- some blocks, and the address from which the bytes before the first of them are free
pub record ChunkState : Type 0 where
  pub from : ℕ
  pub blocks : List Block

-- a base address and the chunks from there on
pub record RowState : Type 0 where
  pub base : ℕ
  pub chunks : List ChunkState

-- the blocks of chunks
abbrev pub blocks_of : List ChunkState → List Block
blocks_of [] = []
blocks_of (c ∷ cs) = c.blocks ++ blocks_of cs
