-- Chunks that follow one another, each of which tells where the free bytes before its first block begin.
use Rattle.std.specs.Prelude.{◌≡◌, ℕ, zero, suc, ◌+◌, ◌-◌, ◌%◌, ◌<◌, ◌≤◌, ◌^◌, max, length, take, drop, List, [], ◌∷◌}
use Rattle.porch_heap.specs.declared.block.Block.{Block}
use Rattle.porch_heap.specs.Blocks.{Stand}
use Rattle.porch_heap.specs.Chunks.{ChunkState, blocks_of}
use Rattle.porch_heap.specs.inside.Searching.{BeginsBehind, Head}

-- the blocks of the chunk of a number
abbrev pub blocks_at : List ChunkState → ℕ → List Block
blocks_at [] n = []
blocks_at (c ∷ cs) zero = c.blocks
blocks_at (c ∷ cs) (suc n) = blocks_at cs n

-- where bytes begin to be free behind blocks that stand from an address on
abbrev pub after : ℕ → List Block → ℕ
after from [] = from
after from (b ∷ bs) = after (b.at + b.bytes + 1) bs

-- where the first block begins, or an end where there is none
abbrev pub stop : ℕ → List Block → ℕ
stop end [] = end
stop end (b ∷ bs) = b.at

-- each chunk has blocks, and begins where the one before it ends
abbrev pub Linked : ℕ → List ChunkState → Type 0
Linked from [] = Unit {0}
Linked from (c ∷ cs) = (c.from ≡ from) × (0 < length c.blocks) × Stand c.from (2 ^ 62) c.blocks × Linked (after c.from c.blocks) cs

-- the chunk of a number, if there is one, with another address
abbrev pub begun : List ChunkState → ℕ → ℕ → List ChunkState
begun [] n from = []
begun (c ∷ cs) zero from = record { from = from; blocks = c.blocks } ∷ cs
begun (c ∷ cs) (suc n) from = c ∷ begun cs n from

-- a block's number among all of them
abbrev pub rank : List ChunkState → ℕ → ℕ → ℕ
rank cs chunk index = length (blocks_of (take chunk cs)) + index

-- between two addresses no multiple of the alignment has room behind it for so many bytes and one more
abbrev pub HasNoRoom : ℕ → ℕ → ℕ → ℕ → Type 0
HasNoRoom align bytes low high = (at : ℕ) → at % align ≡ 0 → low ≤ at → high ≤ at + bytes

-- the bytes before each block, from an address on, have no room for so many bytes and one more
abbrev pub NoRoom : ℕ → ℕ → ℕ → List Block → Type 0
NoRoom align bytes from [] = Unit {0}
NoRoom align bytes from (b ∷ bs) = HasNoRoom align bytes from b.at × NoRoom align bytes (b.at + b.bytes + 1) bs

-- the first place for a request before a block of some that stand from an address on
pub record IsFound (blocks : List Block) (from bytes align index at : ℕ) : Type 0 where
  pub within : index < length blocks
  pub multiple : at % align ≡ 0
  pub low : after from (take index blocks) ≤ at
  pub least : (other : ℕ) → other % align ≡ 0 → after from (take index blocks) ≤ other → at ≤ other
  pub behind : Head (BeginsBehind (at + bytes)) (drop index blocks)
  pub none : NoRoom align bytes from (take index blocks)

-- the most bytes that are free before a block
abbrev pub widest : ℕ → List Block → ℕ
widest from [] = 0
widest from (b ∷ bs) = max (b.at - from) (widest (b.at + b.bytes + 1) bs)

-- the first place for a request at or behind an address and before an end
pub record IsBehind (from end bytes align at : ℕ) : Type 0 where
  pub multiple : at % align ≡ 0
  pub low : from ≤ at
  pub inside : at + bytes < end
  pub least : (other : ℕ) → other % align ≡ 0 → from ≤ other → at ≤ other
