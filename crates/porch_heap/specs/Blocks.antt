-- A heap as the list of its live blocks, its free bytes, and the place of a new block.
use Rattle.std.specs.Prelude.{◌≡◌, ℕ, ◌==◌, ◌+◌, ◌%◌, ◌<◌, ◌≤◌, ◌^◌, ◌⊎◌, nat_lt, nat_le, Bool, ◌&&◌, not, filter, find, length, List, [], ◌∷◌, if◌then◌else◌, Option}
use Rattle.std.specs.List.{list_any}
use Rattle.porch_heap.specs.declared.block.Block.{Block}
use Rattle.porch_heap.specs.declared.block.HeapFull.{HeapFull}

-- the heap has the bytes from its base on, and these blocks, by rising address
pub record HeapState : Type 0 where
  pub base : ℕ
  pub bytes : ℕ
  pub blocks : List Block

-- each block of the list
abbrev pub Each : (Block → Type 0) → List Block → Type 0
Each P [] = Unit {0}
Each P (b ∷ bs) = P b × Each P bs

-- the blocks stand one behind the other, each with one byte more behind it, from an address to an end
abbrev pub Stand : ℕ → ℕ → List Block → Type 0
Stand from end [] = from ≤ end
Stand from end (b ∷ bs) = (from ≤ b.at) × Stand (b.at + b.bytes + 1) end bs

-- at least one value and one byte
abbrev pub HasSome : Block → Type 0
HasSome b = (1 ≤ b.count) × (1 ≤ b.bytes)

-- what is always so
pub record IsHeap (h : HeapState) : Type 0 where
  pub small : h.base + h.bytes < 2 ^ 62
  pub few : length h.blocks ≤ 65536
  pub stand : Stand h.base (h.base + h.bytes) h.blocks
  pub some : Each HasSome h.blocks

-- an alignment
abbrev pub IsAlignment : ℕ → Type 0
IsAlignment align = (align ≡ 1) ⊎ (align ≡ 2) ⊎ (align ≡ 4) ⊎ (align ≡ 8)

-- some bytes at an address and the byte behind them touch neither the block nor the byte behind it
abbrev pub IsApart : ℕ → ℕ → Block → Type 0
IsApart at bytes b = (at + bytes < b.at) ⊎ (b.at + b.bytes < at)

-- a place for a request: a multiple of the alignment at which it and one byte more lie in the heap,
-- apart from each live block
pub record IsGap (h : HeapState) (bytes align at : ℕ) : Type 0 where
  pub multiple : at % align ≡ 0
  pub low : h.base ≤ at
  pub high : at + bytes < h.base + h.bytes
  pub apart : Each (IsApart at bytes) h.blocks

-- the lowest place for a request
pub record IsFirstGap (h : HeapState) (bytes align at : ℕ) : Type 0 where
  pub gap : IsGap h bytes align at
  pub least : (other : ℕ) → IsGap h bytes align other → at ≤ other

-- no place for a request
abbrev pub HasNoGap : HeapState → ℕ → ℕ → Type 0
HasNoGap h bytes align = (at : ℕ) → IsGap h bytes align at → ⊥

-- a byte of the heap that lies in no live block and isn't the byte behind one
pub record IsFree (h : HeapState) (byte : ℕ) : Type 0 where
  pub low : h.base ≤ byte
  pub high : byte < h.base + h.bytes
  pub apart : Each (λ b. (byte < b.at) ⊎ (b.at + b.bytes < byte)) h.blocks

-- so many bytes in a row are free
abbrev pub IsFreeRun : HeapState → ℕ → ℕ → Type 0
IsFreeRun h from count = (k : ℕ) → k < count → IsFree h (from + k)

-- the longest run of free bytes has this length
pub record IsLongestRun (h : HeapState) (count : ℕ) : Type 0 where
  pub some : (from : ℕ) × IsFreeRun h from count
  pub most : (from more : ℕ) → IsFreeRun h from more → more ≤ count

-- what is told of a request that found no place
pub record IsFullFor (h : HeapState) (bytes : ℕ) (fault : HeapFull) : Type 0 where
  pub asked : fault.asked ≡ bytes
  pub largest : IsLongestRun h fault.largest
  pub blocks : fault.blocks ≡ length h.blocks

-- the blocks with one more, at its place by address
abbrev pub with_block : Block → List Block → List Block
with_block b [] = b ∷ []
with_block b (c ∷ cs) = if nat_lt b.at c.at then b ∷ c ∷ cs else c ∷ with_block b cs

-- the blocks without the one that begins there
abbrev pub without : ℕ → List Block → List Block
without at blocks = filter (λ b. not (b.at == at)) blocks

-- the heap with one more block, and without the one that begins at an address
abbrev pub heap_with : Block → HeapState → HeapState
heap_with b h = record h { blocks = with_block b h.blocks }

abbrev pub heap_without : ℕ → HeapState → HeapState
heap_without at h = record h { blocks = without at h.blocks }

-- a block begins there
abbrev pub begins : ℕ → List Block → Bool
begins at blocks = list_any (λ b. b.at == at) blocks

-- the block that holds the byte at an address, or ends there
abbrev pub block_around : ℕ → List Block → Option Block
block_around at blocks = find (λ b. nat_le b.at at && nat_le at (b.at + b.bytes)) blocks
