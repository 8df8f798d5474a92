-- Where among the blocks a place is.
use Rattle.std.specs.Prelude.{ℕ, ◌+◌, ◌<◌, ◌≤◌, length, List, [], ◌∷◌, take, drop}
use Rattle.porch_heap.specs.declared.block.Block.{Block}
use Rattle.porch_heap.specs.Blocks.{HeapState, Each}

-- a heap by its parts
abbrev pub state : ℕ → ℕ → List Block → HeapState
state base bytes blocks = record { base = base; bytes = bytes; blocks = blocks }

-- the block and the byte behind it end before the address, or it begins behind the address
abbrev pub EndsBefore : ℕ → Block → Type 0
EndsBefore at b = b.at + b.bytes < at

abbrev pub BeginsBehind : ℕ → Block → Type 0
BeginsBehind at b = at < b.at

-- the first block, if there is one
abbrev pub Head : (Block → Type 0) → List Block → Type 0
Head P [] = Unit {0}
Head P (b ∷ bs) = P b

-- a request at this address goes before the block of this number
pub record Divides (blocks : List Block) (index at bytes : ℕ) : Type 0 where
  pub within : index ≤ length blocks
  pub before : Each (EndsBefore at) (take index blocks)
  pub behind : Head (BeginsBehind (at + bytes)) (drop index blocks)
