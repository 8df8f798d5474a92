-- What a heap keeps beside its blocks to find a place soon.
use Rattle.std.specs.Prelude.{ℕ, ◌+◌, ◌<◌, ◌≤◌, ◌&&◌, nat_le, nat_lt, min, List, [], ◌∷◌, if◌then◌else◌}
use Rattle.porch_heap.specs.declared.hint.Hint.{Hint}
use Rattle.porch_heap.specs.Blocks.{HeapState, IsHeap, IsAlignment, IsGap}

-- no place below the hint's address for what it speaks of
pub record IsHint (h : HeapState) (hint : Hint) : Type 0 where
  pub align : IsAlignment hint.align
  pub high : hint.low ≤ h.base + h.bytes
  pub none : (at : ℕ) → at < hint.low → IsGap h hint.bytes hint.align at → ⊥

-- each hint holds
abbrev pub AreHints : HeapState → List Hint → Type 0
AreHints h [] = Unit {0}
AreHints h (hint ∷ hints) = IsHint h hint × AreHints h hints

-- where to begin to look for a place
abbrev pub start_at : ℕ → ℕ → ℕ → Hint → ℕ
start_at base bytes align h = if nat_le h.bytes bytes && nat_le h.align align && nat_lt base h.low then h.low else base

-- a hint after a block ended, where so many bytes are free from an address on
abbrev pub lowered : ℕ → ℕ → Hint → Hint
lowered from count h = if nat_lt h.bytes count then record h { low = min h.low from } else h

-- what a heap keeps: its blocks lie in it, and the hints are true
pub record Keeps (h : HeapState) (hints : List Hint) : Type 0 where
  pub heap : IsHeap h
  pub true_hints : AreHints h hints
