-- The longest run of free bytes.
use Rattle.std.proofs.Common.{ℕ, zero, suc, ◌+◌, ◌-◌, ◌<◌, ◌≤◌, ◌⊎◌, inl, inr, List, [], ◌∷◌, arith}
use Rattle.std.proofs.lemmas.Bool.{cases_lt}
use Rattle.porch_heap.specs.declared.block.Block.{Block}
use Rattle.porch_heap.specs.Blocks.{IsHeap, Each, Stand, IsLongestRun}
use Rattle.porch_heap.specs.Gaps.{longest_between}
use Rattle.porch_heap.specs.inside.Searching.{state}
use Rattle.porch_heap.proofs.Lists.{each_map, stand_low, stand_end}

-- a free byte from an address to an end
record Free (from end : ℕ) (xs : List Block) (byte : ℕ) : Type 0 where
  low : from ≤ byte
  high : byte < end
  apart : Each (λ b. (byte < b.at) ⊎ (b.at + b.bytes < byte)) xs

abbrev Run : ℕ → ℕ → List Block → ℕ → ℕ → Type 0
Run from end xs start count = (k : ℕ) → k < count → Free from end xs (start + k)

-- a run in the bytes before the first block, and one behind it
before_first : (from end : ℕ) (b : Block) (xs : List Block) → Stand from end (b ∷ xs) → Run from end (b ∷ xs) from (b.at - from)
before_first from end b xs h k less =
    let low = h.0 in
    let last = stand_end (b.at + b.bytes + 1) end xs h.1 in
    record {
      low = omega arith;
      high = omega arith;
      apart = (inl (omega arith), each_map (λ c. b.at + b.bytes + 1 ≤ c.at) (λ c. (from + k < c.at) ⊎ (c.at + c.bytes < from + k)) (λ c e. inl (omega arith)) xs (stand_low (b.at + b.bytes + 1) end xs h.1));
    }

behind_first : (from end : ℕ) (b : Block) (xs : List Block) → Stand from end (b ∷ xs) → (start count : ℕ) → Run (b.at + b.bytes + 1) end xs start count → Run from end (b ∷ xs) start count
behind_first from end b xs h start count run k less =
    let free = run k less in
    let first = h.0 in
    let low = free.low in
    record { low = omega arith; high = free.high; apart = (inr (omega arith), free.apart) }

some_run : (from end : ℕ) (xs : List Block) → Stand from end xs → (start : ℕ) × Run from end xs start (longest_between from end xs)
some_run from end [] h = (from, λ k less. record { low = omega arith; high = omega arith; apart = tt })
some_run from end (b ∷ xs) h =
    let rest = some_run (b.at + b.bytes + 1) end xs h.1 in
    elim (cases_lt (b.at - from) (longest_between (b.at + b.bytes + 1) end xs)) [
      | inl less ↦ (rest.0, λ k e. behind_first from end b xs h rest.0 (longest_between (b.at + b.bytes + 1) end xs) rest.1 k (omega arith))
      | inr more ↦ (from, λ k e. before_first from end b xs h k (omega arith))
    ]

most_run : (from end : ℕ) (xs : List Block) → Stand from end xs → (start count : ℕ) → Run from end xs start count → count ≤ longest_between from end xs
most_run from end xs h start zero run = omega arith
most_run from end [] h start (suc n) run =
    let first = run 0 (omega arith) in
    let last = run n (omega arith) in
    let a = first.low in
    let b = last.high in
    omega arith
most_run from end (b ∷ xs) h start (suc n) run =
    let first = run 0 (omega arith) in
    let low = first.low in
    elim first.apart.0 [
      | inl before ↦ elim (cases_lt b.at (start + suc n)) [
        | inl reaches ↦ (let there : Free from end (b ∷ xs) (start + (b.at - start)) = run (b.at - start) (omega arith) in elim there.apart.0 [ inl e ↦ absurd (omega arith) | inr e ↦ absurd (omega arith) ])
        | inr within ↦ omega arith
      ]
      | inr behind ↦ (let most = most_run (b.at + b.bytes + 1) end xs h.1 start (suc n) (λ k less. let free = run k less in record { low = omega arith; high = free.high; apart = free.apart.1 }) in omega arith)
    ]

-- the longest gap is the longest run
pub longest_true : (base size : ℕ) (live : List Block) → IsHeap (state base size live) → IsLongestRun (state base size live) (longest_between base (base + size) live)
longest_true base size live heap =
    let found = some_run base (base + size) live heap.stand in
    record {
      some = (found.0, λ k less. let free = found.1 k less in record { low = free.low; high = free.high; apart = free.apart });
      most = λ from more run. most_run base (base + size) live heap.stand from more (λ k less. let free = run k less in record { low = free.low; high = free.high; apart = free.apart });
    }
