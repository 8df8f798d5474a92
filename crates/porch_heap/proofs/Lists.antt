-- Each block of a list, the blocks that stand one behind the other, and their parts.
use Rattle.std.proofs.Common.{ℕ, zero, suc, ◌+◌, ◌<◌, ◌≤◌, List, [], ◌∷◌, ◌++◌, length, take, drop, get_or, arith}
use Rattle.std.specs.Prelude.{insert, remove}
use Rattle.porch_heap.specs.declared.block.Block.{Block}
use Rattle.porch_heap.specs.Blocks.{Each, Stand}
use Rattle.porch_heap.specs.inside.Searching.{EndsBefore, Head}

pub each_map : (P Q : Block → Type 0) → ((b : Block) → P b → Q b) → (bs : List Block) → Each P bs → Each Q bs
each_map P Q f [] h = tt
each_map P Q f (b ∷ bs) h = (f b h.0, each_map P Q f bs h.1)

pub each_append : (P : Block → Type 0) (xs ys : List Block) → Each P xs → Each P ys → Each P (xs ++ ys)
each_append P [] ys h k = k
each_append P (b ∷ xs) ys h k = (h.0, each_append P xs ys h.1 k)

pub each_left : (P : Block → Type 0) (xs ys : List Block) → Each P (xs ++ ys) → Each P xs
each_left P [] ys h = tt
each_left P (b ∷ xs) ys h = (h.0, each_left P xs ys h.1)

pub each_right : (P : Block → Type 0) (xs ys : List Block) → Each P (xs ++ ys) → Each P ys
each_right P [] ys h = h
each_right P (b ∷ xs) ys h = each_right P xs ys h.1

pub each_at : (P : Block → Type 0) (xs : List Block) (i : ℕ) (d : Block) → Each P xs → i < length xs → P (get_or xs i d)
each_at P [] i d h less = absurd (omega arith)
each_at P (b ∷ xs) zero d h less = h.0
each_at P (b ∷ xs) (suc i) d h less = each_at P xs i d h.1 (omega arith)

pub head_at : (P : Block → Type 0) (xs : List Block) (i : ℕ) (d : Block) → i < length xs → P (get_or xs i d) → Head P (drop i xs)
head_at P [] i d less h = absurd (omega arith)
head_at P (b ∷ xs) zero d less h = h
head_at P (b ∷ xs) (suc i) d less h = head_at P xs i d (omega arith) h

-- blocks that stand from an address on
pub stand_low : (from end : ℕ) (xs : List Block) → Stand from end xs → Each (λ b. from ≤ b.at) xs
stand_low from end [] h = tt
stand_low from end (b ∷ xs) h = (h.0, each_map (λ c. b.at + b.bytes + 1 ≤ c.at) (λ c. from ≤ c.at) (λ c k. let a = h.0 in omega arith) xs (stand_low (b.at + b.bytes + 1) end xs h.1))

pub stand_end : (from end : ℕ) (xs : List Block) → Stand from end xs → from ≤ end
stand_end from end [] h = h
stand_end from end (b ∷ xs) h = let a = h.0 in let k = stand_end (b.at + b.bytes + 1) end xs h.1 in omega arith

pub stand_high : (from end : ℕ) (xs : List Block) → Stand from end xs → Each (λ b. b.at + b.bytes < end) xs
stand_high from end [] h = tt
stand_high from end (b ∷ xs) h = (let k = stand_end (b.at + b.bytes + 1) end xs h.1 in omega arith, stand_high (b.at + b.bytes + 1) end xs h.1)

-- where one block ends before an address, those before it do too
pub stand_before : (from end at : ℕ) (xs : List Block) (i : ℕ) (d : Block) → Stand from end xs → i < length xs → EndsBefore at (get_or xs i d) → Each (EndsBefore at) (take (suc i) xs)
stand_before from end at [] i d h less e = absurd (omega arith)
stand_before from end at (b ∷ xs) zero d h less e = (e, tt)
stand_before from end at (b ∷ xs) (suc i) d h less e =
    let less : i < length xs = omega arith in
    let far : b.at + b.bytes + 1 ≤ (get_or xs i d).at = each_at (λ c. b.at + b.bytes + 1 ≤ c.at) xs i d (stand_low (b.at + b.bytes + 1) end xs h.1) less in
    (omega arith, stand_before (b.at + b.bytes + 1) end at xs i d h.1 less e)

-- blocks from a number on
pub stand_drop : (from end : ℕ) (xs : List Block) (i : ℕ) (at : ℕ) → Stand from end xs → Head (λ b. at ≤ b.at) (drop i xs) → Each (λ b. at ≤ b.at) (drop i xs)
stand_drop from end [] zero at h k = tt
stand_drop from end [] (suc i) at h k = tt
stand_drop from end (b ∷ xs) zero at h k = (k, each_map (λ c. b.at + b.bytes + 1 ≤ c.at) (λ c. at ≤ c.at) (λ c e. omega arith) xs (stand_low (b.at + b.bytes + 1) end xs h.1))
stand_drop from end (b ∷ xs) (suc i) at h k = stand_drop (b.at + b.bytes + 1) end xs i at h.1 k

-- a list by its first blocks and the others
pub each_parts : (P : Block → Type 0) (xs : List Block) (i : ℕ) → Each P (take i xs) → Each P (drop i xs) → Each P xs
each_parts P [] zero h k = tt
each_parts P [] (suc i) h k = tt
each_parts P (b ∷ xs) zero h k = k
each_parts P (b ∷ xs) (suc i) h k = (h.0, each_parts P xs i h.1 k)

pub each_take : (P : Block → Type 0) (xs : List Block) (i : ℕ) → Each P xs → Each P (take i xs)
each_take P [] zero h = tt
each_take P [] (suc i) h = tt
each_take P (b ∷ xs) zero h = tt
each_take P (b ∷ xs) (suc i) h = (h.0, each_take P xs i h.1)

-- nothing stands past the end
pub head_past : (P : Block → Type 0) (xs : List Block) (i : ℕ) → length xs ≤ i → Head P (drop i xs)
head_past P [] zero less = tt
head_past P [] (suc i) less = tt
head_past P (b ∷ xs) zero less = absurd (omega arith)
head_past P (b ∷ xs) (suc i) less = head_past P xs i (omega arith)

-- a block that came or went
pub each_inserted : (P : Block → Type 0) (xs : List Block) (i : ℕ) (b : Block) → Each P xs → P b → Each P (insert xs i b)
each_inserted P [] zero b h k = (k, tt)
each_inserted P [] (suc i) b h k = (k, tt)
each_inserted P (c ∷ xs) zero b h k = (k, h)
each_inserted P (c ∷ xs) (suc i) b h k = (h.0, each_inserted P xs i b h.1 k)

pub each_removed : (P : Block → Type 0) (xs : List Block) (i : ℕ) → Each P xs → Each P (remove xs i)
each_removed P [] zero h = tt
each_removed P [] (suc i) h = tt
each_removed P (b ∷ xs) zero h = h.1
each_removed P (b ∷ xs) (suc i) h = (h.0, each_removed P xs i h.1)
