-- How many blocks the first chunks have.
use Rattle.std.proofs.Common.{◌≡◌, ℕ, zero, suc, ◌+◌, ◌*◌, ◌%◌, ◌<◌, ◌≤◌, List, [], ◌∷◌, length, take, length-append, ap, arith}
use Rattle.porch_heap.specs.Chunks.{ChunkState, blocks_of}
use Rattle.porch_heap.specs.inside.ChunkRow.{blocks_at}

counted_next : (cs : List ChunkState) (n : ℕ) → n < length cs → length (blocks_of (take (suc n) cs)) ≡ length (blocks_of (take n cs)) + length (blocks_at cs n)
counted_next [] n less = absurd (omega arith)
counted_next (c ∷ cs) zero less = let e = length-append c.blocks [] in omega arith
counted_next (c ∷ cs) (suc n) less =
    let e = counted_next cs n (omega arith) in
    let f = length-append c.blocks (blocks_of (take (suc n) cs)) in
    let g = length-append c.blocks (blocks_of (take n cs)) in
    omega arith

pub counted_pair : (cs : List ChunkState) (n : ℕ) → n + 1 < length cs → length (blocks_of (take (n + 2) cs)) ≡ length (blocks_of (take n cs)) + length (blocks_at cs n) + length (blocks_at cs (n + 1))
counted_pair cs n less =
    let one : suc n ≡ n + 1 = omega arith in
    let two : n + 2 ≡ suc (suc n) = omega arith in
    let e = counted_next cs n (omega arith) in
    let f = counted_next cs (suc n) (omega arith) in
    let g = ap (λ (k : ℕ). length (blocks_of (take k cs))) two in
    let h = ap (λ (k : ℕ). length (blocks_at cs k)) one in
    omega arith

pub counted_few : (cs : List ChunkState) (n : ℕ) → length (blocks_of (take n cs)) ≤ length (blocks_of cs)
counted_few [] zero = omega arith
counted_few [] (suc n) = omega arith
counted_few (c ∷ cs) zero = omega arith
counted_few (c ∷ cs) (suc n) =
    let e = counted_few cs n in
    let f = length-append c.blocks (blocks_of (take n cs)) in
    let g = length-append c.blocks (blocks_of cs) in
    omega arith

-- the pairs of chunks before a number are each too long for one
pub record AreFull (cs : List ChunkState) (n : ℕ) : Type 0 where
  pub even : n % 2 ≡ 0
  pub below : n < 1024
  pub many : 129 * n ≤ 2 * length (blocks_of (take n cs))

pub next_full : (cs : List ChunkState) (n : ℕ) → length cs ≡ 1024 → length (blocks_of cs) ≤ 65536 → AreFull cs n → 128 < length (blocks_at cs n) + length (blocks_at cs (n + 1)) → AreFull cs (n + 2)
next_full cs n all few f long =
    let even = f.even in
    let below = f.below in
    let many = f.many in
    let pair = counted_pair cs n (omega arith) in
    let most = counted_few cs (n + 2) in
    record { even = omega arith; below = omega arith; many = omega arith }
