-- The blocks of chunks that follow one another, and those of one of the chunks among them.
use Rattle.std.proofs.Common.{◌≡◌, ℕ, zero, suc, ◌+◌, ◌-◌, ◌<◌, ◌≤◌, ◌^◌, List, [], ◌∷◌, ◌++◌, length, take, drop, get_or, max, refl, ap, sym, ◌∙◌, arith, append_assoc}
use Rattle.std.proofs.lemmas.List.{append-nil, take_all}
use Rattle.porch_heap.specs.declared.block.Block.{Block}
use Rattle.porch_heap.specs.Blocks.{Each, Stand}
use Rattle.porch_heap.specs.inside.Searching.{EndsBefore}
use Rattle.porch_heap.specs.Chunks.{ChunkState, blocks_of}
use Rattle.porch_heap.specs.inside.ChunkRow.{Linked, blocks_at, after, widest}
use Rattle.porch_heap.proofs.Lists.{each_append, each_right, each_map, stand_low, stand_end}
use Rattle.porch_heap.proofs.Chunked.{blocks_of_parts, read_blocks, read_from}
use Rattle.porch_heap.proofs.After.{after_append, after_high, ends_after, stand_append, widest_append}

-- the blocks of the chunks up to one, of that one and of those behind it
pub blocks_of_more : (cs : List ChunkState) (n : ℕ) → blocks_of (take (suc n) cs) ≡ blocks_of (take n cs) ++ blocks_at cs n
blocks_of_more [] zero = refl
blocks_of_more [] (suc n) = refl
blocks_of_more (c ∷ cs) zero = append-nil c.blocks
blocks_of_more (c ∷ cs) (suc n) = rw (blocks_of_more cs n) (sym (append_assoc c.blocks (blocks_of (take n cs)) (blocks_at cs n)))

-- where the chunk of a number begins, its blocks, and what follows from there
pub linked_from : (base : ℕ) (cs : List ChunkState) (n : ℕ) (c : ChunkState) → Linked base cs → n < length cs → c ≡ get_or cs n c → c.from ≡ after base (blocks_of (take n cs))
linked_from base cs n c h less is = ap (λ x. x.from) is ∙ read_from base cs n c h less

pub linked_blocks : (cs : List ChunkState) (n : ℕ) (c : ChunkState) → n < length cs → c ≡ get_or cs n c → c.blocks ≡ blocks_at cs n
linked_blocks cs n c less is = ap (λ x. x.blocks) is ∙ read_blocks cs n c less

pub linked_drop : (base : ℕ) (cs : List ChunkState) (n : ℕ) → Linked base cs → Linked (after base (blocks_of (take n cs))) (drop n cs)
linked_drop base [] zero h = tt
linked_drop base [] (suc n) h = tt
linked_drop base (c ∷ cs) zero h = h
linked_drop base (c ∷ cs) (suc n) h = rw (after_append base c.blocks (blocks_of (take n cs)), ← h.0) (linked_drop (after c.from c.blocks) cs n h.3)

pub linked_take : (base : ℕ) (cs : List ChunkState) (n : ℕ) → Linked base cs → Linked base (take n cs)
linked_take base [] zero h = tt
linked_take base [] (suc n) h = tt
linked_take base (c ∷ cs) zero h = tt
linked_take base (c ∷ cs) (suc n) h = (h.0, h.1, h.2, linked_take (after c.from c.blocks) cs n h.3)

-- the blocks of all chunks stand one behind the other
pub linked_stand : (base : ℕ) (cs : List ChunkState) → base ≤ 2 ^ 62 → Linked base cs → Stand base (2 ^ 62) (blocks_of cs)
linked_stand base [] low h = low
linked_stand base (c ∷ cs) low h =
    rw (← h.0) (stand_append c.from (2 ^ 62) c.blocks (blocks_of cs) h.2 (linked_stand (after c.from c.blocks) cs (after_high c.from (2 ^ 62) c.blocks h.2) h.3))

pub linked_base : (base : ℕ) (cs : List ChunkState) → Linked base cs → 0 < length cs → base ≤ 2 ^ 62
linked_base base [] h some = absurd (omega arith)
linked_base base (c ∷ cs) h some = let low = stand_end c.from (2 ^ 62) c.blocks h.2 in let e = h.0 in omega arith

-- the blocks of the chunks before one end before an address at or behind its own
pub ends_linked : (base : ℕ) (cs : List ChunkState) (n : ℕ) (c : ChunkState) (at : ℕ) → Linked base cs → n < length cs → c ≡ get_or cs n c → c.from ≤ at → Each (EndsBefore at) (blocks_of (take n cs))
ends_linked base cs n c at h less is low =
    let from = linked_from base cs n c h less is in
    let base_low = linked_base base cs h (omega arith) in
    ends_after base (2 ^ 62) at (blocks_of (take n cs)) (linked_stand base (take n cs) base_low (linked_take base cs n h)) (omega arith)

-- the blocks of the chunks from one on begin behind an address before its own
pub begins_linked : (base : ℕ) (cs : List ChunkState) (n : ℕ) (c : ChunkState) (at : ℕ) → Linked base cs → n < length cs → c ≡ get_or cs n c → at < c.from → Each (λ b. at + 1 ≤ b.at) (blocks_of (drop n cs))
begins_linked base cs n c at h less is above =
    let from = linked_from base cs n c h less is in
    let low = after base (blocks_of (take n cs)) in
    each_map (λ b. low ≤ b.at) (λ b. at + 1 ≤ b.at) (λ b k. omega arith) (blocks_of (drop n cs)) (linked_low low (drop n cs) (linked_drop base cs n h))
  where
    linked_low : (base : ℕ) (cs : List ChunkState) → Linked base cs → Each (λ b. base ≤ b.at) (blocks_of cs)
    linked_low base [] h = tt
    linked_low base (c ∷ cs) h = stand_low base (2 ^ 62) (blocks_of (c ∷ cs)) (linked_stand base (c ∷ cs) (linked_base base (c ∷ cs) h (omega arith)) h)

-- what holds of the blocks of chunks from a number on, of which the first may go
pub each_drop_more : (P : Block → Type 0) (cs : List ChunkState) (n : ℕ) → Each P (blocks_of (drop n cs)) → Each P (blocks_of (drop (suc n) cs))
each_drop_more P [] zero h = tt
each_drop_more P [] (suc n) h = tt
each_drop_more P (c ∷ cs) zero h = each_right P c.blocks (blocks_of cs) h
each_drop_more P (c ∷ cs) (suc n) h = each_drop_more P cs n h

-- what holds of the blocks of chunks from a number on holds of those behind the chunk before it
pub each_behind : (P : Block → Type 0) (cs : List ChunkState) (high n : ℕ) → n ≡ high - 1 → Each P (blocks_of (drop high cs)) → Each P (blocks_of (drop (n + 1) cs))
each_behind P cs zero n e h = let next : n + 1 ≡ suc 0 = omega arith in rw next (each_drop_more P cs zero h)
each_behind P cs (suc m) n e h = let next : n + 1 ≡ suc m = omega arith in rw next h

-- what holds of each block of the chunks before one, of its own and of those behind it
pub each_chunks : (P : Block → Type 0) (cs : List ChunkState) (n : ℕ) → Each P (blocks_of (take n cs)) → Each P (blocks_at cs n) → Each P (blocks_of (drop (suc n) cs)) → Each P (blocks_of cs)
each_chunks P cs n before here behind =
    rw (blocks_of_parts cs n) (each_append P (blocks_of (take n cs)) (blocks_at cs n ++ blocks_of (drop (suc n) cs)) before (each_append P (blocks_at cs n) (blocks_of (drop (suc n) cs)) here behind))

-- where bytes begin to be free behind the last chunk
pub after_last : (base : ℕ) (cs : List ChunkState) (n : ℕ) (c : ChunkState) → Linked base cs → n < length cs → length cs ≤ suc n → c ≡ get_or cs n c → after c.from c.blocks ≡ after base (blocks_of cs)
after_last base cs n c h less all is =
    rw (linked_from base cs n c h less is, linked_blocks cs n c less is)
    (sym (after_append base (blocks_of (take n cs)) (blocks_at cs n)) ∙ ap (after base) (sym (blocks_of_more cs n) ∙ ap blocks_of (take_all (suc n) cs all)))

-- the most bytes before a block, with one chunk more
pub widest_more : (base : ℕ) (cs : List ChunkState) (n : ℕ) (c : ChunkState) → Linked base cs → n < length cs → c ≡ get_or cs n c → widest base (blocks_of (take (suc n) cs)) ≡ max (widest base (blocks_of (take n cs))) (widest c.from c.blocks)
widest_more base cs n c h less is =
    rw (linked_from base cs n c h less is, linked_blocks cs n c less is, blocks_of_more cs n) (widest_append base (blocks_of (take n cs)) (blocks_at cs n))
