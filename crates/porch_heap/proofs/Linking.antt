-- Chunks that follow one another, after a change.
use Rattle.std.proofs.Common.{◌≡◌, ℕ, zero, suc, ◌+◌, ◌<◌, ◌≤◌, ◌^◌, List, [], ◌∷◌, ◌++◌, length, set, get_or, refl, ap, sym, subst, ◌∙◌, arith}
use Rattle.std.specs.Prelude.{insert, remove}
use Rattle.porch_heap.specs.declared.block.Block.{Block}
use Rattle.porch_heap.specs.Blocks.{Stand}
use Rattle.porch_heap.specs.inside.Searching.{Head}
use Rattle.porch_heap.specs.Chunks.{ChunkState, blocks_of}
use Rattle.porch_heap.specs.inside.ChunkRow.{Linked, blocks_at, begun, after}
use Rattle.porch_heap.proofs.Changes.{stand_from}
use Rattle.porch_heap.proofs.After.{after_above}

-- a block that comes before another leaves the end
pub after_insert : (from : ℕ) (xs : List Block) (i : ℕ) (b : Block) → i < length xs → after from (insert xs i b) ≡ after from xs
after_insert from [] i b less = absurd (omega arith)
after_insert from (c ∷ xs) zero b less = refl
after_insert from (c ∷ xs) (suc i) b less = after_insert (c.at + c.bytes + 1) xs i b (omega arith)

-- where blocks end doesn't depend on where the bytes before the first begin
pub after_some : (from other : ℕ) (xs : List Block) → 0 < length xs → after from xs ≡ after other xs
after_some from other [] some = absurd (omega arith)
after_some from other (b ∷ xs) some = refl

-- a block that goes leaves the end or draws it back
pub after_remove : (from end : ℕ) (xs : List Block) (i : ℕ) → Stand from end xs → after from (remove xs i) ≤ after from xs
after_remove from end [] zero h = omega arith
after_remove from end [] (suc i) h = omega arith
after_remove from end (b ∷ []) zero h = let k = h.0 in omega arith
after_remove from end (b ∷ c ∷ xs) zero h = omega arith
after_remove from end (b ∷ xs) (suc i) h = after_remove (b.at + b.bytes + 1) end xs i h.1

-- one chunk replaced that begins and ends where it did
pub linked_set : (base : ℕ) (cs : List ChunkState) (n : ℕ) (d y : ChunkState) → Linked base cs → n < length cs → y.from ≡ (get_or cs n d).from → 0 < length y.blocks → Stand y.from (2 ^ 62) y.blocks → after y.from y.blocks ≡ after (get_or cs n d).from (get_or cs n d).blocks → Linked base (set cs n y)
linked_set base [] n d y h less from some stand end = absurd (omega arith)
linked_set base (c ∷ cs) zero d y h less from some stand end =
    let P : ℕ → Type 0 = λ a. Linked a cs in
    (from ∙ h.0, some, stand, subst P (sym end) h.3)
linked_set base (c ∷ cs) (suc n) d y h less from some stand end =
    (h.0, h.1, h.2, linked_set (after c.from c.blocks) cs n d y h.3 (omega arith) from some stand end)

-- chunks that take over the free bytes before them
pub linked_begun : (low from : ℕ) (cs : List ChunkState) → low ≤ from → Linked from cs → Linked low (begun cs 0 low)
linked_begun low from [] less h = tt
linked_begun low from (c ∷ cs) less h =
    let a = h.0 in
    let P : ℕ → Type 0 = λ e. Linked e cs in
    (refl, h.1, stand_from low c.from (2 ^ 62) c.blocks (omega arith) h.2, subst P (after_some c.from low c.blocks h.1) h.3)

pub blocks_of_begun : (cs : List ChunkState) (n from : ℕ) → blocks_of (begun cs n from) ≡ blocks_of cs
blocks_of_begun [] n from = refl
blocks_of_begun (c ∷ cs) zero from = refl
blocks_of_begun (c ∷ cs) (suc n) from = ap (λ bs. c.blocks ++ bs) (blocks_of_begun cs n from)

pub begun_set : (cs : List ChunkState) (n from : ℕ) (d y : ChunkState) → n < length cs → y ≡ record { from = from; blocks = (get_or cs n d).blocks } → set cs n y ≡ begun cs n from
begun_set [] n from d y less e = absurd (omega arith)
begun_set (c ∷ cs) zero from d y less e = ap (λ (z : ChunkState). z ∷ cs) e
begun_set (c ∷ cs) (suc n) from d y less e = ap (λ ds. c ∷ ds) (begun_set cs n from d y (omega arith) e)

pub begun_same : (cs : List ChunkState) (n from : ℕ) (d : ChunkState) → from ≡ (get_or cs n d).from → cs ≡ begun cs n from
begun_same [] n from d e = refl
begun_same (c ∷ cs) zero from d e = ap (λ (a : ℕ). (let s : ChunkState = record { from = a; blocks = c.blocks } in s) ∷ cs) (sym e)
begun_same (c ∷ cs) (suc n) from d e = ap (λ ds. c ∷ ds) (begun_same cs n from d e)

pub begun_past : (cs : List ChunkState) (n from : ℕ) → length cs ≤ n → cs ≡ begun cs n from
begun_past [] n from past = refl
begun_past (c ∷ cs) zero from past = absurd (omega arith)
begun_past (c ∷ cs) (suc n) from past = ap (λ ds. c ∷ ds) (begun_past cs n from (omega arith))

-- one chunk replaced that ends at or before where it did, and the next begins there
pub linked_shrunk : (base : ℕ) (cs : List ChunkState) (n : ℕ) (d y : ChunkState) → Linked base cs → n < length cs → y.from ≡ (get_or cs n d).from → 0 < length y.blocks → Stand y.from (2 ^ 62) y.blocks → after y.from y.blocks ≤ after (get_or cs n d).from (get_or cs n d).blocks → Linked base (begun (set cs n y) (suc n) (after y.from y.blocks))
linked_shrunk base [] n d y h less from some stand end = absurd (omega arith)
linked_shrunk base (c ∷ cs) zero d y h less from some stand end =
    (from ∙ h.0, some, stand, linked_begun (after y.from y.blocks) (after c.from c.blocks) cs end h.3)
linked_shrunk base (c ∷ cs) (suc n) d y h less from some stand end =
    (h.0, h.1, h.2, linked_shrunk (after c.from c.blocks) cs n d y h.3 (omega arith) from some stand end)

-- the chunk behind one
pub blocks_set_next : (cs : List ChunkState) (n : ℕ) (y : ChunkState) → blocks_at (set cs n y) (suc n) ≡ blocks_at cs (suc n)
blocks_set_next [] n y = refl
blocks_set_next (c ∷ cs) zero y = refl
blocks_set_next (c ∷ cs) (suc n) y = blocks_set_next cs n y

head_stand : (low from end : ℕ) (xs : List Block) → low ≤ from → Stand from end xs → Head (λ b. low ≤ b.at) xs
head_stand low from end [] less h = tt
head_stand low from end (b ∷ xs) less h = let k = h.0 in omega arith

pub next_head : (base : ℕ) (cs : List ChunkState) (n low : ℕ) (d : ChunkState) → Linked base cs → n < length cs → low ≤ after (get_or cs n d).from (get_or cs n d).blocks → Head (λ b. low ≤ b.at) (blocks_at cs (suc n))
next_head base [] n low d h less near = absurd (omega arith)
next_head base (c ∷ []) zero low d h less near = tt
next_head base (c ∷ e ∷ cs) zero low d h less near = let k = h.3.0 in head_stand low e.from (2 ^ 62) e.blocks (omega arith) h.3.2
next_head base (c ∷ cs) (suc n) low d h less near = next_head (after c.from c.blocks) cs n low d h.3 (omega arith) near

-- one chunk gone, and the next begins where it did
pub linked_dropped : (base : ℕ) (cs : List ChunkState) (n : ℕ) (d : ChunkState) → Linked base cs → n < length cs → Linked base (begun (remove cs n) n (get_or cs n d).from)
linked_dropped base [] n d h less = absurd (omega arith)
linked_dropped base (c ∷ cs) zero d h less =
    let far : c.from ≤ after c.from c.blocks = after_above c.from (2 ^ 62) c.blocks h.2 in
    let P : ℕ → Type 0 = λ a. Linked a (begun cs 0 c.from) in
    subst P h.0 (linked_begun c.from (after c.from c.blocks) cs far h.3)
linked_dropped base (c ∷ cs) (suc n) d h less =
    (h.0, h.1, h.2, linked_dropped (after c.from c.blocks) cs n d h.3 (omega arith))
