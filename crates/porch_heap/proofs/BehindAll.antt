-- A block that comes behind all.
use Rattle.std.proofs.Common.{◌≡◌, ℕ, zero, suc, ◌+◌, ◌<◌, ◌≤◌, ◌^◌, List, [], ◌∷◌, ◌++◌, length, take, drop, set, get_or, append_assoc, append-nil, ap, sym, subst, ◌∙◌, arith}
use Rattle.std.specs.Prelude.{insert}
use Rattle.std.proofs.lemmas.List.{take_all}
use Rattle.std.proofs.lemmas.List.Edits.{insert_end, length-insert}
use Rattle.porch_heap.specs.declared.block.Block.{Block}
use Rattle.porch_heap.specs.Blocks.{Each, Stand}
use Rattle.porch_heap.specs.inside.Searching.{Divides, EndsBefore, BeginsBehind}
use Rattle.porch_heap.specs.Chunks.{ChunkState, blocks_of}
use Rattle.porch_heap.specs.inside.ChunkRow.{Linked, blocks_at, after}
use Rattle.porch_heap.proofs.Lists.{each_left, each_right, head_past}
use Rattle.porch_heap.proofs.After.{after_append, after_ends}
use Rattle.porch_heap.proofs.Changes.{stand_insert}
use Rattle.porch_heap.proofs.Chunked.{read_blocks, read_from, read_stand, blocks_of_parts, blocks_of_append}

-- one chunk more
pub more_linked : (base : ℕ) (cs : List ChunkState) (y : ChunkState) → Linked base cs → y.from ≡ after base (blocks_of cs) → 0 < length y.blocks → Stand y.from (2 ^ 62) y.blocks → Linked base (cs ++ y ∷ [])
more_linked base [] y h from some stand = (from, some, stand, tt)
more_linked base (c ∷ cs) y h from some stand =
    let same : after base c.blocks ≡ after c.from c.blocks = ap (λ (a : ℕ). after a c.blocks) (sym h.0) in
    let begins : y.from ≡ after (after c.from c.blocks) (blocks_of cs) = from ∙ after_append base c.blocks (blocks_of cs) ∙ ap (λ (a : ℕ). after a (blocks_of cs)) same in
    (h.0, h.1, h.2, more_linked (after c.from c.blocks) cs y h.3 begins some stand)

pub more_blocks : (cs : List ChunkState) (y : ChunkState) (b : Block) → y.blocks ≡ b ∷ [] → blocks_of (cs ++ y ∷ []) ≡ blocks_of cs ++ b ∷ []
more_blocks cs y b e = blocks_of_append cs (y ∷ []) ∙ ap (λ bs. blocks_of cs ++ bs) (append-nil y.blocks ∙ e)

-- a chunk of one block, behind all
pub alone_linked : (base : ℕ) (cs : List ChunkState) (b : Block) (from : ℕ) (y : ChunkState) → Linked base cs → from ≡ after base (blocks_of cs) → from ≤ b.at → b.at + b.bytes < 2 ^ 62 → y ≡ record { from = from; blocks = b ∷ [] } → Linked base (cs ++ y ∷ [])
alone_linked base cs b from y h begins low high e =
    let P : ChunkState → Type 0 = λ z. Linked base (cs ++ z ∷ []) in
    subst P (sym e) (more_linked base cs (record { from = from; blocks = b ∷ [] }) h begins (omega arith) (low, omega arith))

-- the last chunk replaced
end_blocks : (cs : List ChunkState) (n : ℕ) (d y : ChunkState) (b : Block) → n + 1 ≡ length cs → y.blocks ≡ (get_or cs n d).blocks ++ b ∷ [] → blocks_of (set cs n y) ≡ blocks_of cs ++ b ∷ []
end_blocks [] n d y b last e = absurd (omega arith)
end_blocks (c ∷ []) zero d y b last e = append-nil y.blocks ∙ e ∙ ap (λ bs. bs ++ b ∷ []) (sym (append-nil c.blocks))
end_blocks (c ∷ f ∷ cs) zero d y b last e = absurd (omega arith)
end_blocks (c ∷ cs) (suc n) d y b last e = ap (λ bs. c.blocks ++ bs) (end_blocks cs n d y b (omega arith) e) ∙ sym (append_assoc c.blocks (blocks_of cs) (b ∷ []))

end_linked : (base : ℕ) (cs : List ChunkState) (n : ℕ) (d y : ChunkState) → Linked base cs → n + 1 ≡ length cs → y.from ≡ (get_or cs n d).from → 0 < length y.blocks → Stand y.from (2 ^ 62) y.blocks → Linked base (set cs n y)
end_linked base [] n d y h last from some stand = absurd (omega arith)
end_linked base (c ∷ []) zero d y h last from some stand = (from ∙ h.0, some, stand, tt)
end_linked base (c ∷ f ∷ cs) zero d y h last from some stand = absurd (omega arith)
end_linked base (c ∷ cs) (suc n) d y h last from some stand = (h.0, h.1, h.2, end_linked (after c.from c.blocks) cs n d y h.3 (omega arith) from some stand)

-- the last chunk as it was read, and a block that comes behind all
pub record IsLast (base : ℕ) (cs : List ChunkState) (n : ℕ) (b : Block) (x : ChunkState) : Type 0 where
  pub linked : Linked base cs
  pub last : n + 1 ≡ length cs
  pub read : x ≡ get_or cs n x
  pub low : base ≤ b.at
  pub before : Each (EndsBefore b.at) (blocks_of cs)
  pub high : b.at + b.bytes < 2 ^ 62

split_before : {base : ℕ} {cs : List ChunkState} {n : ℕ} {b : Block} {x : ChunkState} → IsLast base cs n b x → Each (EndsBefore b.at) (blocks_of (take n cs)) × Each (EndsBefore b.at) x.blocks
split_before {base} {cs} {n} {b} {x} l =
    let last = l.last in
    let less : n < length cs = omega arith in
    let whole = subst (Each (EndsBefore b.at)) (blocks_of_parts cs n) l.before in
    let here : blocks_at cs n ≡ x.blocks = sym (read_blocks cs n x less) ∙ sym (ap (λ (z : ChunkState). z.blocks) l.read) in
    let right = each_right (EndsBefore b.at) (blocks_of (take n cs)) (blocks_at cs n ++ blocks_of (drop (suc n) cs)) whole in (
      each_left (EndsBefore b.at) (blocks_of (take n cs)) (blocks_at cs n ++ blocks_of (drop (suc n) cs)) whole,
      subst (Each (EndsBefore b.at)) here (each_left (EndsBefore b.at) (blocks_at cs n) (blocks_of (drop (suc n) cs)) right),
    )

pub last_low : {base : ℕ} {cs : List ChunkState} {n : ℕ} {b : Block} {x : ChunkState} → IsLast base cs n b x → x.from ≤ b.at
last_low {base} {cs} {n} {b} {x} l =
    let last = l.last in
    let begins = ap (λ (z : ChunkState). z.from) l.read ∙ read_from base cs n x l.linked (omega arith) in
    let far = after_ends base b.at (blocks_of (take n cs)) l.low (split_before l).0 in
    omega arith

pub last_place : {base : ℕ} {cs : List ChunkState} {n : ℕ} {b : Block} {x : ChunkState} (i : ℕ) → i ≡ length x.blocks → IsLast base cs n b x → Divides x.blocks i b.at b.bytes
last_place {base} {cs} {n} {b} {x} i e l = record {
  within = omega arith;
  before = subst (Each (EndsBefore b.at)) (sym (take_all i x.blocks (omega arith))) (split_before l).1;
  behind = head_past (BeginsBehind (b.at + b.bytes)) x.blocks i (omega arith);
}

pub last_blocks : {base : ℕ} {cs : List ChunkState} {n : ℕ} {b : Block} {x : ChunkState} (i : ℕ) (y : ChunkState) → i ≡ length x.blocks → y ≡ record { from = x.from; blocks = insert x.blocks i b } → IsLast base cs n b x → blocks_of (set cs n y) ≡ blocks_of cs ++ b ∷ []
last_blocks {base} {cs} {n} {b} {x} i y e f l =
    end_blocks cs n x y b l.last
    (ap (λ (z : ChunkState). z.blocks) f ∙ ap (λ (k : ℕ). insert x.blocks k b) e ∙ insert_end x.blocks b ∙ ap (λ (z : ChunkState). z.blocks ++ b ∷ []) l.read)

pub last_linked : {base : ℕ} {cs : List ChunkState} {n : ℕ} {b : Block} {x : ChunkState} (i : ℕ) (y : ChunkState) → i ≡ length x.blocks → y ≡ record { from = x.from; blocks = insert x.blocks i b } → IsLast base cs n b x → Linked base (set cs n y)
last_linked {base} {cs} {n} {b} {x} i y e f l =
    let last = l.last in
    let here = last_place i e l in
    let far = last_low l in
    let C : ChunkState → Type 0 = λ z. Stand z.from (2 ^ 62) z.blocks in
    let stand : Stand x.from (2 ^ 62) x.blocks = subst C (sym l.read) (read_stand base cs n x l.linked (omega arith)) in
    let longer = length-insert x.blocks i b (omega arith) in
    let P : ChunkState → Type 0 = λ z. Linked base (set cs n z) in
    subst P (sym f) (end_linked base cs n x (record { from = x.from; blocks = insert x.blocks i b }) l.linked l.last (ap (λ (z : ChunkState). z.from) l.read) (omega arith) (stand_insert x.from (2 ^ 62) x.blocks i b stand (omega arith) far here.before here.behind l.high))

-- two reads of one chunk
pub read_twice : (cs : List ChunkState) (n : ℕ) (x z : ChunkState) → n < length cs → x ≡ get_or cs n x → z ≡ get_or cs n z → length x.blocks ≡ length z.blocks
read_twice cs n x z less e f =
    ap (λ (y : ChunkState). length y.blocks) e ∙ ap length (read_blocks cs n x less) ∙ sym (ap length (read_blocks cs n z less)) ∙ sym (ap (λ (y : ChunkState). length y.blocks) f)
