-- Two chunks that follow one another, joined.
use Rattle.std.proofs.Common.{◌≡◌, ℕ, zero, suc, ◌+◌, ◌<◌, ◌≤◌, ◌^◌, List, [], ◌∷◌, ◌++◌, length, set, get_or, append_assoc, length-append, refl, ap, sym, subst, ◌∙◌, arith}
use Rattle.std.specs.Prelude.{remove}
use Rattle.porch_heap.specs.Blocks.{Stand}
use Rattle.porch_heap.specs.Chunks.{ChunkState, blocks_of}
use Rattle.porch_heap.specs.inside.ChunkRow.{Linked, blocks_at, after}
use Rattle.porch_heap.proofs.Chunked.{read_blocks, read_stand}
use Rattle.porch_heap.proofs.After.{after_append, stand_append}

-- two chunks replaced by one
abbrev one_for : List ChunkState → ℕ → ChunkState → List ChunkState
one_for cs n y = set (remove cs (suc n)) n y

one_blocks : (cs : List ChunkState) (n : ℕ) (y : ChunkState) → suc n < length cs → y.blocks ≡ blocks_at cs n ++ blocks_at cs (suc n) → blocks_of (one_for cs n y) ≡ blocks_of cs
one_blocks [] n y less e = absurd (omega arith)
one_blocks (c ∷ []) zero y less e = absurd (omega arith)
one_blocks (c ∷ f ∷ cs) zero y less e = ap (λ bs. bs ++ blocks_of cs) e ∙ append_assoc c.blocks f.blocks (blocks_of cs)
one_blocks (c ∷ cs) (suc n) y less e = ap (λ bs. c.blocks ++ bs) (one_blocks cs n y (omega arith) e)

one_linked : (base : ℕ) (cs : List ChunkState) (n : ℕ) (d y : ChunkState) → Linked base cs → suc n < length cs → y.from ≡ (get_or cs n d).from → 0 < length y.blocks → Stand y.from (2 ^ 62) y.blocks → after y.from y.blocks ≡ after (get_or cs (suc n) d).from (get_or cs (suc n) d).blocks → Linked base (one_for cs n y)
one_linked base [] n d y h less from some stand end = absurd (omega arith)
one_linked base (c ∷ []) zero d y h less from some stand end = absurd (omega arith)
one_linked base (c ∷ f ∷ cs) zero d y h less from some stand end =
    let P : ℕ → Type 0 = λ a. Linked a cs in
    (from ∙ h.0, some, stand, subst P (sym end) h.3.3)
one_linked base (c ∷ cs) (suc n) d y h less from some stand end =
    (h.0, h.1, h.2, one_linked (after c.from c.blocks) cs n d y h.3 (omega arith) from some stand end)

next_begins : (base : ℕ) (cs : List ChunkState) (n : ℕ) (d : ChunkState) → Linked base cs → suc n < length cs → (get_or cs (suc n) d).from ≡ after (get_or cs n d).from (get_or cs n d).blocks
next_begins base [] n d h less = absurd (omega arith)
next_begins base (c ∷ []) zero d h less = absurd (omega arith)
next_begins base (c ∷ f ∷ cs) zero d h less = h.3.0
next_begins base (c ∷ cs) (suc n) d h less = next_begins (after c.from c.blocks) cs n d h.3 (omega arith)

has_blocks : (base : ℕ) (cs : List ChunkState) (n : ℕ) (d : ChunkState) → Linked base cs → n < length cs → 0 < length (get_or cs n d).blocks
has_blocks base [] n d h less = absurd (omega arith)
has_blocks base (c ∷ cs) zero d h less = h.1
has_blocks base (c ∷ cs) (suc n) d h less = has_blocks (after c.from c.blocks) cs n d h.3 (omega arith)

-- what is read before the chunk that goes
read_below : (cs : List ChunkState) (n : ℕ) (d : ChunkState) → suc n < length cs → get_or (remove cs (suc n)) n d ≡ get_or cs n d
read_below [] n d less = absurd (omega arith)
read_below (c ∷ cs) zero d less = refl
read_below (c ∷ cs) (suc n) d less = read_below cs n d (omega arith)

read_other : (cs : List ChunkState) (n : ℕ) (d e : ChunkState) → n < length cs → get_or cs n d ≡ get_or cs n e
read_other [] n d e less = absurd (omega arith)
read_other (c ∷ cs) zero d e less = refl
read_other (c ∷ cs) (suc n) d e less = read_other cs n d e (omega arith)

-- the upper chunk as it was taken out, and the lower one as it was read then
pub record IsPair (base : ℕ) (cs ds : List ChunkState) (n : ℕ) (lo up : ChunkState) : Type 0 where
  pub linked : Linked base cs
  pub within : n + 1 < length cs
  pub upper : up ≡ get_or cs (n + 1) up
  pub gone : ds ≡ remove cs (n + 1)
  pub lower : lo ≡ get_or ds n lo

its_less : {base : ℕ} {cs ds : List ChunkState} {n : ℕ} {lo up : ChunkState} → IsPair base cs ds n lo up → suc n < length cs
its_less p = let w = p.within in omega arith

its_lower : {base : ℕ} {cs ds : List ChunkState} {n : ℕ} {lo up : ChunkState} → IsPair base cs ds n lo up → lo ≡ get_or cs n up
its_lower {base} {cs} {ds} {n} {lo} {up} p =
    let less : suc n < length cs = its_less p in
    let next : n + 1 ≡ suc n = omega arith in
    p.lower
    ∙ ap (λ (es : List ChunkState). get_or es n lo) p.gone
    ∙ ap (λ (k : ℕ). get_or (remove cs k) n lo) next
    ∙ read_below cs n lo less
    ∙ read_other cs n lo up (omega arith)

its_upper : {base : ℕ} {cs ds : List ChunkState} {n : ℕ} {lo up : ChunkState} → IsPair base cs ds n lo up → up ≡ get_or cs (suc n) up
its_upper {base} {cs} {ds} {n} {lo} {up} p = (let next : n + 1 ≡ suc n = omega arith in p.upper ∙ ap (λ (k : ℕ). get_or cs k up) next)

pub pair_next : {base : ℕ} {cs ds : List ChunkState} {n : ℕ} {lo up : ChunkState} → IsPair base cs ds n lo up → up.from ≡ after lo.from lo.blocks
pair_next {base} {cs} {ds} {n} {lo} {up} p =
    ap (λ (z : ChunkState). z.from) (its_upper p)
    ∙ next_begins base cs n up p.linked (its_less p)
    ∙ sym (ap (λ (z : ChunkState). after z.from z.blocks) (its_lower p))

lower_blocks : {base : ℕ} {cs ds : List ChunkState} {n : ℕ} {lo up : ChunkState} → IsPair base cs ds n lo up → lo.blocks ≡ blocks_at cs n
lower_blocks {base} {cs} {ds} {n} {lo} {up} p =
    let less : suc n < length cs = its_less p in
    ap (λ (z : ChunkState). z.blocks) (its_lower p) ∙ read_blocks cs n up (omega arith)

upper_blocks : {base : ℕ} {cs ds : List ChunkState} {n : ℕ} {lo up : ChunkState} → IsPair base cs ds n lo up → up.blocks ≡ blocks_at cs (suc n)
upper_blocks {base} {cs} {ds} {n} {lo} {up} p = ap (λ (z : ChunkState). z.blocks) (its_upper p) ∙ read_blocks cs (suc n) up (its_less p)

pub pair_fits : {base : ℕ} {cs ds : List ChunkState} {n : ℕ} {lo up : ChunkState} → length (blocks_at cs n) + length (blocks_at cs (n + 1)) ≤ 128 → IsPair base cs ds n lo up → length lo.blocks + length up.blocks ≤ 128
pair_fits {base} {cs} {ds} {n} {lo} {up} fits p =
    let next : n + 1 ≡ suc n = omega arith in
    let e = ap length (lower_blocks p) in
    let f = ap length (upper_blocks p) in
    let g = ap (λ (k : ℕ). length (blocks_at cs k)) next in
    omega arith

joined : {base : ℕ} {cs ds : List ChunkState} {n : ℕ} {lo up : ChunkState} (y : ChunkState) → IsPair base cs ds n lo up → set ds n y ≡ one_for cs n y
joined {base} {cs} {ds} {n} {lo} {up} y p =
    let next : n + 1 ≡ suc n = omega arith in
    ap (λ (es : List ChunkState). set es n y) p.gone ∙ ap (λ (k : ℕ). set (remove cs k) n y) next

pub pair_blocks : {base : ℕ} {cs ds : List ChunkState} {n : ℕ} {lo up : ChunkState} (y : ChunkState) → y ≡ record { from = lo.from; blocks = lo.blocks ++ up.blocks } → IsPair base cs ds n lo up → blocks_of (set ds n y) ≡ blocks_of cs
pair_blocks {base} {cs} {ds} {n} {lo} {up} y e p =
    ap blocks_of (joined y p)
    ∙ one_blocks cs n y (its_less p) (ap (λ (z : ChunkState). z.blocks) e ∙ ap (λ bs. bs ++ up.blocks) (lower_blocks p) ∙ ap (λ bs. blocks_at cs n ++ bs) (upper_blocks p))

pub pair_linked : {base : ℕ} {cs ds : List ChunkState} {n : ℕ} {lo up : ChunkState} (y : ChunkState) → y ≡ record { from = lo.from; blocks = lo.blocks ++ up.blocks } → IsPair base cs ds n lo up → Linked base (set ds n y)
pair_linked {base} {cs} {ds} {n} {lo} {up} y e p =
    let less : suc n < length cs = its_less p in
    let low : n < length cs = omega arith in
    let C : ChunkState → Type 0 = λ z. Stand z.from (2 ^ 62) z.blocks in
    let N : ChunkState → Type 0 = λ z. 0 < length z.blocks in
    let first : Stand lo.from (2 ^ 62) lo.blocks = subst C (sym (its_lower p)) (read_stand base cs n up p.linked low) in
    let second : Stand up.from (2 ^ 62) up.blocks = subst C (sym (its_upper p)) (read_stand base cs (suc n) up p.linked less) in
    let begins : up.from ≡ after lo.from lo.blocks = pair_next p in
    let S : ℕ → Type 0 = λ a. Stand a (2 ^ 62) up.blocks in
    let stand = stand_append lo.from (2 ^ 62) lo.blocks up.blocks first (subst S begins second) in
    let some : 0 < length lo.blocks = subst N (sym (its_lower p)) (has_blocks base cs n up p.linked low) in
    let longer = length-append lo.blocks up.blocks in
    let end = after_append lo.from lo.blocks up.blocks ∙ ap (λ (a : ℕ). after a up.blocks) (sym begins) ∙ ap (λ (z : ChunkState). after z.from z.blocks) (its_upper p) in
    let P : List ChunkState → Type 0 = λ es. Linked base es in
    let both : ChunkState = record { from = lo.from; blocks = lo.blocks ++ up.blocks } in
    subst P (sym (joined y p ∙ ap (λ (z : ChunkState). one_for cs n z) e))
    (one_linked base cs n up both p.linked less (ap (λ (z : ChunkState). z.from) (its_lower p)) (omega arith) stand end)
