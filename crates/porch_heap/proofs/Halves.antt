-- A full chunk split in two.
use Rattle.std.proofs.Common.{◌≡◌, ℕ, zero, suc, ◌+◌, ◌-◌, ◌<◌, ◌≤◌, ◌^◌, List, [], ◌∷◌, ◌++◌, length, take, drop, set, get_or, append_assoc, length-append, length-take, length-drop, take-append-drop, refl, ap, sym, subst, ◌∙◌, arith}
use Rattle.std.specs.Prelude.{insert}
use Rattle.porch_heap.specs.Blocks.{Stand}
use Rattle.porch_heap.specs.Chunks.{ChunkState, blocks_of}
use Rattle.porch_heap.specs.inside.ChunkRow.{Linked, blocks_at, rank, after}
use Rattle.porch_heap.proofs.Chunked.{read_blocks, read_stand}
use Rattle.porch_heap.proofs.After.{after_append, stand_take, stand_rest}

-- a chunk replaced by two
abbrev pub two_for : List ChunkState → ℕ → ChunkState → ChunkState → List ChunkState
two_for cs n lo up = insert (set cs n lo) (suc n) up

two_blocks : (cs : List ChunkState) (n : ℕ) (lo up : ChunkState) → n < length cs → lo.blocks ++ up.blocks ≡ blocks_at cs n → blocks_of (two_for cs n lo up) ≡ blocks_of cs
two_blocks [] n lo up less e = absurd (omega arith)
two_blocks (c ∷ cs) zero lo up less e = sym (append_assoc lo.blocks up.blocks (blocks_of cs)) ∙ ap (λ bs. bs ++ blocks_of cs) e
two_blocks (c ∷ cs) (suc n) lo up less e = ap (λ bs. c.blocks ++ bs) (two_blocks cs n lo up (omega arith) e)

two_linked : (base : ℕ) (cs : List ChunkState) (n : ℕ) (d lo up : ChunkState) → Linked base cs → n < length cs → lo.from ≡ (get_or cs n d).from → 0 < length lo.blocks → Stand lo.from (2 ^ 62) lo.blocks → up.from ≡ after lo.from lo.blocks → 0 < length up.blocks → Stand up.from (2 ^ 62) up.blocks → after up.from up.blocks ≡ after (get_or cs n d).from (get_or cs n d).blocks → Linked base (two_for cs n lo up)
two_linked base [] n d lo up h less from some stand next more stands end = absurd (omega arith)
two_linked base (c ∷ cs) zero d lo up h less from some stand next more stands end =
    let P : ℕ → Type 0 = λ a. Linked a cs in
    (from ∙ h.0, some, stand, (next, more, stands, subst P (sym end) h.3))
two_linked base (c ∷ cs) (suc n) d lo up h less from some stand next more stands end =
    (h.0, h.1, h.2, two_linked (after c.from c.blocks) cs n d lo up h.3 (omega arith) from some stand next more stands end)

two_lower : (cs : List ChunkState) (n : ℕ) (lo up : ChunkState) → n < length cs → blocks_at (two_for cs n lo up) n ≡ lo.blocks
two_lower [] n lo up less = absurd (omega arith)
two_lower (c ∷ cs) zero lo up less = refl
two_lower (c ∷ cs) (suc n) lo up less = two_lower cs n lo up (omega arith)

two_upper : (cs : List ChunkState) (n : ℕ) (lo up : ChunkState) → n < length cs → blocks_at (two_for cs n lo up) (suc n) ≡ up.blocks
two_upper [] n lo up less = absurd (omega arith)
two_upper (c ∷ cs) zero lo up less = refl
two_upper (c ∷ cs) (suc n) lo up less = two_upper cs n lo up (omega arith)

two_before : (cs : List ChunkState) (n : ℕ) (lo up : ChunkState) → n < length cs → take n (two_for cs n lo up) ≡ take n cs
two_before [] n lo up less = absurd (omega arith)
two_before (c ∷ cs) zero lo up less = refl
two_before (c ∷ cs) (suc n) lo up less = ap (λ ds. c ∷ ds) (two_before cs n lo up (omega arith))

two_counted : (cs : List ChunkState) (n : ℕ) (lo up : ChunkState) → n < length cs → length (blocks_of (take (suc n) (two_for cs n lo up))) ≡ length (blocks_of (take n cs)) + length lo.blocks
two_counted [] n lo up less = absurd (omega arith)
two_counted (c ∷ cs) zero lo up less = let e = length-append lo.blocks [] in omega arith
two_counted (c ∷ cs) (suc n) lo up less =
    let e = two_counted cs n lo up (omega arith) in
    let f = length-append c.blocks (blocks_of (take (suc n) (two_for cs n lo up))) in
    let g = length-append c.blocks (blocks_of (take n cs)) in
    omega arith

-- the chunk that was read is full, and its halves stand in its place
pub record IsSplit (cs ds : List ChunkState) (n : ℕ) (x lo up : ChunkState) : Type 0 where
  pub within : n < length cs
  pub read : x ≡ get_or cs n x
  pub full : length (blocks_at cs n) ≡ 128
  pub lower : lo ≡ record { from = x.from; blocks = take 64 x.blocks }
  pub upper : up ≡ record { from = after x.from (take 64 x.blocks); blocks = drop 64 x.blocks }
  pub after_it : ds ≡ insert (set cs n lo) (n + 1) up

placed : {cs ds : List ChunkState} {n : ℕ} {x lo up : ChunkState} → IsSplit cs ds n x lo up → ds ≡ two_for cs n lo up
placed {cs} {ds} {n} {x} {lo} {up} s = (let next : n + 1 ≡ suc n = omega arith in s.after_it ∙ ap (λ (k : ℕ). insert (set cs n lo) k up) next)

its_blocks : {cs ds : List ChunkState} {n : ℕ} {x lo up : ChunkState} → IsSplit cs ds n x lo up → x.blocks ≡ blocks_at cs n
its_blocks {cs} {ds} {n} {x} s = ap (λ (z : ChunkState). z.blocks) s.read ∙ read_blocks cs n x s.within

lower_length : {cs ds : List ChunkState} {n : ℕ} {x lo up : ChunkState} → IsSplit cs ds n x lo up → length lo.blocks ≡ 64
lower_length {cs} {ds} {n} {x} {lo} {up} s =
    let e = ap length (its_blocks s) in
    let f = ap (λ (z : ChunkState). length z.blocks) s.lower in
    let g = length-take 64 x.blocks in
    let full = s.full in
    omega arith

upper_length : {cs ds : List ChunkState} {n : ℕ} {x lo up : ChunkState} → IsSplit cs ds n x lo up → length up.blocks ≡ 64
upper_length {cs} {ds} {n} {x} {lo} {up} s =
    let e = ap length (its_blocks s) in
    let f = ap (λ (z : ChunkState). length z.blocks) s.upper in
    let g = length-drop 64 x.blocks in
    let full = s.full in
    omega arith

pub split_blocks : {cs ds : List ChunkState} {n : ℕ} {x lo up : ChunkState} → IsSplit cs ds n x lo up → blocks_of ds ≡ blocks_of cs
split_blocks {cs} {ds} {n} {x} {lo} {up} s =
    let e = ap (λ (z : ChunkState). z.blocks ++ up.blocks) s.lower in
    let f = ap (λ (z : ChunkState). take 64 x.blocks ++ z.blocks) s.upper in
    ap blocks_of (placed s) ∙ two_blocks cs n lo up s.within (e ∙ f ∙ take-append-drop 64 x.blocks ∙ its_blocks s)

pub split_linked : (base : ℕ) {cs ds : List ChunkState} {n : ℕ} {x lo up : ChunkState} → Linked base cs → IsSplit cs ds n x lo up → Linked base ds
split_linked base {cs} {ds} {n} {x} {lo} {up} h s =
    let lower = lower_length s in
    let upper = upper_length s in
    let a : ChunkState = record { from = x.from; blocks = take 64 x.blocks } in
    let b : ChunkState = record { from = after x.from (take 64 x.blocks); blocks = drop 64 x.blocks } in
    let some : 0 < length a.blocks = omega (arith, ap (λ (z : ChunkState). length z.blocks) s.lower) in
    let more : 0 < length b.blocks = omega (arith, ap (λ (z : ChunkState). length z.blocks) s.upper) in
    let C : ChunkState → Type 0 = λ z. Stand z.from (2 ^ 62) z.blocks in
    let stand : Stand x.from (2 ^ 62) x.blocks = subst C (sym s.read) (read_stand base cs n x h s.within) in
    let whole = after_append x.from (take 64 x.blocks) (drop 64 x.blocks) in
    let ends : after b.from b.blocks ≡ after (get_or cs n x).from (get_or cs n x).blocks =
    sym whole ∙ ap (after x.from) (take-append-drop 64 x.blocks) ∙ ap (λ (z : ChunkState). after z.from z.blocks) s.read in
    let done = two_linked base cs n x a b h s.within (ap (λ (z : ChunkState). z.from) s.read) some (stand_take x.from (2 ^ 62) x.blocks 64 stand) refl more (stand_rest x.from (2 ^ 62) x.blocks 64 stand) ends in
    let P : List ChunkState → Type 0 = λ es. Linked base es in
    subst P (sym (placed s ∙ ap (λ (z : ChunkState). two_for cs n z up) s.lower ∙ ap (λ (z : ChunkState). two_for cs n a z) s.upper)) done

pub split_lower : {cs ds : List ChunkState} {n : ℕ} {x lo up : ChunkState} → IsSplit cs ds n x lo up → length (blocks_at ds n) ≡ 64
split_lower {cs} {ds} {n} {x} {lo} {up} s = ap (λ (es : List ChunkState). length (blocks_at es n)) (placed s) ∙ ap length (two_lower cs n lo up s.within) ∙ lower_length s

pub split_upper : {cs ds : List ChunkState} {n : ℕ} {x lo up : ChunkState} → IsSplit cs ds n x lo up → length (blocks_at ds (n + 1)) ≡ 64
split_upper {cs} {ds} {n} {x} {lo} {up} s =
    let next : n + 1 ≡ suc n = omega arith in
    ap (λ (k : ℕ). length (blocks_at ds k)) next
    ∙ ap (λ (es : List ChunkState). length (blocks_at es (suc n))) (placed s)
    ∙ ap length (two_upper cs n lo up s.within)
    ∙ upper_length s

pub split_rank : {cs ds : List ChunkState} {n : ℕ} {x lo up : ChunkState} (i : ℕ) → IsSplit cs ds n x lo up → rank ds n i ≡ rank cs n i
split_rank {cs} {ds} {n} {x} {lo} {up} i s =
    let same = ap (λ (es : List ChunkState). length (blocks_of (take n es))) (placed s) ∙ ap (λ (es : List ChunkState). length (blocks_of es)) (two_before cs n lo up s.within) in
    omega arith

pub split_next : {cs ds : List ChunkState} {n : ℕ} {x lo up : ChunkState} (i : ℕ) → 64 ≤ i → IsSplit cs ds n x lo up → rank ds (n + 1) (i - 64) ≡ rank cs n i
split_next {cs} {ds} {n} {x} {lo} {up} i far s =
    let next : n + 1 ≡ suc n = omega arith in
    let same : length (blocks_of (take (n + 1) ds)) ≡ length (blocks_of (take n cs)) + length lo.blocks =
    ap (λ (k : ℕ). length (blocks_of (take k ds))) next ∙ ap (λ (es : List ChunkState). length (blocks_of (take (suc n) es))) (placed s) ∙ two_counted cs n lo up s.within in
    let lower = lower_length s in
    omega arith
