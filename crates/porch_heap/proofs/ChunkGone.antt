-- A chunk that goes with its last block.
use Rattle.std.proofs.Common.{◌≡◌, ℕ, zero, suc, ◌<◌, ◌≤◌, ◌^◌, List, [], ◌∷◌, ◌++◌, length, take, drop, get_or, refl, ap, sym, subst, ◌∙◌, arith}
use Rattle.std.specs.Prelude.{remove}
use Rattle.std.proofs.lemmas.List.{nil_from_length}
use Rattle.std.proofs.lemmas.List.Edits.{length-remove, remove-append_left}
use Rattle.porch_heap.specs.inside.Searching.{Head}
use Rattle.porch_heap.specs.Chunks.{ChunkState, blocks_of}
use Rattle.porch_heap.specs.inside.ChunkRow.{Linked, blocks_at, begun, rank, after}
use Rattle.porch_heap.proofs.Lists.{stand_end}
use Rattle.porch_heap.proofs.Chunked.{chunk_within, read_stand, blocks_of_parts, blocks_of_append, remove_behind}
use Rattle.porch_heap.proofs.After.{after_above}
use Rattle.porch_heap.proofs.Linking.{blocks_of_begun, next_head, linked_dropped}

blocks_remove_next : (cs : List ChunkState) (n : ℕ) → n < length cs → blocks_at (remove cs n) n ≡ blocks_at cs (suc n)
blocks_remove_next [] n less = absurd (omega arith)
blocks_remove_next (c ∷ cs) zero less = refl
blocks_remove_next (c ∷ cs) (suc n) less = blocks_remove_next cs n (omega arith)

-- the chunk that was read before it went
pub record IsGone (base : ℕ) (cs ds : List ChunkState) (n from : ℕ) (x : ChunkState) : Type 0 where
  pub linked : Linked base cs
  pub within : n < length cs
  pub read : x ≡ get_or cs n x
  pub begins : from ≡ x.from
  pub gone : ds ≡ remove cs n

from_read : {base : ℕ} {cs ds : List ChunkState} {n from : ℕ} {x : ChunkState} → IsGone base cs ds n from x → from ≡ (get_or cs n x).from
from_read g = g.begins ∙ ap (λ (z : ChunkState). z.from) g.read

pub gone_low : {base : ℕ} {cs ds : List ChunkState} {n from : ℕ} {x : ChunkState} → IsGone base cs ds n from x → Head (λ b. from ≤ b.at) (blocks_at ds n)
gone_low {base} {cs} {ds} {n} {from} {x} g =
    let here : ChunkState = get_or cs n x in
    let far : here.from ≤ after here.from here.blocks = after_above here.from (2 ^ 62) here.blocks (read_stand base cs n x g.linked g.within) in
    let same = from_read g in
    subst (Head (λ b. from ≤ b.at)) (sym (ap (λ (es : List ChunkState). blocks_at es n) g.gone ∙ blocks_remove_next cs n g.within)) (next_head base cs n from x g.linked g.within (omega arith))

pub gone_small : {base : ℕ} {cs ds : List ChunkState} {n from : ℕ} {x : ChunkState} → IsGone base cs ds n from x → from ≤ 2 ^ 62
gone_small {base} {cs} {ds} {n} {from} {x} g =
    let here : ChunkState = get_or cs n x in
    let low = stand_end here.from (2 ^ 62) here.blocks (read_stand base cs n x g.linked g.within) in
    let same = from_read g in
    omega arith

pub gone_linked : {base : ℕ} {cs ds : List ChunkState} {n from : ℕ} {x : ChunkState} → IsGone base cs ds n from x → Linked base (begun ds n from)
gone_linked {base} {cs} {ds} {n} {from} {x} g =
    let same = ap (λ (es : List ChunkState). begun es n from) g.gone ∙ ap (λ (a : ℕ). begun (remove cs n) n a) (from_read g) in
    let P : List ChunkState → Type 0 = λ es. Linked base es in
    subst P (sym same) (linked_dropped base cs n x g.linked g.within)

pub gone_blocks : (cs ds : List ChunkState) (n i from : ℕ) → i < length (blocks_at cs n) → length (blocks_at cs n) ≡ 1 → ds ≡ remove cs n → blocks_of (begun ds n from) ≡ remove (blocks_of cs) (rank cs n i)
gone_blocks cs ds n i from within last gone =
    let less = chunk_within cs n i within in
    let before = blocks_of (take n cs) in
    let here = blocks_at cs n in
    let behind = blocks_of (drop (suc n) cs) in
    let shorter = length-remove here i within in
    let none : remove here i ≡ [] = nil_from_length (remove here i) (omega arith) in
    blocks_of_begun ds n from
    ∙ ap blocks_of gone
    ∙ blocks_of_append (take n cs) (drop (suc n) cs)
    ∙ ap (λ bs. before ++ (bs ++ behind)) (sym none)
    ∙ ap (λ bs. before ++ bs) (sym (remove-append_left here behind i within))
    ∙ sym (remove_behind before (here ++ behind) i)
    ∙ ap (λ bs. remove bs (rank cs n i)) (sym (blocks_of_parts cs n))
