-- A block that comes into a chunk, or goes from it.
use Rattle.std.proofs.Common.{◌≡◌, ℕ, suc, ◌+◌, ◌<◌, ◌≤◌, ◌^◌, List, length, set, get_or, refl, ap, sym, subst, ◌∙◌, arith}
use Rattle.std.specs.Prelude.{insert, remove}
use Rattle.std.proofs.lemmas.List.{get_or-set_same}
use Rattle.std.proofs.lemmas.List.Edits.{length-insert, length-remove}
use Rattle.porch_heap.specs.declared.block.Block.{Block}
use Rattle.porch_heap.specs.inside.Searching.{Divides, Head}
use Rattle.porch_heap.specs.Chunks.{ChunkState, blocks_of}
use Rattle.porch_heap.specs.inside.ChunkRow.{Linked, blocks_at, begun, rank, after}
use Rattle.porch_heap.proofs.Changes.{stand_insert, stand_remove}
use Rattle.porch_heap.proofs.Chunked.{chunk_within, read_blocks, read_stand, place_in_chunk, chunk_before, blocks_insert, blocks_remove}
use Rattle.porch_heap.proofs.Linking.{after_insert, after_remove, linked_set, linked_shrunk, blocks_of_begun, blocks_set_next, next_head}

-- the place in the chunk as it is read
pub place_read : (cs : List ChunkState) (n i at bytes : ℕ) (d : ChunkState) → i < length (blocks_at cs n) → Divides (blocks_of cs) (rank cs n i) at bytes → Divides (get_or cs n d).blocks i at bytes
place_read cs n i at bytes d within place =
    let P : List Block → Type 0 = λ bs. Divides bs i at bytes in
    subst P (sym (read_blocks cs n d (chunk_within cs n i within))) (place_in_chunk cs n i at bytes within place)

abbrev more_in : ChunkState → ℕ → Block → ChunkState
more_in x i b = record { from = x.from; blocks = insert x.blocks i b }

abbrev fewer_in : ChunkState → ℕ → ChunkState
fewer_in x i = record { from = x.from; blocks = remove x.blocks i }

pub come_blocks : (cs : List ChunkState) (n i : ℕ) (b : Block) (d y : ChunkState) → i < length (blocks_at cs n) → y ≡ more_in (get_or cs n d) i b → blocks_of (set cs n y) ≡ insert (blocks_of cs) (rank cs n i) b
come_blocks cs n i b d y within e =
    let here = read_blocks cs n d (chunk_within cs n i within) in
    blocks_insert cs n i b y within (ap (λ (z : ChunkState). z.blocks) e ∙ ap (λ bs. insert bs i b) here)

pub come_linked : (base : ℕ) (cs : List ChunkState) (n i : ℕ) (b : Block) (d y : ChunkState) → Linked base cs → i < length (blocks_at cs n) → base ≤ b.at → Divides (blocks_of cs) (rank cs n i) b.at b.bytes → b.at + b.bytes < 2 ^ 62 → y ≡ more_in (get_or cs n d) i b → Linked base (set cs n y)
come_linked base cs n i b d y h within low place high e =
    let less = chunk_within cs n i within in
    let x : ChunkState = get_or cs n d in
    let same : length x.blocks ≡ length (blocks_at cs n) = ap length (read_blocks cs n d less) in
    let far : x.from ≤ b.at = chunk_before base cs n i b.at b.bytes d h within low place in
    let here = place_read cs n i b.at b.bytes d within place in
    let longer = length-insert x.blocks i b (omega arith) in
    let stand = stand_insert x.from (2 ^ 62) x.blocks i b (read_stand base cs n d h less) (omega arith) far here.before here.behind high in
    let P : ChunkState → Type 0 = λ z. Linked base (set cs n z) in
    subst P (sym e) (linked_set base cs n d (more_in x i b) h less refl (omega arith) stand (after_insert x.from x.blocks i b (omega arith)))

pub go_blocks : (cs : List ChunkState) (n i to from : ℕ) (d y : ChunkState) → i < length (blocks_at cs n) → y ≡ fewer_in (get_or cs n d) i → blocks_of (begun (set cs n y) to from) ≡ remove (blocks_of cs) (rank cs n i)
go_blocks cs n i to from d y within e =
    let here = read_blocks cs n d (chunk_within cs n i within) in
    blocks_of_begun (set cs n y) to from ∙ blocks_remove cs n i y within (ap (λ (z : ChunkState). z.blocks) e ∙ ap (λ bs. remove bs i) here)

go_next : (base : ℕ) (cs : List ChunkState) (n i : ℕ) (d y : ChunkState) → Linked base cs → i < length (blocks_at cs n) → 1 < length (blocks_at cs n) → y ≡ fewer_in (get_or cs n d) i → Linked base (begun (set cs n y) (suc n) (after y.from y.blocks))
go_next base cs n i d y h within others e =
    let less = chunk_within cs n i within in
    let x : ChunkState = get_or cs n d in
    let same : length x.blocks ≡ length (blocks_at cs n) = ap length (read_blocks cs n d less) in
    let stand = read_stand base cs n d h less in
    let shorter = length-remove x.blocks i (omega arith) in
    let P : ChunkState → Type 0 = λ z. Linked base (begun (set cs n z) (suc n) (after z.from z.blocks)) in
    subst P (sym e) (linked_shrunk base cs n d (fewer_in x i) h less refl (omega arith) (stand_remove x.from (2 ^ 62) x.blocks i stand) (after_remove x.from (2 ^ 62) x.blocks i stand))

pub go_linked : (base : ℕ) (cs ds : List ChunkState) (n i from : ℕ) (d e y : ChunkState) → Linked base cs → i < length (blocks_at cs n) → 1 < length (blocks_at cs n) → y ≡ fewer_in (get_or cs n d) i → from ≡ after (get_or (set cs n y) n e).from (get_or (set cs n y) n e).blocks → ds ≡ begun (set cs n y) (n + 1) from → Linked base ds
go_linked base cs ds n i from d e y h within others one begins after_it =
    let less = chunk_within cs n i within in
    let far : from ≡ after y.from y.blocks = begins ∙ ap (λ (z : ChunkState). after z.from z.blocks) (get_or-set_same cs n y e less) in
    let next : n + 1 ≡ suc n = omega arith in
    let P : List ChunkState → Type 0 = λ es. Linked base es in
    subst P (sym (after_it ∙ ap (λ (k : ℕ). begun (set cs n y) k from) next ∙ ap (λ (a : ℕ). begun (set cs n y) (suc n) a) far)) (go_next base cs n i d y h within others one)

-- the first block of the next chunk stands behind where one's blocks end then
pub go_low : (base : ℕ) (cs : List ChunkState) (n i from : ℕ) (d e y : ChunkState) → Linked base cs → i < length (blocks_at cs n) → y ≡ fewer_in (get_or cs n d) i → from ≡ after (get_or (set cs n y) n e).from (get_or (set cs n y) n e).blocks → Head (λ b. from ≤ b.at) (blocks_at (set cs n y) (n + 1))
go_low base cs n i from d e y h within one begins =
    let less = chunk_within cs n i within in
    let x : ChunkState = get_or cs n d in
    let far : from ≡ after x.from (remove x.blocks i) = begins ∙ ap (λ (z : ChunkState). after z.from z.blocks) (get_or-set_same cs n y e less ∙ one) in
    let near = after_remove x.from (2 ^ 62) x.blocks i (read_stand base cs n d h less) in
    let next : suc n ≡ n + 1 = omega arith in
    let P : List Block → Type 0 = Head (λ b. from ≤ b.at) in
    subst P (sym (blocks_set_next cs n y) ∙ ap (λ (k : ℕ). blocks_at (set cs n y) k) next) (next_head base cs n from d h less (omega arith))
