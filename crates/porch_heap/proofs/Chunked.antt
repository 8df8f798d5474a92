-- The blocks of chunks by the chunks before one, its own and those behind it.
use Rattle.std.proofs.Common.{◌≡◌, ℕ, zero, suc, ◌+◌, ◌<◌, ◌≤◌, ◌^◌, List, [], ◌∷◌, ◌++◌, length, take, drop, set, get_or, append_assoc, refl, ap, sym, subst, ◌∙◌, arith}
use Rattle.std.specs.Prelude.{insert, remove}
use Rattle.std.proofs.lemmas.List.{take-append-le, drop-append-le}
use Rattle.std.proofs.Math.Seq.{take-append-add, drop-append-add}
use Rattle.std.proofs.lemmas.List.Edits.{insert-append_left, remove-append_left}
use Rattle.porch_heap.specs.declared.block.Block.{Block}
use Rattle.porch_heap.specs.Blocks.{Each, Stand}
use Rattle.porch_heap.specs.inside.Searching.{Divides, EndsBefore, BeginsBehind, Head}
use Rattle.porch_heap.specs.Chunks.{ChunkState, blocks_of}
use Rattle.porch_heap.specs.inside.ChunkRow.{Linked, blocks_at, rank, after}
use Rattle.porch_heap.proofs.Lists.{each_left, each_right}
use Rattle.porch_heap.proofs.After.{after_append, after_ends}

-- a chunk with a block is one of them
pub chunk_within : (cs : List ChunkState) (n i : ℕ) → i < length (blocks_at cs n) → n < length cs
chunk_within [] n i less = absurd (omega arith)
chunk_within (c ∷ cs) zero i less = omega arith
chunk_within (c ∷ cs) (suc n) i less = let k = chunk_within cs n i less in omega arith

-- what is read of the chunk of a number
pub read_blocks : (cs : List ChunkState) (n : ℕ) (d : ChunkState) → n < length cs → (get_or cs n d).blocks ≡ blocks_at cs n
read_blocks [] n d less = absurd (omega arith)
read_blocks (c ∷ cs) zero d less = refl
read_blocks (c ∷ cs) (suc n) d less = read_blocks cs n d (omega arith)

pub read_from : (base : ℕ) (cs : List ChunkState) (n : ℕ) (d : ChunkState) → Linked base cs → n < length cs → (get_or cs n d).from ≡ after base (blocks_of (take n cs))
read_from base [] n d h less = absurd (omega arith)
read_from base (c ∷ cs) zero d h less = h.0
read_from base (c ∷ cs) (suc n) d h less =
    let k = read_from (after c.from c.blocks) cs n d h.3 (omega arith) in
    let same : after c.from c.blocks ≡ after base c.blocks = ap (λ (a : ℕ). after a c.blocks) h.0 in
    k ∙ ap (λ (a : ℕ). after a (blocks_of (take n cs))) same ∙ sym (after_append base c.blocks (blocks_of (take n cs)))

pub read_stand : (base : ℕ) (cs : List ChunkState) (n : ℕ) (d : ChunkState) → Linked base cs → n < length cs → Stand (get_or cs n d).from (2 ^ 62) (get_or cs n d).blocks
read_stand base [] n d h less = absurd (omega arith)
read_stand base (c ∷ cs) zero d h less = h.2
read_stand base (c ∷ cs) (suc n) d h less = read_stand (after c.from c.blocks) cs n d h.3 (omega arith)

-- all blocks, round those of one chunk
pub blocks_of_parts : (cs : List ChunkState) (n : ℕ) → blocks_of cs ≡ blocks_of (take n cs) ++ (blocks_at cs n ++ blocks_of (drop (suc n) cs))
blocks_of_parts [] zero = refl
blocks_of_parts [] (suc n) = refl
blocks_of_parts (c ∷ cs) zero = refl
blocks_of_parts (c ∷ cs) (suc n) = ap (λ ys. c.blocks ++ ys) (blocks_of_parts cs n) ∙ sym (append_assoc c.blocks (blocks_of (take n cs)) (blocks_at cs n ++ blocks_of (drop (suc n) cs)))

pub blocks_of_set : (cs : List ChunkState) (n : ℕ) (y : ChunkState) → n < length cs → blocks_of (set cs n y) ≡ blocks_of (take n cs) ++ (y.blocks ++ blocks_of (drop (suc n) cs))
blocks_of_set [] n y less = absurd (omega arith)
blocks_of_set (c ∷ cs) zero y less = refl
blocks_of_set (c ∷ cs) (suc n) y less =
    ap (λ bs. c.blocks ++ bs) (blocks_of_set cs n y (omega arith)) ∙ sym (append_assoc c.blocks (blocks_of (take n cs)) _)

pub blocks_of_append : (cs ds : List ChunkState) → blocks_of (cs ++ ds) ≡ blocks_of cs ++ blocks_of ds
blocks_of_append [] ds = refl
blocks_of_append (c ∷ cs) ds = ap (λ bs. c.blocks ++ bs) (blocks_of_append cs ds) ∙ sym (append_assoc c.blocks (blocks_of cs) (blocks_of ds))

-- an edit behind some blocks
pub insert_behind : (ps xs : List Block) (i : ℕ) (b : Block) → insert (ps ++ xs) (length ps + i) b ≡ ps ++ insert xs i b
insert_behind ps xs i b = rw (take-append-add ps xs i, drop-append-add ps xs i) (append_assoc ps (take i xs) (b ∷ drop i xs))

pub remove_behind : (ps xs : List Block) (i : ℕ) → remove (ps ++ xs) (length ps + i) ≡ ps ++ remove xs i
remove_behind ps xs i =
    let next : suc (length ps + i) ≡ length ps + suc i = omega arith in
    rw (next, take-append-add ps xs i, drop-append-add ps xs (suc i)) (append_assoc ps (take i xs) (drop (suc i) xs))

-- one chunk with a block more or fewer
pub blocks_insert : (cs : List ChunkState) (n i : ℕ) (b : Block) (y : ChunkState) → i < length (blocks_at cs n) → y.blocks ≡ insert (blocks_at cs n) i b → blocks_of (set cs n y) ≡ insert (blocks_of cs) (rank cs n i) b
blocks_insert cs n i b y within more =
    let less = chunk_within cs n i within in
    let behind = blocks_of (drop (suc n) cs) in
    let before = blocks_of (take n cs) in
    let here = blocks_at cs n in
    blocks_of_set cs n y less
    ∙ ap (λ bs. before ++ (bs ++ behind)) more
    ∙ ap (λ bs. before ++ bs) (sym (insert-append_left here behind i b (omega arith)))
    ∙ sym (insert_behind before (here ++ behind) i b)
    ∙ ap (λ bs. insert bs (rank cs n i) b) (sym (blocks_of_parts cs n))

pub blocks_remove : (cs : List ChunkState) (n i : ℕ) (y : ChunkState) → i < length (blocks_at cs n) → y.blocks ≡ remove (blocks_at cs n) i → blocks_of (set cs n y) ≡ remove (blocks_of cs) (rank cs n i)
blocks_remove cs n i y within fewer =
    let less = chunk_within cs n i within in
    let behind = blocks_of (drop (suc n) cs) in
    let before = blocks_of (take n cs) in
    let here = blocks_at cs n in
    blocks_of_set cs n y less
    ∙ ap (λ bs. before ++ (bs ++ behind)) fewer
    ∙ ap (λ bs. before ++ bs) (sym (remove-append_left here behind i within))
    ∙ sym (remove_behind before (here ++ behind) i)
    ∙ ap (λ bs. remove bs (rank cs n i)) (sym (blocks_of_parts cs n))

-- a place before a block of a chunk
head_left : (P : Block → Type 0) (xs ys : List Block) → 0 < length xs → Head P (xs ++ ys) → Head P xs
head_left P [] ys some h = absurd (omega arith)
head_left P (b ∷ xs) ys some h = h

divides_middle : (ps xs ys : List Block) (i at bytes : ℕ) → i < length xs → Divides (ps ++ (xs ++ ys)) (length ps + i) at bytes → Each (EndsBefore at) ps × Divides xs i at bytes
divides_middle ps xs ys i at bytes less d =
    let front : take (length ps + i) (ps ++ (xs ++ ys)) ≡ ps ++ take i xs = take-append-add ps (xs ++ ys) i ∙ ap (λ bs. ps ++ bs) (take-append-le i xs ys (omega arith)) in
    let back : drop (length ps + i) (ps ++ (xs ++ ys)) ≡ drop i xs ++ ys = drop-append-add ps (xs ++ ys) i ∙ drop-append-le i xs ys (omega arith) in
    let before : Each (EndsBefore at) (ps ++ take i xs) = subst (Each (EndsBefore at)) front d.before in
    let behind : Head (BeginsBehind (at + bytes)) (drop i xs ++ ys) = subst (Head (BeginsBehind (at + bytes))) back d.behind in (
      each_left (EndsBefore at) ps (take i xs) before,
      record {
        within = omega arith;
        before = each_right (EndsBefore at) ps (take i xs) before;
        behind = head_left (BeginsBehind (at + bytes)) (drop i xs) ys (left xs i less) behind;
      },
    )
  where
    left : (xs : List Block) (i : ℕ) → i < length xs → 0 < length (drop i xs)
    left [] i less = absurd (omega arith)
    left (b ∷ xs) zero less = omega arith
    left (b ∷ xs) (suc i) less = left xs i (omega arith)

divides_at : (cs : List ChunkState) (n i at bytes : ℕ) → i < length (blocks_at cs n) → Divides (blocks_of cs) (rank cs n i) at bytes → Each (EndsBefore at) (blocks_of (take n cs)) × Divides (blocks_at cs n) i at bytes
divides_at cs n i at bytes within d =
    let P : List Block → Type 0 = λ bs. Divides bs (rank cs n i) at bytes in
    divides_middle (blocks_of (take n cs)) (blocks_at cs n) (blocks_of (drop (suc n) cs)) i at bytes within (subst P (blocks_of_parts cs n) d)

pub place_in_chunk : (cs : List ChunkState) (n i at bytes : ℕ) → i < length (blocks_at cs n) → Divides (blocks_of cs) (rank cs n i) at bytes → Divides (blocks_at cs n) i at bytes
place_in_chunk cs n i at bytes within d = (divides_at cs n i at bytes within d).1

pub chunk_before : (base : ℕ) (cs : List ChunkState) (n i at bytes : ℕ) (d : ChunkState) → Linked base cs → i < length (blocks_at cs n) → base ≤ at → Divides (blocks_of cs) (rank cs n i) at bytes → (get_or cs n d).from ≤ at
chunk_before base cs n i at bytes d h within low place =
    let begins = read_from base cs n d h (chunk_within cs n i within) in
    let far = after_ends base at (blocks_of (take n cs)) low (divides_at cs n i at bytes within place).0 in
    omega arith
