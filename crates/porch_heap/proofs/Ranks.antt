-- The blocks of one chunk among those of all chunks: what is found there, and the block round an address.
use Rattle.std.proofs.Common.{◌≡◌, ℕ, zero, suc, ◌+◌, ◌-◌, ◌<◌, ◌≤◌, false, None, Some, cond, List, [], ◌∷◌, ◌++◌, length, take, drop, get_or, refl, ap, sym, ◌∙◌, subst, arith, length-append, length-drop, take-append-drop}
use Rattle.std.specs.Prelude.{remove}
use Rattle.std.proofs.lemmas.List.Edits.{length-remove}
use Rattle.std.proofs.lemmas.List.{take-append-le, drop-append-le, drop_all}
use Rattle.std.proofs.Math.Seq.{take-append-add, drop-append-add}
use Rattle.porch_heap.specs.declared.block.Block.{Block}
use Rattle.porch_heap.specs.Blocks.{Each, block_around}
use Rattle.porch_heap.specs.inside.Searching.{EndsBefore, Head}
use Rattle.porch_heap.specs.Chunks.{ChunkState, blocks_of}
use Rattle.porch_heap.specs.inside.ChunkRow.{Linked, NoRoom, IsFound, blocks_at, rank, after, stop}
use Rattle.porch_heap.proofs.Lists.{each_map}
use Rattle.porch_heap.proofs.After.{after_append, no_room_append}
use Rattle.porch_heap.proofs.Changes.{is_round, find_none, ends_not_round, begins_not_round}
use Rattle.porch_heap.proofs.Chunked.{blocks_of_parts}
use Rattle.porch_heap.proofs.Linked.{blocks_of_more, linked_from, linked_blocks}

-- the first of some blocks, with others behind them
head_append : (P : Block → Type 0) (xs ys : List Block) → 0 < length xs → Head P xs → Head P (xs ++ ys)
head_append P [] ys some h = absurd (omega arith)
head_append P (b ∷ xs) ys some h = h

head_within : (P : Block → Type 0) (xs ys zs : List Block) (i : ℕ) → i < length ys → Head P (drop i ys) → Head P (drop (length xs + i) (xs ++ (ys ++ zs)))
head_within P xs ys zs i less h =
    let some : 0 < length (drop i ys) = simp length-drop (omega arith) in
    let back : drop (length xs + i) (xs ++ (ys ++ zs)) ≡ drop i ys ++ zs = drop-append-add xs (ys ++ zs) i ∙ drop-append-le i ys zs (omega arith) in
    rw back (head_append P (drop i ys) zs some h)

-- a block of a chunk by its number among all
pub head_rank : (P : Block → Type 0) (cs : List ChunkState) (n i : ℕ) → i < length (blocks_at cs n) → Head P (drop i (blocks_at cs n)) → Head P (drop (rank cs n i) (blocks_of cs))
head_rank P cs n i less h =
    let Q : List Block → Type 0 = λ bs. Head P (drop (rank cs n i) bs) in
    subst Q (sym (blocks_of_parts cs n)) (head_within P (blocks_of (take n cs)) (blocks_at cs n) (blocks_of (drop (suc n) cs)) i less h)

-- the first place before some blocks, with others before them that leave no room, and others behind them
found_within : (xs ys zs : List Block) (from bytes align index at : ℕ) → NoRoom align bytes from xs → IsFound ys (after from xs) bytes align index at → IsFound (xs ++ (ys ++ zs)) from bytes align (length xs + index) at
found_within xs ys zs from bytes align index at before found =
    let less = found.within in
    let front : take (length xs + index) (xs ++ (ys ++ zs)) ≡ xs ++ take index ys = take-append-add xs (ys ++ zs) index ∙ ap (λ ts. xs ++ ts) (take-append-le index ys zs (omega arith)) in
    let low : after from (take (length xs + index) (xs ++ (ys ++ zs))) ≡ after (after from xs) (take index ys) = ap (after from) front ∙ after_append from xs (take index ys) in
    record {
      within = simp length-append (omega arith);
      multiple = found.multiple;
      low = rw low found.low;
      least = λ other m k. found.least other m (rw low at k);
      behind = head_within (λ b. at + bytes < b.at) xs ys zs index less found.behind;
      none = rw front (no_room_append align bytes from xs (take index ys) before found.none);
    }

pub found_chunk : (base : ℕ) (cs : List ChunkState) (n : ℕ) (c : ChunkState) (bytes align index at : ℕ) → Linked base cs → n < length cs → c ≡ get_or cs n c → NoRoom align bytes base (blocks_of (take n cs)) → IsFound c.blocks c.from bytes align index at → IsFound (blocks_of cs) base bytes align (rank cs n index) at
found_chunk base cs n c bytes align index at h less is before found =
    let Q : List Block → Type 0 = λ bs. IsFound bs base bytes align (rank cs n index) at in
    let here = rw (linked_from base cs n c h less is, linked_blocks cs n c less is) at found in
    subst Q (sym (blocks_of_parts cs n)) (found_within (blocks_of (take n cs)) (blocks_at cs n) (blocks_of (drop (suc n) cs)) base bytes align index at before here)

-- one chunk more without room
pub no_room_chunk : (base : ℕ) (cs : List ChunkState) (n : ℕ) (c : ChunkState) (bytes align : ℕ) → Linked base cs → n < length cs → c ≡ get_or cs n c → NoRoom align bytes base (blocks_of (take n cs)) → NoRoom align bytes c.from c.blocks → NoRoom align bytes base (blocks_of (take (suc n) cs))
no_room_chunk base cs n c bytes align h less is before none =
    let here = rw (linked_from base cs n c h less is, linked_blocks cs n c less is) at none in
    rw (blocks_of_more cs n) (no_room_append align bytes base (blocks_of (take n cs)) (blocks_at cs n) before here)

-- the block round an address is none of those that end before it or begin behind it
round_behind : (at : ℕ) (xs ys : List Block) → Each (EndsBefore at) xs → block_around at (xs ++ ys) ≡ block_around at ys
round_behind at [] ys h = refl
round_behind at (b ∷ xs) ys h = rw (ends_not_round at b h.0) (round_behind at xs ys h.1)

round_front : (at : ℕ) (xs ys : List Block) → Each (λ b. at + 1 ≤ b.at) ys → block_around at (xs ++ ys) ≡ block_around at xs
round_front at [] ys h = find_none (is_round at) ys (each_map (λ b. at + 1 ≤ b.at) (λ b. is_round at b ≡ false) (λ b k. begins_not_round at b (omega arith)) ys h)
round_front at (b ∷ xs) ys h = ap (λ r. cond (is_round at b) (Some b) r) (round_front at xs ys h)

pub round_past : (at : ℕ) (xs : List Block) → Each (EndsBefore at) xs → block_around at xs ≡ None
round_past at xs h = find_none (is_round at) xs (each_map (EndsBefore at) (λ b. is_round at b ≡ false) (ends_not_round at) xs h)

pub round_chunk : (at : ℕ) (cs : List ChunkState) (n : ℕ) → Each (EndsBefore at) (blocks_of (take n cs)) → Each (λ b. at + 1 ≤ b.at) (blocks_of (drop (suc n) cs)) → block_around at (blocks_of cs) ≡ block_around at (blocks_at cs n)
round_chunk at cs n before behind =
    ap (block_around at) (blocks_of_parts cs n) ∙ round_behind at (blocks_of (take n cs)) (blocks_at cs n ++ blocks_of (drop (suc n) cs)) before
    ∙ round_front at (blocks_at cs n) (blocks_of (drop (suc n) cs)) behind

-- the blocks before the one of a seat
pub take_rank : (cs : List ChunkState) (n i : ℕ) → i ≤ length (blocks_at cs n) → take (rank cs n i) (blocks_of cs) ≡ blocks_of (take n cs) ++ take i (blocks_at cs n)
take_rank cs n i less =
    ap (take (rank cs n i)) (blocks_of_parts cs n)
    ∙ take-append-add (blocks_of (take n cs)) (blocks_at cs n ++ blocks_of (drop (suc n) cs)) i
    ∙ ap (λ ts. blocks_of (take n cs) ++ ts) (take-append-le i (blocks_at cs n) (blocks_of (drop (suc n) cs)) less)

pub rank_within : (cs : List ChunkState) (n i : ℕ) → i < length (blocks_at cs n) → rank cs n i < length (blocks_of cs)
rank_within cs n i less = rw (blocks_of_parts cs n) (simp length-append (omega arith))

pub length_less : (xs : List Block) (i : ℕ) → i < length xs → length (remove xs i) ≡ length xs - 1
length_less xs i less = let shorter = length-remove xs i less in omega arith

pub blocks_split_at : (cs : List ChunkState) (n i : ℕ) → i ≤ length (blocks_at cs n) → blocks_of cs ≡ (blocks_of (take n cs) ++ take i (blocks_at cs n)) ++ drop (rank cs n i) (blocks_of cs)
blocks_split_at cs n i less = sym (take-append-drop (rank cs n i) (blocks_of cs)) ∙ ap (λ ts. ts ++ drop (rank cs n i) (blocks_of cs)) (take_rank cs n i less)

-- where the block behind that of a seat begins
pub drop_rank : (cs : List ChunkState) (n i : ℕ) → i < length (blocks_at cs n) → drop (rank cs n i + 1) (blocks_of cs) ≡ drop (suc i) (blocks_at cs n) ++ blocks_of (drop (suc n) cs)
drop_rank cs n i less =
    let next : rank cs n i + 1 ≡ length (blocks_of (take n cs)) + suc i = omega arith in
    ap (λ k. drop k (blocks_of cs)) next
    ∙ ap (drop (length (blocks_of (take n cs)) + suc i)) (blocks_of_parts cs n)
    ∙ drop-append-add (blocks_of (take n cs)) (blocks_at cs n ++ blocks_of (drop (suc n) cs)) (suc i)
    ∙ drop-append-le (suc i) (blocks_at cs n) (blocks_of (drop (suc n) cs)) (omega arith)

stop_within : (end : ℕ) (xs ys : List Block) (i : ℕ) (d : Block) → i < length xs → stop end (drop i xs ++ ys) ≡ (get_or xs i d).at
stop_within end [] ys i d less = absurd (omega arith)
stop_within end (b ∷ xs) ys zero d less = refl
stop_within end (b ∷ xs) ys (suc i) d less = stop_within end xs ys i d (omega arith)

pub next_within : (end : ℕ) (cs : List ChunkState) (n i : ℕ) (d : Block) → suc i < length (blocks_at cs n) → stop end (drop (rank cs n i + 1) (blocks_of cs)) ≡ (get_or (blocks_at cs n) (suc i) d).at
next_within end cs n i d less = ap (stop end) (drop_rank cs n i (omega arith)) ∙ stop_within end (blocks_at cs n) (blocks_of (drop (suc n) cs)) (suc i) d less

drop_last : (xs ys : List Block) (i : ℕ) → length xs ≤ i → drop i xs ++ ys ≡ ys
drop_last [] ys zero less = refl
drop_last [] ys (suc i) less = refl
drop_last (b ∷ xs) ys zero less = absurd (omega arith)
drop_last (b ∷ xs) ys (suc i) less = drop_last xs ys i (omega arith)

pub some_blocks : (base : ℕ) (cs : List ChunkState) (m : ℕ) → Linked base cs → m < length cs → 0 < length (blocks_at cs m)
some_blocks base [] m h less = absurd (omega arith)
some_blocks base (c ∷ cs) zero h less = h.1
some_blocks base (c ∷ cs) (suc m) h less = some_blocks (after c.from c.blocks) cs m h.3 (omega arith)

stop_chunk : (end : ℕ) (cs : List ChunkState) (m : ℕ) (d : Block) → 0 < length (blocks_at cs m) → stop end (blocks_of (drop m cs)) ≡ (get_or (blocks_at cs m) 0 d).at
stop_chunk end [] m d some = absurd (omega arith)
stop_chunk end (c ∷ cs) zero d some = stop_within end c.blocks (blocks_of cs) 0 d some
stop_chunk end (c ∷ cs) (suc m) d some = stop_chunk end cs m d some

pub next_chunk : (end : ℕ) (cs : List ChunkState) (n i : ℕ) (d : Block) → i < length (blocks_at cs n) → length (blocks_at cs n) ≤ suc i → 0 < length (blocks_at cs (suc n)) → stop end (drop (rank cs n i + 1) (blocks_of cs)) ≡ (get_or (blocks_at cs (suc n)) 0 d).at
next_chunk end cs n i d less last some =
    ap (stop end) (drop_rank cs n i less ∙ drop_last (blocks_at cs n) (blocks_of (drop (suc n) cs)) (suc i) last) ∙ stop_chunk end cs (suc n) d some

pub next_end : (end : ℕ) (cs : List ChunkState) (n i : ℕ) → i < length (blocks_at cs n) → length (blocks_at cs n) ≤ suc i → length cs ≤ suc n → stop end (drop (rank cs n i + 1) (blocks_of cs)) ≡ end
next_end end cs n i less last past =
    ap (stop end) (drop_rank cs n i less ∙ drop_last (blocks_at cs n) (blocks_of (drop (suc n) cs)) (suc i) last ∙ ap blocks_of (drop_all (suc n) cs past))
