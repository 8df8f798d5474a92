-- What a chunk keeps beside its blocks, after some came or went.
use Rattle.std.proofs.Common.{◌≡◌, ℕ, zero, suc, ◌+◌, ◌<◌, ◌≤◌, ◌^◌, List, [], ◌∷◌, ◌++◌, length, take, drop, max, length-take, length-drop, length-append, refl, ap, arith}
use Rattle.std.specs.Prelude.{insert, remove}
use Rattle.std.proofs.lemmas.List.Edits.{length-insert, length-remove}
use Rattle.porch_heap.specs.declared.block.Block.{Block}
use Rattle.porch_heap.specs.declared.too_large.TooLarge.{TooLarge}
use Rattle.porch_heap.specs.Blocks.{Stand}
use Rattle.porch_heap.specs.inside.Searching.{Divides, Head}
use Rattle.porch_heap.specs.inside.ChunkRow.{NoRoom, after}
use Rattle.porch_heap.specs.inside.TooLarge.{AreTooLarge, IsChunk}
use Rattle.porch_heap.proofs.Changes.{stand_insert, stand_remove}
use Rattle.porch_heap.proofs.After.{after_ends, stand_take, stand_rest, stand_append, no_room_more, no_room_insert, no_room_remove, no_room_begin, no_room_append, no_room_take, no_room_drop}

head_more : (low bytes more : ℕ) (xs : List Block) → bytes ≤ more → Head (λ b. b.at ≤ low + bytes) xs → Head (λ b. b.at ≤ low + more) xs
head_more low bytes more [] less h = tt
head_more low bytes more (b ∷ xs) less h = omega arith

-- too_large where there may be one gap more
record IsRaised (old : TooLarge) (gap : ℕ) (new : TooLarge) : Type 0 where
  one : new.one ≡ max old.one gap
  two : new.two ≡ max old.two gap
  four : new.four ≡ max old.four gap
  eight : new.eight ≡ max old.eight gap

raised_all : (from from' : ℕ) (xs xs' : List Block) (gap : ℕ) (old new : TooLarge) → ((align bytes : ℕ) → NoRoom align bytes from xs → NoRoom align (max bytes gap) from' xs') → AreTooLarge from xs old → IsRaised old gap new → AreTooLarge from' xs' new
raised_all from from' xs xs' gap old new f too_large r = record {
  one = rw r.one (f 1 old.one too_large.one);
  two = rw r.two (f 2 old.two too_large.two);
  four = rw r.four (f 4 old.four too_large.four);
  eight = rw r.eight (f 8 old.eight too_large.eight);
}

take_insert : (xs : List Block) (i : ℕ) (b : Block) → i ≤ length xs → take i (insert xs i b) ≡ take i xs
take_insert xs zero b less = refl
take_insert [] (suc i) b less = absurd (omega arith)
take_insert (x ∷ xs) (suc i) b less = ap (λ ys. x ∷ ys) (take_insert xs i b (omega arith))

drop_insert : (xs : List Block) (i : ℕ) (b : Block) → i ≤ length xs → drop i (insert xs i b) ≡ b ∷ drop i xs
drop_insert xs zero b less = refl
drop_insert [] (suc i) b less = absurd (omega arith)
drop_insert (x ∷ xs) (suc i) b less = drop_insert xs i b (omega arith)

take_remove : (xs : List Block) (i : ℕ) → take i (remove xs i) ≡ take i xs
take_remove [] zero = refl
take_remove [] (suc i) = refl
take_remove (x ∷ xs) zero = refl
take_remove (x ∷ xs) (suc i) = ap (λ ys. x ∷ ys) (take_remove xs i)

drop_remove : (xs : List Block) (i : ℕ) → drop i (remove xs i) ≡ drop (suc i) xs
drop_remove [] zero = refl
drop_remove [] (suc i) = refl
drop_remove (x ∷ xs) zero = refl
drop_remove (x ∷ xs) (suc i) = drop_remove xs i

pub kept_insert : (from : ℕ) (xs : List Block) (i : ℕ) (b : Block) (gap : ℕ) (old new : TooLarge) → IsChunk from xs old → length xs < 128 → from ≤ b.at → Divides xs i b.at b.bytes → b.at + b.bytes < 2 ^ 62 → Head (λ c. c.at ≤ after from (take i (insert xs i b)) + gap) (drop i (insert xs i b)) → new.one ≡ max old.one gap → new.two ≡ max old.two gap → new.four ≡ max old.four gap → new.eight ≡ max old.eight gap → IsChunk from (insert xs i b) new
kept_insert from xs i b gap old new k few low place high near one two four eight =
    let longer = length-insert xs i b place.within in
    let reached : b.at ≤ after from (take i xs) + gap = rw (drop_insert xs i b place.within, take_insert xs i b place.within) at near in
    let behind = after_ends from b.at (take i xs) low place.before in
    record {
      few = omega arith;
      stand = stand_insert from _ xs i b k.stand place.within low place.before place.behind high;
      all_too_large = raised_all from from xs (insert xs i b) gap old new
          (λ align bytes h. no_room_insert align (max bytes gap) from xs i b place.within (no_room_more align bytes (max bytes gap) from xs (omega arith) h) behind (omega arith))
          k.all_too_large (record { one = one; two = two; four = four; eight = eight });
    }

pub kept_remove : (from : ℕ) (xs : List Block) (i : ℕ) (gap : ℕ) (old new : TooLarge) → IsChunk from xs old → i < length xs → Head (λ c. c.at ≤ after from (take i (remove xs i)) + gap) (drop i (remove xs i)) → new.one ≡ max old.one gap → new.two ≡ max old.two gap → new.four ≡ max old.four gap → new.eight ≡ max old.eight gap → IsChunk from (remove xs i) new
kept_remove from xs i gap old new k less near one two four eight =
    let shorter = length-remove xs i less in
    let few = k.few in
    let reached : Head (λ c. c.at ≤ after from (take i xs) + gap) (drop (suc i) xs) = rw (drop_remove xs i, take_remove xs i) at near in
    record {
      few = omega arith;
      stand = stand_remove from _ xs i k.stand;
      all_too_large = raised_all from from xs (remove xs i) gap old new
          (λ align bytes h. no_room_remove align (max bytes gap) from xs i (no_room_more align bytes (max bytes gap) from xs (omega arith) h) (head_more (after from (take i xs)) gap (max bytes gap) (drop (suc i) xs) (omega arith) reached))
          k.all_too_large (record { one = one; two = two; four = four; eight = eight });
    }

stand_begin : (from other end : ℕ) (xs : List Block) → Stand from end xs → Head (λ b. other ≤ b.at) xs → other ≤ end → Stand other end xs
stand_begin from other end [] h low small = small
stand_begin from other end (b ∷ xs) h low small = (low, h.1)

pub kept_begin : (from other : ℕ) (xs : List Block) (gap : ℕ) (old new : TooLarge) → IsChunk from xs old → Head (λ b. other ≤ b.at) xs → other ≤ 2 ^ 62 → Head (λ b. b.at ≤ other + gap) xs → new.one ≡ max old.one gap → new.two ≡ max old.two gap → new.four ≡ max old.four gap → new.eight ≡ max old.eight gap → IsChunk other xs new
kept_begin from other xs gap old new k low small near one two four eight = record {
  few = k.few;
  stand = stand_begin from other _ xs k.stand low small;
  all_too_large = raised_all from other xs xs gap old new
      (λ align bytes h. no_room_begin align (max bytes gap) from other xs (no_room_more align bytes (max bytes gap) from xs (omega arith) h) (head_more other gap (max bytes gap) xs (omega arith) near))
      k.all_too_large (record { one = one; two = two; four = four; eight = eight });
}

pub kept_none : (from : ℕ) (too_large : TooLarge) → from ≤ 2 ^ 62 → IsChunk from [] too_large
kept_none from too_large small = record { few = omega arith; stand = small; all_too_large = record { one = tt; two = tt; four = tt; eight = tt } }

pub kept_take : (from : ℕ) (xs : List Block) (i : ℕ) (too_large : TooLarge) → IsChunk from xs too_large → i ≤ 128 → IsChunk from (take i xs) too_large
kept_take from xs i too_large k few = record {
  few = short xs i few;
  stand = stand_take from _ xs i k.stand;
  all_too_large = record {
    one = no_room_take 1 too_large.one from xs i k.all_too_large.one;
    two = no_room_take 2 too_large.two from xs i k.all_too_large.two;
    four = no_room_take 4 too_large.four from xs i k.all_too_large.four;
    eight = no_room_take 8 too_large.eight from xs i k.all_too_large.eight;
  };
}
  where
    short : (xs : List Block) (i : ℕ) → i ≤ 128 → length (take i xs) ≤ 128
    short xs i few = omega (arith, length-take i xs)

pub kept_drop : (from : ℕ) (xs : List Block) (i : ℕ) (too_large : TooLarge) → IsChunk from xs too_large → IsChunk (after from (take i xs)) (drop i xs) too_large
kept_drop from xs i too_large k = record {
  few = let few = k.few in omega (arith, length-drop i xs);
  stand = stand_rest from _ xs i k.stand;
  all_too_large = record {
    one = no_room_drop 1 too_large.one from xs i k.all_too_large.one;
    two = no_room_drop 2 too_large.two from xs i k.all_too_large.two;
    four = no_room_drop 4 too_large.four from xs i k.all_too_large.four;
    eight = no_room_drop 8 too_large.eight from xs i k.all_too_large.eight;
  };
}

pub kept_append : (from later : ℕ) (xs ys : List Block) (a b new : TooLarge) → IsChunk from xs a → IsChunk later ys b → later ≡ after from xs → length xs + length ys ≤ 128 → new.one ≡ max a.one b.one → new.two ≡ max a.two b.two → new.four ≡ max a.four b.four → new.eight ≡ max a.eight b.eight → IsChunk from (xs ++ ys) new
kept_append from later xs ys a b new k m next few one two four eight = record {
  few = omega (arith, length-append xs ys);
  stand = stand_append from _ xs ys k.stand (rw next at m.stand);
  all_too_large = record {
    one = rw one (both 1 a.one b.one k.all_too_large.one m.all_too_large.one);
    two = rw two (both 2 a.two b.two k.all_too_large.two m.all_too_large.two);
    four = rw four (both 4 a.four b.four k.all_too_large.four m.all_too_large.four);
    eight = rw eight (both 8 a.eight b.eight k.all_too_large.eight m.all_too_large.eight);
  };
}
  where
    both : (align i j : ℕ) → NoRoom align i from xs → NoRoom align j later ys → NoRoom align (max i j) from (xs ++ ys)
    both align i j h l = no_room_append align (max i j) from xs ys (no_room_more align i (max i j) from xs (omega arith) h) (rw next at (no_room_more align j (max i j) later ys (omega arith) l))
