-- Where bytes begin to be free behind blocks, and how much room is before each of them.
use Rattle.std.proofs.Common.{◌≡◌, ℕ, zero, suc, ◌+◌, ◌-◌, ◌<◌, ◌≤◌, List, [], ◌∷◌, ◌++◌, length, take, drop, get_or, max, refl, arith}
use Rattle.std.specs.Prelude.{insert, remove}
use Rattle.porch_heap.specs.declared.block.Block.{Block}
use Rattle.porch_heap.specs.Blocks.{Each, Stand}
use Rattle.porch_heap.specs.inside.Searching.{EndsBefore, Head}
use Rattle.porch_heap.specs.inside.ChunkRow.{HasNoRoom, NoRoom, after, widest}
use Rattle.porch_heap.proofs.Lists.{stand_end}

pub after_at : (from : ℕ) (xs : List Block) (i : ℕ) (d : Block) → i < length xs → after from (take (suc i) xs) ≡ (get_or xs i d).at + (get_or xs i d).bytes + 1
after_at from [] i d less = absurd (omega arith)
after_at from (b ∷ xs) zero d less = refl
after_at from (b ∷ xs) (suc i) d less = after_at (b.at + b.bytes + 1) xs i d (omega arith)

pub after_append : (from : ℕ) (xs ys : List Block) → after from (xs ++ ys) ≡ after (after from xs) ys
after_append from [] ys = refl
after_append from (b ∷ xs) ys = after_append (b.at + b.bytes + 1) xs ys

pub after_high : (from end : ℕ) (xs : List Block) → Stand from end xs → after from xs ≤ end
after_high from end [] h = h
after_high from end (b ∷ xs) h = after_high (b.at + b.bytes + 1) end xs h.1

pub stand_take : (from end : ℕ) (xs : List Block) (i : ℕ) → Stand from end xs → Stand from end (take i xs)
stand_take from end [] zero h = h
stand_take from end [] (suc i) h = h
stand_take from end (b ∷ xs) zero h = stand_end from end (b ∷ xs) h
stand_take from end (b ∷ xs) (suc i) h = (h.0, stand_take (b.at + b.bytes + 1) end xs i h.1)

-- a block begins at or behind where the bytes before it begin
pub after_low : (from end : ℕ) (xs : List Block) (i : ℕ) (d : Block) → Stand from end xs → i < length xs → after from (take i xs) ≤ (get_or xs i d).at
after_low from end [] i d h less = absurd (omega arith)
after_low from end (b ∷ xs) zero d h less = h.0
after_low from end (b ∷ xs) (suc i) d h less = after_low (b.at + b.bytes + 1) end xs i d h.1 (omega arith)

-- an address behind blocks, and the one from which on they stand
pub after_ends : (from at : ℕ) (xs : List Block) → from ≤ at → Each (EndsBefore at) xs → after from xs ≤ at
after_ends from at [] low h = low
after_ends from at (b ∷ xs) low h = let k = h.0 in after_ends (b.at + b.bytes + 1) at xs (omega arith) h.1

pub ends_after : (from end at : ℕ) (xs : List Block) → Stand from end xs → after from xs ≤ at → Each (EndsBefore at) xs
ends_after from end at [] h low = tt
ends_after from end at (b ∷ xs) h low = (let k = later (b.at + b.bytes + 1) end at xs h.1 low in omega arith, ends_after (b.at + b.bytes + 1) end at xs h.1 low)
  where
    later : (from end at : ℕ) (xs : List Block) → Stand from end xs → after from xs ≤ at → from ≤ at
    later from end at [] h low = low
    later from end at (c ∷ xs) h low = let k = h.0 in let m = later (c.at + c.bytes + 1) end at xs h.1 low in omega arith

-- room for more is room for fewer
pub no_room_more : (align bytes more from : ℕ) (xs : List Block) → bytes ≤ more → NoRoom align bytes from xs → NoRoom align more from xs
no_room_more align bytes more from [] less h = tt
no_room_more align bytes more from (b ∷ xs) less h =
    (λ at m low. let k = h.0 at m low in omega arith, no_room_more align bytes more (b.at + b.bytes + 1) xs less h.1)

-- what is known of the blocks in front of one
pub no_room_known : (align bytes least from : ℕ) (xs : List Block) (start : ℕ) → (0 < start → least ≡ bytes) → NoRoom align bytes from (take start xs) → NoRoom align least from (take start xs)
no_room_known align bytes least from [] zero e h = tt
no_room_known align bytes least from (b ∷ xs) zero e h = tt
no_room_known align bytes least from xs (suc start) e h = let same : least ≡ bytes = e (omega arith) in rw same h

-- a later start has no more room
no_room_from : (align bytes from later : ℕ) (xs : List Block) → from ≤ later → NoRoom align bytes from xs → NoRoom align bytes later xs
no_room_from align bytes from later [] less h = tt
no_room_from align bytes from later (b ∷ xs) less h = (λ at m low. h.0 at m (omega arith), h.1)

pub no_room_append : (align bytes from : ℕ) (xs ys : List Block) → NoRoom align bytes from xs → NoRoom align bytes (after from xs) ys → NoRoom align bytes from (xs ++ ys)
no_room_append align bytes from [] ys h k = k
no_room_append align bytes from (b ∷ xs) ys h k = (h.0, no_room_append align bytes (b.at + b.bytes + 1) xs ys h.1 k)

pub no_room_left : (align bytes from : ℕ) (xs ys : List Block) → NoRoom align bytes from (xs ++ ys) → NoRoom align bytes from xs
no_room_left align bytes from [] ys h = tt
no_room_left align bytes from (b ∷ xs) ys h = (h.0, no_room_left align bytes (b.at + b.bytes + 1) xs ys h.1)

pub no_room_right : (align bytes from : ℕ) (xs ys : List Block) → NoRoom align bytes from (xs ++ ys) → NoRoom align bytes (after from xs) ys
no_room_right align bytes from [] ys h = h
no_room_right align bytes from (b ∷ xs) ys h = no_room_right align bytes (b.at + b.bytes + 1) xs ys h.1

pub no_room_take : (align bytes from : ℕ) (xs : List Block) (i : ℕ) → NoRoom align bytes from xs → NoRoom align bytes from (take i xs)
no_room_take align bytes from [] zero h = tt
no_room_take align bytes from [] (suc i) h = tt
no_room_take align bytes from (b ∷ xs) zero h = tt
no_room_take align bytes from (b ∷ xs) (suc i) h = (h.0, no_room_take align bytes (b.at + b.bytes + 1) xs i h.1)

pub no_room_drop : (align bytes from : ℕ) (xs : List Block) (i : ℕ) → NoRoom align bytes from xs → NoRoom align bytes (after from (take i xs)) (drop i xs)
no_room_drop align bytes from [] zero h = tt
no_room_drop align bytes from [] (suc i) h = tt
no_room_drop align bytes from (b ∷ xs) zero h = h
no_room_drop align bytes from (b ∷ xs) (suc i) h = no_room_drop align bytes (b.at + b.bytes + 1) xs i h.1

-- one block more before which there is no room
pub no_room_at : (align bytes from : ℕ) (xs : List Block) (i : ℕ) (d : Block) → i < length xs → NoRoom align bytes from (take i xs) → HasNoRoom align bytes (after from (take i xs)) (get_or xs i d).at → NoRoom align bytes from (take (suc i) xs)
no_room_at align bytes from [] i d less h k = absurd (omega arith)
no_room_at align bytes from (b ∷ xs) zero d less h k = (k, tt)
no_room_at align bytes from (b ∷ xs) (suc i) d less h k = (h.0, no_room_at align bytes (b.at + b.bytes + 1) xs i d (omega arith) h.1 k)

-- a block that came, so near behind the one before it
pub no_room_insert : (align bytes from : ℕ) (xs : List Block) (i : ℕ) (b : Block) → i ≤ length xs → NoRoom align bytes from xs → after from (take i xs) ≤ b.at → b.at ≤ after from (take i xs) + bytes → NoRoom align bytes from (insert xs i b)
no_room_insert align bytes from [] zero b less h low near = (λ at m k. omega arith, tt)
no_room_insert align bytes from [] (suc i) b less h low near = absurd (omega arith)
no_room_insert align bytes from (c ∷ xs) zero b less h low near = (λ at m k. omega arith, no_room_from align bytes from (b.at + b.bytes + 1) (c ∷ xs) (omega arith) h)
no_room_insert align bytes from (c ∷ xs) (suc i) b less h low near = (h.0, no_room_insert align bytes (c.at + c.bytes + 1) xs i b (omega arith) h.1 low near)

-- a block that went, where the next is so near behind the one before it
pub no_room_remove : (align bytes from : ℕ) (xs : List Block) (i : ℕ) → NoRoom align bytes from xs → Head (λ b. b.at ≤ after from (take i xs) + bytes) (drop (suc i) xs) → NoRoom align bytes from (remove xs i)
no_room_remove align bytes from [] zero h near = tt
no_room_remove align bytes from [] (suc i) h near = tt
no_room_remove align bytes from (b ∷ []) zero h near = tt
no_room_remove align bytes from (b ∷ c ∷ xs) zero h near = (λ at m k. omega arith, h.1.1)
no_room_remove align bytes from (b ∷ xs) (suc i) h near = (h.0, no_room_remove align bytes (b.at + b.bytes + 1) xs i h.1 near)

-- other free bytes before the first block
pub no_room_begin : (align bytes from other : ℕ) (xs : List Block) → NoRoom align bytes from xs → Head (λ b. b.at ≤ other + bytes) xs → NoRoom align bytes other xs
no_room_begin align bytes from other [] h near = tt
no_room_begin align bytes from other (b ∷ xs) h near = (λ at m k. omega arith, h.1)

-- the most bytes before a block
pub widest_append : (from : ℕ) (xs ys : List Block) → widest from (xs ++ ys) ≡ max (widest from xs) (widest (after from xs) ys)
widest_append from [] ys = omega arith
widest_append from (b ∷ xs) ys = rw (widest_append (b.at + b.bytes + 1) xs ys) (omega arith)

pub widest_at : (from : ℕ) (xs : List Block) (i : ℕ) (d : Block) → i < length xs → widest from (take (suc i) xs) ≡ max (widest from (take i xs)) ((get_or xs i d).at - after from (take i xs))
widest_at from [] i d less = absurd (omega arith)
widest_at from (b ∷ xs) zero d less = omega arith
widest_at from (b ∷ xs) (suc i) d less = rw (widest_at (b.at + b.bytes + 1) xs i d (omega arith)) (omega arith)

-- blocks by their first ones and the others
pub stand_rest : (from end : ℕ) (xs : List Block) (i : ℕ) → Stand from end xs → Stand (after from (take i xs)) end (drop i xs)
stand_rest from end [] zero h = h
stand_rest from end [] (suc i) h = h
stand_rest from end (b ∷ xs) zero h = h
stand_rest from end (b ∷ xs) (suc i) h = stand_rest (b.at + b.bytes + 1) end xs i h.1

pub stand_append : (from end : ℕ) (xs ys : List Block) → Stand from end xs → Stand (after from xs) end ys → Stand from end (xs ++ ys)
stand_append from end [] ys h k = k
stand_append from end (b ∷ xs) ys h k = (h.0, stand_append (b.at + b.bytes + 1) end xs ys h.1 k)

-- blocks come to their end at or behind where they begin to stand
pub after_above : (from end : ℕ) (xs : List Block) → Stand from end xs → from ≤ after from xs
after_above from end [] h = omega arith
after_above from end (b ∷ xs) h = let k = h.0 in let m = after_above (b.at + b.bytes + 1) end xs h.1 in omega arith
