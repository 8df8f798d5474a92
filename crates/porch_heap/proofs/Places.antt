-- What a search for a place has found.
use Rattle.std.proofs.Common.{◌≡◌, ℕ, ◌+◌, ◌-◌, ◌%◌, ◌<◌, ◌≤◌, inl, inr, List, [], ◌∷◌, ◌++◌, length, take, drop, get_or, max, zero, suc, None, Some, sym, subst, arith}
use Rattle.std.specs.Prelude.{Option, IfSome, IfNone}
use Rattle.std.proofs.lemmas.Bool.{cases_lt}
use Rattle.std.proofs.lemmas.List.{take_all}
use Rattle.porch_heap.specs.declared.block.Block.{Block}
use Rattle.porch_heap.specs.Blocks.{IsHeap, Each, Stand, IsApart, IsGap, IsFirstGap, HasNoGap}
use Rattle.porch_heap.specs.Gaps.{longest_between}
use Rattle.porch_heap.specs.inside.Searching.{EndsBefore, BeginsBehind, Head, Divides, state}
use Rattle.porch_heap.specs.declared.chunks.Place.{Place}
use Rattle.porch_heap.specs.declared.chunks.Seat.{Seat}
use Rattle.porch_heap.specs.Chunks.{ChunkState, blocks_of}
use Rattle.porch_heap.specs.inside.ChunkRow.{HasNoRoom, NoRoom, IsBehind, IsFound, after, widest}
use Rattle.porch_heap.specs.inside.Seats.{number_of}
use Rattle.porch_heap.proofs.Lists.{each_map, each_at, each_parts, each_take, stand_drop, stand_high, stand_low, head_past}
use Rattle.porch_heap.proofs.After.{after_above, ends_after, stand_take}

head_map : (P Q : Block → Type 0) → ((b : Block) → P b → Q b) → (bs : List Block) → Head P bs → Head Q bs
head_map P Q f [] h = tt
head_map P Q f (b ∷ bs) h = f b h

head_get : (P : Block → Type 0) (xs : List Block) (i : ℕ) (d : Block) → i < length xs → Head P (drop i xs) → P (get_or xs i d)
head_get P [] i d less h = absurd (omega arith)
head_get P (b ∷ xs) zero d less h = h
head_get P (b ∷ xs) (suc i) d less h = head_get P xs i d (omega arith) h

-- a place apart from blocks before which there is no room lies behind them
no_room_behind : (align bytes from at : ℕ) (xs : List Block) → NoRoom align bytes from xs → at % align ≡ 0 → from ≤ at → Each (IsApart at bytes) xs → after from xs ≤ at
no_room_behind align bytes from at [] h multiple low e = low
no_room_behind align bytes from at (b ∷ xs) h multiple low e =
    elim e.0 [
      | inl before ↦ (let k = h.0 at multiple low in absurd (omega arith))
      | inr behind ↦ no_room_behind align bytes (b.at + b.bytes + 1) at xs h.1 multiple (omega arith) e.1
    ]

-- a place behind the first of the blocks and before the others
between_gap : (base size : ℕ) (live : List Block) (bytes align index at : ℕ) → IsHeap (state base size live) → at % align ≡ 0 → after base (take index live) ≤ at → at + bytes < base + size → Head (BeginsBehind (at + bytes)) (drop index live) → IsGap (state base size live) bytes align at
between_gap base size live bytes align index at heap multiple low inside behind =
    let first = stand_take base (base + size) live index heap.stand in
    let base_low = after_above base (base + size) (take index live) first in
    let before : Each (EndsBefore at) (take index live) = ends_after base (base + size) at (take index live) first low in
    let later : Each (λ b. at + bytes + 1 ≤ b.at) (drop index live) =
    stand_drop base (base + size) live index (at + bytes + 1) heap.stand (head_map (BeginsBehind (at + bytes)) (λ b. at + bytes + 1 ≤ b.at) (λ b h. omega arith) (drop index live) behind)
    in
    record {
      multiple = multiple;
      low = omega arith;
      high = inside;
      apart = each_parts (IsApart at bytes) live index (each_map (EndsBefore at) (IsApart at bytes) (λ b h. inr h) (take index live) before) (each_map (λ b. at + bytes + 1 ≤ b.at) (IsApart at bytes) (λ b h. inl (omega arith)) (drop index live) later);
    }

-- a place before a block
pub found_gap : (base size : ℕ) (live : List Block) (bytes align index at : ℕ) → IsHeap (state base size live) → IsFound live base bytes align index at → IsFirstGap (state base size live) bytes align at
found_gap base size live bytes align index at heap found =
    let d : Block = record { at = 0; ty = 0; count = 0; bytes = 0 } in
    let inside : at + bytes < (get_or live index d).at = head_get (BeginsBehind (at + bytes)) live index d found.within found.behind in
    let high : (get_or live index d).at + (get_or live index d).bytes < base + size = each_at (λ (b : Block). b.at + b.bytes < base + size) live index d (stand_high base (base + size) live heap.stand) found.within in
    record {
      gap = between_gap base size live bytes align index at heap found.multiple found.low (omega arith) found.behind;
      least = λ other g. found.least other g.multiple (no_room_behind align bytes base other (take index live) found.none g.multiple g.low (each_take (IsApart other bytes) live index g.apart));
    }

pub found_divides : (base size : ℕ) (live : List Block) (bytes align index at : ℕ) → IsHeap (state base size live) → IsFound live base bytes align index at → Divides live index at bytes
found_divides base size live bytes align index at heap found =
    let within = found.within in
    record {
      within = omega arith;
      before = ends_after base (base + size) at (take index live) (stand_take base (base + size) live index heap.stand) found.low;
      behind = found.behind;
    }

-- no place before a block nor behind all
pub full_gap : (base size : ℕ) (live : List Block) (bytes align : ℕ) → NoRoom align bytes base live → HasNoRoom align bytes (after base live) (base + size) → HasNoGap (state base size live) bytes align
full_gap base size live bytes align none end at g =
    let high = g.high in
    let low = end at g.multiple (no_room_behind align bytes base at live none g.multiple g.low g.apart) in
    omega arith

-- a place behind all blocks
pub last_gap : (base size : ℕ) (live : List Block) (bytes align at : ℕ) → IsHeap (state base size live) → NoRoom align bytes base live → IsBehind (after base live) (base + size) bytes align at → IsFirstGap (state base size live) bytes align at
last_gap base size live bytes align at heap none last = record {
  gap = between_gap base size live bytes align (length live) at heap last.multiple (rw (take_all (length live) live (omega arith)) last.low) last.inside (head_past (BeginsBehind (at + bytes)) live (length live) (omega arith));
  least = λ other g. last.least other g.multiple (no_room_behind align bytes base other live none g.multiple g.low g.apart);
}

pub last_divides : (base size : ℕ) (live : List Block) (bytes align at : ℕ) → IsHeap (state base size live) → IsBehind (after base live) (base + size) bytes align at → Divides live (length live) at bytes
last_divides base size live bytes align at heap last = record {
  within = omega arith;
  before = rw (take_all (length live) live (omega arith)) (ends_after base (base + size) at live heap.stand last.low);
  behind = head_past (BeginsBehind (at + bytes)) live (length live) (omega arith);
}

pub last_first : (base size : ℕ) (live : List Block) (bytes align : ℕ) (r : Option Place) → IsHeap (state base size live) → NoRoom align bytes base live → IfSome r (λ p. IsBehind (after base live) (base + size) bytes align p.at) → IfSome r (λ p. IsFirstGap (state base size live) bytes align p.at)
last_first base size live bytes align None heap none last = tt
last_first base size live bytes align (Some p) heap none last = last_gap base size live bytes align p.at heap none last

pub last_number : (base size : ℕ) (cs : List ChunkState) (bytes align : ℕ) (r : Option Place) → IsHeap (state base size (blocks_of cs)) → IfSome r (λ p. IsBehind (after base (blocks_of cs)) (base + size) bytes align p.at) → IfSome r (λ p. p.before ≡ None) → IfSome r (λ p. Divides (blocks_of cs) (number_of cs p.before) p.at bytes)
last_number base size cs bytes align None heap last where_it_goes = tt
last_number base size cs bytes align (Some p) heap last where_it_goes =
    let P : Option Seat → Type 0 = λ o. Divides (blocks_of cs) (number_of cs o) p.at bytes in
    subst P (sym where_it_goes) (last_divides base size (blocks_of cs) bytes align p.at heap last)

pub last_none : (base size : ℕ) (live : List Block) (bytes align : ℕ) (r : Option Place) → NoRoom align bytes base live → IfNone r (HasNoRoom align bytes (after base live) (base + size)) → IfNone r (HasNoGap (state base size live) bytes align)
last_none base size live bytes align None none end = full_gap base size live bytes align none end
last_none base size live bytes align (Some p) none end = tt

-- blocks that end before an address below which there is no place have no room before them
room_below : (low end from bytes align : ℕ) (xs ys : List Block) → Stand low end (xs ++ ys) → Each (EndsBefore from) xs → ((at : ℕ) → at < from → at % align ≡ 0 → low ≤ at → at + bytes < end → Each (IsApart at bytes) (xs ++ ys) → ⊥) → NoRoom align bytes low xs
room_below low end from bytes align [] ys h e none = tt
room_below low end from bytes align (b ∷ xs) ys h e none =
    let here = e.0 in
    let first = h.0 in
    let high = (stand_high low end (b ∷ (xs ++ ys)) h).0 in (
      (λ at multiple k. elim (cases_lt (at + bytes) b.at) [
        | inl fits ↦ absurd (none at (omega arith) multiple k (omega arith) (inl fits, each_map (λ c. b.at + b.bytes + 1 ≤ c.at) (IsApart at bytes) (λ c m. inl (omega arith)) (xs ++ ys) (stand_low (b.at + b.bytes + 1) end (xs ++ ys) h.1)))
        | inr past ↦ past
      ]),
      room_below (b.at + b.bytes + 1) end from bytes align xs ys h.1 e.1 (λ at below multiple k inside apart. none at below multiple (omega arith) inside (inr (omega arith), apart)),
    )

pub hint_room : (base size from bytes align : ℕ) (xs ys : List Block) → IsHeap (state base size (xs ++ ys)) → Each (EndsBefore from) xs → ((at : ℕ) → at < from → IsGap (state base size (xs ++ ys)) bytes align at → ⊥) → NoRoom align bytes base xs
hint_room base size from bytes align xs ys heap e none =
    room_below base (base + size) from bytes align xs ys heap.stand e (λ at below multiple low inside apart. none at below (record { multiple = multiple; low = low; high = inside; apart = apart }))

-- the longest row of free bytes is the widest gap before a block or what is free behind all
pub longest_widest : (from end : ℕ) (xs : List Block) → longest_between from end xs ≡ max (widest from xs) (end - after from xs)
longest_widest from end [] = omega arith
longest_widest from end (b ∷ xs) = rw (longest_widest (b.at + b.bytes + 1) end xs) (omega arith)
