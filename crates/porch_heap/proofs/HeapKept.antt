-- What a heap keeps, after a block came or went.
use Rattle.std.proofs.Common.{◌≡◌, ℕ, zero, suc, ◌+◌, ◌<◌, ◌≤◌, inl, inr, List, [], ◌∷◌, length, take, drop, set, map, replicate, ◌^◌, refl, arith, get_or}
use Rattle.std.specs.Prelude.{insert, remove}
use Rattle.std.proofs.lemmas.List.Edits.{length-insert, length-remove}
use Rattle.porch_heap.specs.declared.block.Block.{Block}
use Rattle.porch_heap.specs.declared.hint.Hint.{Hint}
use Rattle.porch_heap.specs.Blocks.{HeapState, HasSome, IsAlignment, Each, Stand, IsApart, IsFirstGap, HasNoGap, IsGap}
use Rattle.porch_heap.specs.inside.Searching.{Divides, state}
use Rattle.porch_heap.specs.inside.ChunkRow.{after, stop}
use Rattle.porch_heap.specs.inside.Hints.{Keeps, lowered, start_at}
use Rattle.porch_heap.proofs.Lists.{each_inserted, each_removed, each_map, stand_low}
use Rattle.porch_heap.proofs.Changes.{stand_insert, stand_remove, each_insert}
use Rattle.porch_heap.proofs.Hints.{IsStart, fresh_hints, fewer_places, set_hint, lowered_hints, start_true, hint_at, weaker}

-- a place below the bytes that became free is apart from the block that went
apart_removed : (from end at bytes : ℕ) (xs : List Block) (i : ℕ) → Stand from end xs → from ≤ at → at < after from (take i xs) → Each (IsApart at bytes) (remove xs i) → Each (IsApart at bytes) xs
apart_removed from end at bytes [] i h low below e = tt
apart_removed from end at bytes (b ∷ xs) zero h low below e = absurd (omega arith)
apart_removed from end at bytes (b ∷ xs) (suc i) h low below e =
    elim e.0 [
      | inl before ↦ (inl before, each_map (λ c. b.at + b.bytes + 1 ≤ c.at) (IsApart at bytes) (λ c k. inl (omega arith)) xs (stand_low (b.at + b.bytes + 1) end xs h.1))
      | inr behind ↦ (inr behind, apart_removed (b.at + b.bytes + 1) end at bytes xs i h.1 (omega arith) below e.1)
    ]

-- a place for as many bytes as became free is apart from the block that went
apart_wide : (from end at bytes : ℕ) (xs : List Block) (i : ℕ) → Stand from end xs → from ≤ at → at + bytes < end → stop end (drop (suc i) xs) ≤ after from (take i xs) + bytes → Each (IsApart at bytes) (remove xs i) → Each (IsApart at bytes) xs
apart_wide from end at bytes [] i h low inside wide e = tt
apart_wide from end at bytes (b ∷ []) zero h low inside wide e = absurd (omega arith)
apart_wide from end at bytes (b ∷ c ∷ xs) zero h low inside wide e =
    elim e.0 [
      | inl before ↦ absurd (omega arith)
      | inr behind ↦ (let next = h.1.0 in inr (omega arith), e)
    ]
apart_wide from end at bytes (b ∷ xs) (suc i) h low inside wide e =
    elim e.0 [
      | inl before ↦ (inl before, each_map (λ c. b.at + b.bytes + 1 ≤ c.at) (IsApart at bytes) (λ c k. inl (omega arith)) xs (stand_low (b.at + b.bytes + 1) end xs h.1))
      | inr behind ↦ (inr behind, apart_wide (b.at + b.bytes + 1) end at bytes xs i h.1 (omega arith) inside wide e.1)
    ]

pub removed_keeps : (base size : ℕ) (live : List Block) (hints : List Hint) (index from count : ℕ) → Keeps (state base size live) hints → index < length live → from ≡ after base (take index live) → stop (base + size) (drop (index + 1) live) ≤ from + count → Keeps (state base size (remove live index)) (map (lowered from count) hints)
removed_keeps base size live hints index from count k less begins reaches =
    let stand = k.heap.stand in
    let few = k.heap.few in
    let shorter = length-remove live index less in
    let next : index + 1 ≡ suc index = omega arith in
    let wide : stop (base + size) (drop (suc index) live) ≤ after base (take index live) + count = rw (next, begins) at reaches in
    record {
      heap = record { small = k.heap.small; few = omega arith; stand = stand_remove base (base + size) live index stand; some = each_removed HasSome live index k.heap.some };
      true_hints = lowered_hints (state base size live) (state base size (remove live index)) from count refl
          (λ bytes align at below g. record {
            multiple = g.multiple;
            low = g.low;
            high = g.high;
            apart = apart_removed base (base + size) at bytes live index stand g.low (omega arith) g.apart;
          })
          (λ bytes align at many g. record {
            multiple = g.multiple;
            low = g.low;
            high = g.high;
            apart = apart_wide base (base + size) at bytes live index stand g.low g.high (omega arith) g.apart;
          })
          hints k.true_hints;
    }

pub inserted_keeps : (base size : ℕ) (live : List Block) (hints : List Hint) (index : ℕ) (b : Block) → Keeps (state base size live) hints → base ≤ b.at → b.at + b.bytes < base + size → Divides live index b.at b.bytes → length live < 65536 → HasSome b → Keeps (state base size (insert live index b)) hints
inserted_keeps base size live hints index b k low high place few some =
    let stand = k.heap.stand in
    let longer = length-insert live index b place.within in
    record {
      heap = record { small = k.heap.small; few = omega arith; stand = stand_insert base (base + size) live index b stand place.within low place.before place.behind high; some = each_inserted HasSome live index b k.heap.some some };
      true_hints = fewer_places (state base size live) (state base size (insert live index b)) refl (λ bytes align at g. record { multiple = g.multiple; low = g.low; high = g.high; apart = (each_insert (IsApart at bytes) live index b g.apart).1 }) hints k.true_hints;
    }

-- a new hint: the first place for the least request of a class
pub hinted_keeps : (base size : ℕ) (live : List Block) (hints : List Hint) (number bytes align at : ℕ) → Keeps (state base size live) hints → IsAlignment align → IsFirstGap (state base size live) bytes align at → Keeps (state base size live) (set hints number (record { bytes = bytes; align = align; low = at }))
hinted_keeps base size live hints number bytes align at k a first =
    let high = first.gap.high in
    record {
      heap = k.heap;
      true_hints = set_hint (state base size live) hints number _ k.true_hints (record { align = a; high = omega arith; none = λ other below g. let least = first.least other g in omega arith });
    }

-- where a search begins
pub start_keeps : (base size : ℕ) (live : List Block) (hints : List Hint) (bytes align number : ℕ) (d : Hint) → Keeps (state base size live) hints → IsAlignment align → number < length hints → IsStart (state base size live) bytes align (start_at base bytes align (get_or hints number d))
start_keeps base size live hints bytes align number d k a less =
    start_true (state base size live) bytes align base (get_or hints number d) a (hint_at (state base size live) hints number d k.true_hints less)
    (record { low = omega arith; high = omega arith; none = λ at below g. let low = g.low in omega arith })

-- no place for the least request of a class, none for the request
pub none_for : (h : HeapState) (bytes small align narrow : ℕ) → IsAlignment align → IsAlignment narrow → small ≤ bytes → narrow ≤ align → HasNoGap h small narrow → HasNoGap h bytes align
none_for h bytes small align narrow a n less k none at g = none at (weaker h bytes small align narrow at a n less k g)

-- the first place for the least request of a class, none before it for the request
pub none_before : (h : HeapState) (bytes small align narrow first : ℕ) → IsAlignment align → IsAlignment narrow → small ≤ bytes → narrow ≤ align → IsFirstGap h small narrow first → (at : ℕ) → at < first → IsGap h bytes align at → ⊥
none_before h bytes small align narrow first a n less k f at below g = let least = f.least at (weaker h bytes small align narrow at a n less k g) in omega arith

-- a new heap
pub fresh_keeps : (base size : ℕ) → base + size < 2 ^ 62 → Keeps (state base size []) (replicate 64 (record { bytes = 1; align = 1; low = 0 }))
fresh_keeps base size small = record {
  heap = record { small = small; few = omega arith; stand = omega arith; some = tt };
  true_hints = fresh_hints (state base size []) 64;
}
