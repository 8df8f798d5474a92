-- What is known of places below an address, after a block came or went.
use Rattle.std.proofs.Common.{◌≡◌, ℕ, zero, suc, ◌+◌, ◌%◌, ◌<◌, ◌≤◌, inl, inr, true, false, ◌&&◌, cond, min, nat_lt, nat_le, List, [], ◌∷◌, length, take, drop, set, get_or, map, replicate, refl, subst, sym, arith}
use Rattle.std.proofs.lemmas.Bool.{and_parts, ltb-true, ltb-false, leb-true}
use Rattle.porch_heap.specs.declared.hint.Hint.{Hint}
use Rattle.porch_heap.specs.Blocks.{HeapState, IsAlignment, IsApart, IsGap}
use Rattle.porch_heap.specs.inside.Hints.{IsHint, AreHints, lowered}
use Rattle.porch_heap.proofs.Lists.{each_map}

-- a write at the number that the loop is at
pub lower_done : (f : Hint → Hint) (xs ys : List Hint) (i : ℕ) (y d : Hint) → i < length xs → i < length ys → take i xs ≡ map f (take i ys) → drop i xs ≡ drop i ys → y ≡ f (get_or xs i d) → take (suc i) (set xs i y) ≡ map f (take (suc i) ys)
lower_done f [] ys i y d less k done rest e = absurd (omega arith)
lower_done f (x ∷ xs) [] i y d less k done rest e = absurd (omega arith)
lower_done f (x ∷ xs) (z ∷ ys) zero y d less k done rest e = let same : x ≡ z = cc in rw (e, same) refl
lower_done f (x ∷ xs) (z ∷ ys) (suc i) y d less k done rest e =
    let tail : take i xs ≡ map f (take i ys) = cc in
    let first : x ≡ f z = cc in
    let more = lower_done f xs ys i y d (omega arith) (omega arith) tail rest e in
    rw (first, more) refl

pub lower_rest : (xs ys : List Hint) (i : ℕ) (x : Hint) → i < length xs → i < length ys → drop i xs ≡ drop i ys → drop (suc i) (set xs i x) ≡ drop (suc i) ys
lower_rest [] ys i x less k rest = absurd (omega arith)
lower_rest (a ∷ xs) [] i x less k rest = absurd (omega arith)
lower_rest (a ∷ xs) (b ∷ ys) zero x less k rest = cc
lower_rest (a ∷ xs) (b ∷ ys) (suc i) x less k rest = lower_rest xs ys i x (omega arith) (omega arith) rest

abbrev IsMultiple : ℕ → ℕ → Type 0
IsMultiple at n = at % n ≡ 0

-- a lower alignment divides a higher one
narrower : (at small large : ℕ) → IsAlignment small → IsAlignment large → small ≤ large → at % large ≡ 0 → at % small ≡ 0
narrower at small large (inl a) b less h = subst (IsMultiple at) (sym a) (omega arith)
narrower at small large (inr (inl a)) (inl b) less h = absurd (omega arith)
narrower at small large (inr (inl a)) (inr (inl b)) less h = (let k : at % 2 ≡ 0 = subst (IsMultiple at) b h in subst (IsMultiple at) (sym a) (omega arith))
narrower at small large (inr (inl a)) (inr (inr (inl b))) less h = (let k : at % 4 ≡ 0 = subst (IsMultiple at) b h in subst (IsMultiple at) (sym a) (omega arith))
narrower at small large (inr (inl a)) (inr (inr (inr b))) less h = (let k : at % 8 ≡ 0 = subst (IsMultiple at) b h in subst (IsMultiple at) (sym a) (omega arith))
narrower at small large (inr (inr (inl a))) (inl b) less h = absurd (omega arith)
narrower at small large (inr (inr (inl a))) (inr (inl b)) less h = absurd (omega arith)
narrower at small large (inr (inr (inl a))) (inr (inr (inl b))) less h = (let k : at % 4 ≡ 0 = subst (IsMultiple at) b h in subst (IsMultiple at) (sym a) (omega arith))
narrower at small large (inr (inr (inl a))) (inr (inr (inr b))) less h = (let k : at % 8 ≡ 0 = subst (IsMultiple at) b h in subst (IsMultiple at) (sym a) (omega arith))
narrower at small large (inr (inr (inr a))) (inl b) less h = absurd (omega arith)
narrower at small large (inr (inr (inr a))) (inr (inl b)) less h = absurd (omega arith)
narrower at small large (inr (inr (inr a))) (inr (inr (inl b))) less h = absurd (omega arith)
narrower at small large (inr (inr (inr a))) (inr (inr (inr b))) less h = (let k : at % 8 ≡ 0 = subst (IsMultiple at) b h in subst (IsMultiple at) (sym a) (omega arith))

-- a place for a larger request is one for a smaller
pub weaker : (h : HeapState) (bytes small align narrow at : ℕ) → IsAlignment align → IsAlignment narrow → small ≤ bytes → narrow ≤ align → IsGap h bytes align at → IsGap h small narrow at
weaker h bytes small align narrow at a n less k g =
    let high = g.high in
    record {
      multiple = narrower at narrow align n a k g.multiple;
      low = g.low;
      high = omega arith;
      apart = each_map (IsApart at bytes) (IsApart at small) (λ b e. elim e [ inl f ↦ inl (omega arith) | inr f ↦ inr f ]) h.blocks g.apart;
    }

-- no place below this address, which is in the heap
pub record IsStart (h : HeapState) (bytes align from : ℕ) : Type 0 where
  pub low : h.base ≤ from
  pub high : from ≤ h.base + h.bytes
  pub none : (at : ℕ) → at < from → IsGap h bytes align at → ⊥

-- where a hint says to begin, there is no place before
pub start_true : (h : HeapState) (bytes align from : ℕ) (hint : Hint) → IsAlignment align → IsHint h hint → IsStart h bytes align from → IsStart h bytes align (cond (nat_le hint.bytes bytes && nat_le hint.align align && nat_lt from hint.low) hint.low from)
start_true h bytes align from hint a true_hint s =
    elim (nat_le hint.bytes bytes && nat_le hint.align align && nat_lt from hint.low) as (λ b. (nat_le hint.bytes bytes && nat_le hint.align align && nat_lt from hint.low) ≡ b → IsStart h bytes align (cond b hint.low from)) [
      | true ↦ λ e.
          let (both, after) = and_parts (nat_le hint.bytes bytes && nat_le hint.align align) (nat_lt from hint.low) e in
          let (small, narrow) = and_parts (nat_le hint.bytes bytes) (nat_le hint.align align) both in
          let far = ltb-true from hint.low after in
          let s_low = s.low in
          record {
            low = omega arith;
            high = true_hint.high;
            none = λ at below g. true_hint.none at below (weaker h bytes hint.bytes align hint.align at a true_hint.align (leb-true hint.bytes bytes small) (leb-true hint.align align narrow) g);
          }
      | false ↦ λ e. s
    ] refl

pub hint_at : (h : HeapState) (hints : List Hint) (i : ℕ) (d : Hint) → AreHints h hints → i < length hints → IsHint h (get_or hints i d)
hint_at h [] i d t less = absurd (omega arith)
hint_at h (x ∷ hints) zero d t less = t.0
hint_at h (x ∷ hints) (suc i) d t less = hint_at h hints i d t.1 (omega arith)

-- hints of a new heap
pub fresh_hints : (h : HeapState) (n : ℕ) → AreHints h (replicate n (record { bytes = 1; align = 1; low = 0 }))
fresh_hints h zero = tt
fresh_hints h (suc n) = (record { align = inl refl; high = omega arith; none = λ at below g. absurd (omega arith) }, fresh_hints h n)

-- fewer places, the same hints
pub fewer_places : (h h' : HeapState) → h'.base + h'.bytes ≡ h.base + h.bytes → ((bytes align at : ℕ) → IsGap h' bytes align at → IsGap h bytes align at) → (hints : List Hint) → AreHints h hints → AreHints h' hints
fewer_places h h' same into [] t = tt
fewer_places h h' same into (hint ∷ hints) t =
    let high = t.0.high in
    (record { align = t.0.align; high = omega arith; none = λ at below g. t.0.none at below (into hint.bytes hint.align at g) }, fewer_places h h' same into hints t.1)

-- one hint replaced
pub set_hint : (h : HeapState) (hints : List Hint) (i : ℕ) (hint : Hint) → AreHints h hints → IsHint h hint → AreHints h (set hints i hint)
set_hint h [] i hint t k = tt
set_hint h (x ∷ hints) zero hint t k = (k, t.1)
set_hint h (x ∷ hints) (suc i) hint t k = (t.0, set_hint h hints i hint t.1 k)

-- hints lowered to where bytes became free
pub lowered_hints : (h h' : HeapState) (from count : ℕ) → h'.base + h'.bytes ≡ h.base + h.bytes → ((bytes align at : ℕ) → at < from → IsGap h' bytes align at → IsGap h bytes align at) → ((bytes align at : ℕ) → count ≤ bytes → IsGap h' bytes align at → IsGap h bytes align at) → (hints : List Hint) → AreHints h hints → AreHints h' (map (lowered from count) hints)
lowered_hints h h' from count same into wide [] t = tt
lowered_hints h h' from count same into wide (hint ∷ hints) t = (one, lowered_hints h h' from count same into wide hints t.1)
  where
    one : IsHint h' (lowered from count hint)
    one =
        let high = t.0.high in
        elim (nat_lt hint.bytes count) as (λ b. nat_lt hint.bytes count ≡ b → IsHint h' (cond b (record hint { low = min hint.low from }) hint)) [
          | true ↦ λ e. record { align = t.0.align; high = omega arith; none = λ at below g. t.0.none at (omega arith) (into hint.bytes hint.align at (omega arith) g) }
          | false ↦ λ e. record { align = t.0.align; high = omega arith; none = λ at below g. t.0.none at below (wide hint.bytes hint.align at (ltb-false hint.bytes count e) g) }
        ] refl
