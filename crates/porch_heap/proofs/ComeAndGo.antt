-- The blocks of a heap with one more and with one less, and where they lie.
use Rattle.std.proofs.Common.{◌≡◌, ◌≢◌, ℕ, zero, suc, ◌+◌, ◌<◌, ◌≤◌, ◌⊎◌, inl, inr, true, false, not, cond, ◌==◌, List, [], ◌∷◌, length, refl, arith, ap, sym, ◌∙◌, subst}
use Rattle.std.specs.Prelude.{nat_lt}
use Rattle.std.proofs.lemmas.Bool.Decides.{nat_tests}
use Rattle.porch_heap.specs.declared.block.Block.{Block}
use Rattle.porch_heap.specs.Blocks.{HeapState, Each, Stand, HasSome, IsHeap, IsApart, IsGap, with_block, without, heap_with, heap_without}
use Rattle.porch_heap.specs.Gaps.{IsAmong}
use Rattle.porch_heap.proofs.Lists.{stand_low, stand_high}
use Rattle.porch_heap.proofs.Changes.{stand_from}

-- one block more
with_stand : (from end : ℕ) (b : Block) (xs : List Block) → Stand from end xs → from ≤ b.at → b.at + b.bytes < end → Each (IsApart b.at b.bytes) xs → Stand from end (with_block b xs)
with_stand from end b [] stand low high apart = (low, omega arith)
with_stand from end b (c ∷ xs) stand low high apart =
    elim (nat_lt b.at c.at) as (λ t. nat_lt b.at c.at ≡ t → Stand from end (cond t (b ∷ c ∷ xs) (c ∷ with_block b xs))) [
      | true ↦ λ e.
          let less : b.at < c.at = grind (arith, nat_tests) in
          elim apart.0 [
            | inl before ↦ (low, (omega (arith, before), stand.1))
            | inr behind ↦ absurd (omega (arith, behind, less))
          ]
      | false ↦ λ e.
          let more : c.at ≤ b.at = grind (arith, nat_tests) in
          elim apart.0 [
            | inl before ↦ absurd (omega (arith, before, more))
            | inr behind ↦ (stand.0, with_stand (c.at + c.bytes + 1) end b xs stand.1 (omega (arith, behind)) high apart.1)
          ]
    ] refl

with_each : (P : Block → Type 0) (b : Block) (xs : List Block) → P b → Each P xs → Each P (with_block b xs)
with_each P b [] here each = (here, tt)
with_each P b (c ∷ xs) here each =
    elim (nat_lt b.at c.at) as (λ t. Each P (cond t (b ∷ c ∷ xs) (c ∷ with_block b xs)))
    [ true ↦ (here, each) | false ↦ (each.0, with_each P b xs here each.1) ]

length-with : (b : Block) (xs : List Block) → length (with_block b xs) ≡ suc (length xs)
length-with b [] = refl
length-with b (c ∷ xs) =
    elim (nat_lt b.at c.at) as (λ t. length (cond t (b ∷ c ∷ xs) (c ∷ with_block b xs)) ≡ suc (suc (length xs)))
    [ true ↦ refl | false ↦ ap suc (length-with b xs) ]

pub heap_more : (h : HeapState) (b : Block) (align : ℕ) → IsHeap h → length h.blocks < 65536 → HasSome b → IsGap h b.bytes align b.at → IsHeap (heap_with b h)
heap_more h b align heap few some gap = record {
  small = heap.small;
  few = omega (arith, few, length-with b h.blocks);
  stand = with_stand h.base (h.base + h.bytes) b h.blocks heap.stand gap.low gap.high gap.apart;
  some = with_each HasSome b h.blocks some heap.some;
}

-- one block less
without_stand : (from end at : ℕ) (xs : List Block) → Stand from end xs → Stand from end (without at xs)
without_stand from end at [] stand = stand
without_stand from end at (b ∷ xs) stand =
    let low = stand.0 in
    let rest : Stand (b.at + b.bytes + 1) end (without at xs) = without_stand (b.at + b.bytes + 1) end at xs stand.1 in
    elim (b.at == at) as (λ t. Stand from end (cond (not t) (b ∷ without at xs) (without at xs)))
    [ true ↦ stand_from from (b.at + b.bytes + 1) end (without at xs) (omega arith) rest | false ↦ (low, rest) ]

without_each : (P : Block → Type 0) (at : ℕ) (xs : List Block) → Each P xs → Each P (without at xs)
without_each P at [] each = tt
without_each P at (b ∷ xs) each =
    elim (b.at == at) as (λ t. Each P (cond (not t) (b ∷ without at xs) (without at xs)))
    [ true ↦ without_each P at xs each.1 | false ↦ (each.0, without_each P at xs each.1) ]

length-without : (at : ℕ) (xs : List Block) → length (without at xs) ≤ length xs
length-without at [] = omega arith
length-without at (b ∷ xs) =
    let less : length (without at xs) ≤ length xs = length-without at xs in
    elim (b.at == at) as (λ t. length (cond (not t) (b ∷ without at xs) (without at xs)) ≤ suc (length xs))
    [ true ↦ omega (arith, less) | false ↦ omega (arith, less) ]

pub heap_less : (h : HeapState) (at : ℕ) → IsHeap h → IsHeap (heap_without at h)
heap_less h at heap = record {
  small = heap.small;
  few = omega (arith, heap.few, length-without at h.blocks);
  stand = without_stand h.base (h.base + h.bytes) at h.blocks heap.stand;
  some = without_each HasSome at h.blocks heap.some;
}

-- which blocks there are
first_among : (b : Block) (xs : List Block) → IsAmong (b ∷ xs) b
first_among b xs = (0, refl)

later_among : (b c : Block) (xs : List Block) → IsAmong xs c → IsAmong (b ∷ xs) c
later_among b c xs s = (suc s.0, s.1)

-- the first block of a list, or one behind it
among_cases : (b c : Block) (xs : List Block) → IsAmong (b ∷ xs) c → (b ≡ c) ⊎ IsAmong xs c
among_cases b c xs (zero, is) = let e : b ≡ c = cc in inl e
among_cases b c xs (suc i, is) = inr (i, is)

none_among : (c : Block) → IsAmong [] c → ⊥
none_among c (i, is) = cc

pub more_from : (b c : Block) (xs : List Block) → IsAmong (with_block b xs) c → (c ≡ b) ⊎ IsAmong xs c
more_from b c [] s = elim (among_cases b c [] s) [ inl e ↦ inl (sym e) | inr t ↦ inr t ]
more_from b c (x ∷ xs) s =
    elim (nat_lt b.at x.at) as (λ t. IsAmong (cond t (b ∷ x ∷ xs) (x ∷ with_block b xs)) c → (c ≡ b) ⊎ IsAmong (x ∷ xs) c) [
      | true ↦ λ k. elim (among_cases b c (x ∷ xs) k) [ inl e ↦ inl (sym e) | inr t ↦ inr t ]
      | false ↦ λ k. elim (among_cases x c (with_block b xs) k) [
        | inl e ↦ inr (subst (IsAmong (x ∷ xs)) e (first_among x xs))
        | inr t ↦ elim (more_from b c xs t) [ inl e ↦ inl e | inr u ↦ inr (later_among x c xs u) ]
      ]
    ] s

pub more_new : (b : Block) (xs : List Block) → IsAmong (with_block b xs) b
more_new b [] = (0, refl)
more_new b (x ∷ xs) =
    elim (nat_lt b.at x.at) as (λ t. IsAmong (cond t (b ∷ x ∷ xs) (x ∷ with_block b xs)) b)
    [ true ↦ first_among b (x ∷ xs) | false ↦ later_among x b (with_block b xs) (more_new b xs) ]

pub more_old : (b c : Block) (xs : List Block) → IsAmong xs c → IsAmong (with_block b xs) c
more_old b c [] s = absurd (none_among c s)
more_old b c (x ∷ xs) s =
    elim (nat_lt b.at x.at) as (λ t. IsAmong (cond t (b ∷ x ∷ xs) (x ∷ with_block b xs)) c) [
      | true ↦ later_among b c (x ∷ xs) s
      | false ↦ elim (among_cases x c xs s) [
        | inl e ↦ subst (IsAmong (x ∷ with_block b xs)) e (first_among x (with_block b xs))
        | inr t ↦ later_among x c (with_block b xs) (more_old b c xs t)
      ]
    ]

pub more_iff : (b c : Block) (xs : List Block) → (c ≡ b) ⊎ IsAmong xs c → IsAmong (with_block b xs) c
more_iff b c xs (inl e) = subst (IsAmong (with_block b xs)) (sym e) (more_new b xs)
more_iff b c xs (inr s) = more_old b c xs s

pub less_from : (at : ℕ) (c : Block) (xs : List Block) → IsAmong (without at xs) c → IsAmong xs c × (c.at ≢ at)
less_from at c [] s = absurd (none_among c s)
less_from at c (x ∷ xs) s =
    elim (x.at == at) as (λ t. (x.at == at) ≡ t → IsAmong (cond (not t) (x ∷ without at xs) (without at xs)) c → IsAmong (x ∷ xs) c × (c.at ≢ at)) [
      | true ↦ λ e k. let r : IsAmong xs c × (c.at ≢ at) = less_from at c xs k in (later_among x c xs r.0, r.1)
      | false ↦ λ e k. elim (among_cases x c (without at xs) k) [
        | inl same ↦ (let other : x.at ≢ at = grind (arith, nat_tests) in (subst (IsAmong (x ∷ xs)) same (first_among x xs), subst (λ (y : Block). y.at ≢ at) same other))
        | inr t ↦ (let r : IsAmong xs c × (c.at ≢ at) = less_from at c xs t in (later_among x c xs r.0, r.1))
      ]
    ] refl s

pub less_to : (at : ℕ) (c : Block) (xs : List Block) → IsAmong xs c → c.at ≢ at → IsAmong (without at xs) c
less_to at c [] s other = absurd (none_among c s)
less_to at c (x ∷ xs) s other =
    elim (x.at == at) as (λ t. (x.at == at) ≡ t → IsAmong (cond (not t) (x ∷ without at xs) (without at xs)) c) [
      | true ↦ λ e. elim (among_cases x c xs s) [
        | inl same ↦ (let here : x.at ≡ at = grind (arith, nat_tests) in absurd (other (subst (λ (y : Block). y.at ≡ at) same here)))
        | inr t ↦ less_to at c xs t other
      ]
      | false ↦ λ e. elim (among_cases x c xs s) [
        | inl same ↦ subst (IsAmong (x ∷ without at xs)) same (first_among x (without at xs))
        | inr t ↦ later_among x c (without at xs) (less_to at c xs t other)
      ]
    ] refl

-- what holds of each block holds of one among them
each_among : (P : Block → Type 0) (xs : List Block) (c : Block) → Each P xs → IsAmong xs c → P c
each_among P [] c each s = absurd (none_among c s)
each_among P (x ∷ xs) c each s = elim (among_cases x c xs s) [ inl e ↦ subst P e each.0 | inr t ↦ each_among P xs c each.1 t ]

pub lies_within : (h : HeapState) (b : Block) → IsHeap h → IsAmong h.blocks b → (h.base ≤ b.at) × (b.at + b.bytes < h.base + h.bytes) × HasSome b
lies_within h b heap s = (
  each_among (λ c. h.base ≤ c.at) h.blocks b (stand_low h.base (h.base + h.bytes) h.blocks heap.stand) s,
  each_among (λ c. c.at + c.bytes < h.base + h.bytes) h.blocks b (stand_high h.base (h.base + h.bytes) h.blocks heap.stand) s,
  each_among HasSome h.blocks b heap.some s,
)

stand_apart : (from end : ℕ) (xs : List Block) (b c : Block) → Stand from end xs → IsAmong xs b → IsAmong xs c → b ≢ c → IsApart b.at b.bytes c
stand_apart from end [] b c stand s t other = absurd (none_among b s)
stand_apart from end (x ∷ xs) b c stand s t other =
    let low : Each (λ y. x.at + x.bytes + 1 ≤ y.at) xs = stand_low (x.at + x.bytes + 1) end xs stand.1 in
    elim (among_cases x b xs s) [
      | inl is_b ↦ elim (among_cases x c xs t) [
        | inl is_c ↦ absurd (other (sym is_b ∙ is_c))
        | inr there ↦ (let far : x.at + x.bytes + 1 ≤ c.at = each_among (λ y. x.at + x.bytes + 1 ≤ y.at) xs c low there in
            subst (λ (y : Block). IsApart y.at y.bytes c) is_b (inl (omega (arith, far))))
      ]
      | inr here ↦ elim (among_cases x c xs t) [
        | inl is_c ↦ (let far : x.at + x.bytes + 1 ≤ b.at = each_among (λ y. x.at + x.bytes + 1 ≤ y.at) xs b low here in
            subst (λ (y : Block). IsApart b.at b.bytes y) is_c (inr (omega (arith, far))))
        | inr there ↦ stand_apart (x.at + x.bytes + 1) end xs b c stand.1 here there other
      ]
    ]

pub lie_apart : (h : HeapState) (b c : Block) → IsHeap h → IsAmong h.blocks b → IsAmong h.blocks c → b ≢ c → IsApart b.at b.bytes c
lie_apart h b c heap s t other = stand_apart h.base (h.base + h.bytes) h.blocks b c heap.stand s t other
