-- Leaves of one value, and one leaf more.
use Rattle.std.proofs.Common.{◌≡◌, ℕ, zero, suc, ◌+◌, ◌-◌, List, [], ◌∷◌, ◌++◌, map, take, length, replicate, refl, sym, ap, ◌∙◌, arith}
use Rattle.std.proofs.lemmas.List.{map-append, length-map}
use Rattle.std.proofs.lemmas.List.FromFn.{map-range_with_len_more}
use Rattle.std.specs.List.{range_with_len}
use Rattle.porch_objects.specs.Store as store
use Rattle.porch_live.specs.declared.value.Value.{Value}
use Rattle.porch_live.specs.Views.{value_of}

pub alike : (n : ℕ) (v : Value) → map value_of (replicate n v) ≡ replicate n (value_of v)
alike zero v = refl
alike (suc n) v = ap (λ (vs : List store.Value). value_of v ∷ vs) (alike n v)

none_taken : (n : ℕ) → take n (let none : List Value = [] in none) ≡ []
none_taken zero = refl
none_taken (suc n) = refl

-- values that are all alike, put behind none
pub behind_none : (xs : List Value) (n len : ℕ) (v : Value) → xs ≡ [] → len ≡ 0 → take n xs ++ replicate (n - len) v ≡ replicate n v
behind_none xs n len v none nil = rw (none, nil, none_taken n) (let same : n - 0 ≡ n = omega arith in rw same refl)

-- leaves that were all given one value
pub all_become : (old new : List Value) (n : ℕ) (v : Value) → n ≡ length old → new ≡ replicate n v
    → map value_of new ≡ replicate (length (map value_of old)) (value_of v)
all_become old new n v len is =
    ap (λ vs. map value_of vs) is ∙ alike n v ∙ ap (λ k. replicate k (value_of v)) (len ∙ sym (length-map old value_of))

-- one leaf more
pub one_more : (f : ℕ → store.Value) (old new : List Value) (v : Value) (n : ℕ) → map value_of old ≡ map f (range_with_len 0 n)
    → new ≡ old ++ v ∷ [] → value_of v ≡ f n → map value_of new ≡ map f (range_with_len 0 (n + 1))
one_more f old new v n before is value =
    ap (λ vs. map value_of vs) is ∙ map-append value_of old (v ∷ [])
    ∙ ap (λ (vs : List store.Value). vs ++ value_of v ∷ []) before
    ∙ ap (λ (w : store.Value). map f (range_with_len 0 n) ++ w ∷ []) value
    ∙ sym (map-range_with_len_more f 0 n n (omega arith))
