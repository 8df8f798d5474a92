-- Leaves of an object that become others.
use Rattle.std.proofs.Common.{◌≡◌, ℕ, zero, suc, ◌+◌, ◌≤◌, true, nat_le, List, [], ◌∷◌, ◌++◌, get_or, length, map, take, drop, inl, inr, sym, ap, ◌∙◌, arith}
use Rattle.std.proofs.lemmas.List.{map-append, take-map, drop-map, length-map}
use Rattle.std.proofs.lemmas.Bool.Decides.{leb_tells}
use Rattle.porch_objects.specs.Store as store
use Rattle.porch_objects.specs.Store.{with_leaves}
use Rattle.porch_objects.specs.Pointers.{spliced}
use Rattle.porch_live.specs.declared.value.Value.{Value}
use Rattle.porch_live.specs.Views.{value_of}
use Rattle.porch_live.specs.inside.Edits.{spliced_in, with_part}

seen_part : (old vs : List Value) (at : ℕ) → map value_of (spliced_in old at vs) ≡ spliced (map value_of old) at (map value_of vs)
seen_part old vs at =
    map-append value_of (take at old) (vs ++ drop (at + length vs) old)
    ∙ ap (λ (xs : List store.Value). xs ++ map value_of (vs ++ drop (at + length vs) old)) (sym (take-map value_of at old))
    ∙ ap (λ (xs : List store.Value). take at (map value_of old) ++ xs)
    (map-append value_of vs (drop (at + length vs) old)
    ∙ ap (λ (xs : List store.Value). map value_of vs ++ xs)
    (sym (drop-map value_of (at + length vs) old) ∙ ap (λ n. drop (at + n) (map value_of old)) (sym (length-map vs value_of))))

-- where the object has all of the leaves
pub put_part : (o : store.Object) (old new vs : List Value) (at : ℕ) → o.leaves ≡ map value_of old → new ≡ spliced_in old at vs
    → at + length vs ≤ length old → with_leaves o (map value_of new) ≡ with_part at (map value_of vs) o
put_part o old new vs at leaves is fits =
    let within : nat_le (at + length (map value_of vs)) (length o.leaves) ≡ true =
    elim (leb_tells (at + length (map value_of vs)) (length o.leaves)) [
      | inl w ↦ w.0
      | inr w ↦ absurd (omega (arith, w.1, fits, length-map vs value_of, length-map old value_of, ap length leaves))
    ] in
    rw (is, within, leaves) (ap (λ (xs : List store.Value). with_leaves o xs) (seen_part old vs at))

pub seen_taken : (xs : List Value) (at count : ℕ) → map value_of (take count (drop at xs)) ≡ take count (drop at (map value_of xs))
seen_taken xs at count =
    sym (take-map value_of count (drop at xs)) ∙ ap (λ (vs : List store.Value). take count vs) (sym (drop-map value_of at xs))

-- the only leaf becomes the first of other values, and stays where there is none
pub only_put : (x y : Value) (at : ℕ) (vs : List Value) → y ≡ get_or vs 0 x → at + length vs ≤ 1 → y ∷ [] ≡ spliced_in (x ∷ []) at vs
only_put x y zero [] is fits = ap (λ (v : Value). let vs : List Value = v ∷ [] in vs) is
only_put x y (suc zero) [] is fits = ap (λ (v : Value). let vs : List Value = v ∷ [] in vs) is
only_put x y (suc (suc at)) [] is fits = absurd (omega (arith, fits))
only_put x y zero (v ∷ []) is fits = ap (λ (v : Value). let vs : List Value = v ∷ [] in vs) is
only_put x y (suc at) (v ∷ []) is fits = absurd (omega (arith, fits))
only_put x y at (v ∷ w ∷ vs) is fits = absurd (omega (arith, fits))
