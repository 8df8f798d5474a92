-- One more number, and its place.
use Rattle.std.proofs.Common.{◌≡◌, ◌<◌, ◌+◌, ◌^◌, ℕ, suc, nat_eq, Bool, true, false, cond, if◌then◌else◌, List, [], ◌∷◌, ◌++◌, length, Option, Some, None, is_some, refl, sym, ap, ◌∙◌, true≢false}
use Rattle.std.specs.Option.{option_map, option_map_or}
use Rattle.std.proofs.lemmas.Bool.{eqb-true}
use Rattle.porch_check.specs.Sealing.{position_of}
use Rattle.porch_sealing.specs.inside.Places.{place_of, place_in, first_place, ArePlaces}

-- The last number of a type is its place, or how many there are.

past : (found : Option ℕ) (count : ℕ) → suc (option_map_or (λ k. k) found count) ≡ option_map_or (λ k. k) (option_map (λ k. suc k) found) (suc count)
past (Some k) count = refl
past None count = refl

last_next : (n m : ℕ) (ms : List ℕ) (same : Bool) → nat_eq n m ≡ same
    → position_of n ms ≡ option_map_or (λ k. k) (place_of n ms) (length ms)
    → position_of n (m ∷ ms) ≡ option_map_or (λ k. k) (place_of n (m ∷ ms)) (length (m ∷ ms))
last_next n m ms true h more = rw h refl
last_next n m ms false h more = rw h (ap suc more ∙ past (place_of n ms) (length ms))

pub last_is_place : (n : ℕ) (ns : List ℕ) → position_of n ns ≡ option_map_or (λ k. k) (place_of n ns) (length ns)
last_is_place n [] = refl
last_is_place n (m ∷ ms) = last_next n m ms (nat_eq n m) refl (last_is_place n ms)

-- the last number that a table gives
pub last_found : (n : ℕ) (ns : List ℕ) (es : List (ℕ × ℕ)) (found : Option ℕ) → ArePlaces ns es → found ≡ place_in n es
    → option_map_or (λ k. k) found (length ns) ≡ position_of n ns
last_found n ns es found are is = ap (λ f. option_map_or (λ k. k) f (length ns)) (is ∙ are.same n) ∙ sym (last_is_place n ns)

-- One more behind the others.

step : (found : Option ℕ) (same : Bool) (at : ℕ) → option_map (λ k. suc k) (first_place found same at) ≡ first_place (option_map (λ k. suc k) found) same (suc at)
step (Some k) same at = refl
step None true at = refl
step None false at = refl

more_first : (n m x : ℕ) (ms : List ℕ) (same : Bool) → nat_eq n m ≡ same
    → place_of n (ms ++ x ∷ []) ≡ first_place (place_of n ms) (nat_eq n x) (length ms)
    → place_of n (m ∷ (ms ++ x ∷ [])) ≡ first_place (place_of n (m ∷ ms)) (nat_eq n x) (length (m ∷ ms))
more_first n m x ms true h more = rw h refl
more_first n m x ms false h more = rw h (ap (option_map (λ k. suc k)) more ∙ step (place_of n ms) (nat_eq n x) (length ms))

alone : (n x : ℕ) (same : Bool) → nat_eq n x ≡ same → place_of n (x ∷ []) ≡ first_place None same 0
alone n x true h = rw h refl
alone n x false h = rw h refl

place_more : (n x : ℕ) (ns : List ℕ) → place_of n (ns ++ x ∷ []) ≡ first_place (place_of n ns) (nat_eq n x) (length ns)
place_more n x [] = alone n x (nat_eq n x) refl
place_more n x (m ∷ ms) = more_first n m x ms (nat_eq n m) refl (place_more n x ms)

-- a table that has no place for a number, and then this one
noted_in : (n x place : ℕ) (found : Option ℕ) (b c : Bool) → (nat_eq x n ≡ true → x ≡ n) → (nat_eq n x ≡ true → n ≡ x)
    → nat_eq x n ≡ b → nat_eq n x ≡ c → (x ≡ n → found ≡ None) → cond b (Some place) found ≡ first_place found c place
noted_in n x place found true true one two h k none = rw (none (one h)) refl
noted_in n x place (Some q) false false one two h k none = refl
noted_in n x place None false false one two h k none = refl
noted_in n x place found true false one two h k none =
    absurd (true≢false (sym h ∙ (λ i. nat_eq (one h i) (sym (one h) i)) ∙ k))
noted_in n x place found false true one two h k none =
    absurd (true≢false (sym k ∙ (λ i. nat_eq (two k i) (sym (two k) i)) ∙ h))

not_some : (o : Option ℕ) → is_some o ≡ false → o ≡ None
not_some None h = refl
not_some (Some k) h = absurd (true≢false h)

pub noted : (n x place : ℕ) (es fs : List (ℕ × ℕ)) → place_in n fs ≡ cond (nat_eq x n) (Some place) (place_in n es)
    → is_some (place_in x es) ≡ false → place_in n fs ≡ first_place (place_in n es) (nat_eq n x) place
noted n x place es fs updates none =
    updates
    ∙ noted_in n x place (place_in n es) (nat_eq x n) (nat_eq n x) (eqb-true x n) (eqb-true n x) refl refl
    (λ same. ap (λ m. place_in m es) (sym same) ∙ not_some (place_in x es) none)

pub places_more : (ns more : List ℕ) (es fs : List (ℕ × ℕ)) (x place : ℕ) → place ≡ length ns → length ns + 1 < 2 ^ 32 → more ≡ ns ++ x ∷ []
    → ((n : ℕ) → place_in n fs ≡ first_place (place_in n es) (nat_eq n x) place)
    → length more ≡ length ns + 1 → ArePlaces ns es → ArePlaces more fs
places_more ns more es fs x place long few pushed noted longer are = record {
  same = λ n.
      noted n ∙ (λ i. first_place (are.same n i) (nat_eq n x) (long i)) ∙ sym (ap (place_of n) pushed ∙ place_more n x ns);
  few = rw longer few;
}
