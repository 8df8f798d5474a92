-- The characters of a literal, one after another.
use Rattle.std.proofs.Common.{◌≡◌, ℕ, zero, suc, ◌-◌, ◌<◌, ◌==◌, Bool, true, false, not, if◌then◌else◌, List, [], ◌∷◌, ◌++◌, length, drop, refl, sym, ap, ◌∙◌, append_assoc, append-nil, length-drop, arith}
use Rattle.std.specs.Option.{option_map_or}
use Rattle.porch_lex.specs.Values.{character_of}
use Rattle.porch_lex.specs.Literals.{character_length}
use Rattle.porch_check.specs.Constants.{characters_from}
use Rattle.porch_literals.specs.inside.Characters.{goes_on}

skipped : (xs : List ℕ) (n : ℕ) → characters_from xs n ≡ characters_from (drop n xs) 0
skipped [] zero = refl
skipped [] (suc n) = refl
skipped (c ∷ cs) zero = refl
skipped (c ∷ cs) (suc n) = skipped cs n

if_not : (b : Bool) (x y : List ℕ) → not b ≡ true → (if b then x else y) ≡ y
if_not true x y h = absurd (cc)
if_not false x y h = refl

if_so : (b : Bool) (x y : List ℕ) → not b ≡ false → (if b then x else y) ≡ x
if_so true x y h = refl
if_so false x y h = absurd (cc)

step : (xs : List ℕ) → goes_on xs ≡ true → characters_from xs 0 ≡ character_of xs ∷ characters_from (drop (option_map_or (λ n. n - 1) (character_length 34 xs) 0) (drop 1 xs)) 0
step [] h = absurd (cc)
step (c ∷ cs) h =
    let k = option_map_or (λ n. n - 1) (character_length 34 (c ∷ cs)) 0 in
    if_not (c == 34) [] (character_of (c ∷ cs) ∷ characters_from cs k) h
    ∙ ap (λ ys. character_of (c ∷ cs) ∷ ys) (skipped cs k)

-- one character more
pub one_more : (ys xs : List ℕ) → goes_on xs ≡ true → (ys ++ character_of xs ∷ []) ++ characters_from (drop (option_map_or (λ n. n - 1) (character_length 34 xs) 0) (drop 1 xs)) 0 ≡ ys ++ characters_from xs 0
one_more ys xs h =
    append_assoc ys (character_of xs ∷ []) (characters_from (drop (option_map_or (λ n. n - 1) (character_length 34 xs) 0) (drop 1 xs)) 0)
    ∙ ap (λ zs. ys ++ zs) (sym (step xs h))

none_left : (xs : List ℕ) → goes_on xs ≡ false → characters_from xs 0 ≡ []
none_left [] h = refl
none_left (c ∷ cs) h = if_so (c == 34) [] (character_of (c ∷ cs) ∷ characters_from cs (option_map_or (λ n. n - 1) (character_length 34 (c ∷ cs)) 0)) h

-- no character more
pub no_more : (ys xs : List ℕ) → goes_on xs ≡ false → ys ++ characters_from xs 0 ≡ ys
no_more ys xs h = ap (λ zs. ys ++ zs) (none_left xs h) ∙ append-nil ys

-- what is left is shorter
pub shorter : (k : ℕ) (xs : List ℕ) → goes_on xs ≡ true → length (drop k (drop 1 xs)) < length xs
shorter k [] h = absurd (cc)
shorter k (c ∷ cs) h = omega (arith, length-drop k cs)
