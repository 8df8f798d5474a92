-- The parts of a text that slices are.
use Rattle.std.proofs.Common.{◌≡◌, ℕ, ◌+◌, ◌-◌, ◌≤◌, List, ◌∷◌, length, take, drop, refl, arith, add-one}
use Rattle.std.proofs.lemmas.List.{take_rest, length-take-le}

pub rest_is : (xs : List ℕ) (i : ℕ) → take (length xs - i) (drop i xs) ≡ drop i xs
rest_is xs i = take_rest xs i

pub length_front : (c n : ℕ) (xs : List ℕ) → n ≤ length xs → n + 1 ≡ length (c ∷ take n xs)
length_front c n xs h = let e = length-take-le n xs h in omega (arith, e)

pub front_more : (c n : ℕ) (xs : List ℕ) → take (n + 1) (c ∷ xs) ≡ c ∷ take n xs
front_more c n xs = rw add-one refl
