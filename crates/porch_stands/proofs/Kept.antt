-- A number that is written leaves memory as long as it was, and each element a byte.
use Rattle.std.proofs.Common.{◌≡◌, ℕ, zero, suc, ◌+◌, ◌-◌, ◌/◌, ◌%◌, ℤ, List, [], ◌∷◌, ◌++◌, length, take, drop, sym, ap, ◌∙◌, arith, Some, Bool, true, false}
use Rattle.std.specs.Prelude.{reverse}
use Rattle.std.proofs.lemmas.List.{length-reverse, get_or-reverse}
use Rattle.std.proofs.lemmas.Option.{slice_get_within, slice_get-get_or, get_or_from_slice_get}
use Rattle.porch_bytes.specs.Leaf.{digits, in_order, encoded, spliced}
use Rattle.porch_stands.specs.Follows.{AreBytes}

append_bytes : (xs ys : List ℕ) → AreBytes xs → AreBytes ys → AreBytes (xs ++ ys)
append_bytes [] ys h k i b e = k i b e
append_bytes (x ∷ xs) ys h k zero b e = h 0 b e
append_bytes (x ∷ xs) ys h k (suc i) b e = append_bytes xs ys (λ j c g. h (suc j) c g) k i b e

take_bytes : (n : ℕ) (xs : List ℕ) → AreBytes xs → AreBytes (take n xs)
take_bytes zero xs h i b e = absurd (let k = e in cc)
take_bytes (suc n) [] h i b e = absurd (let k = e in cc)
take_bytes (suc n) (x ∷ xs) h zero b e = h 0 b e
take_bytes (suc n) (x ∷ xs) h (suc i) b e = take_bytes n xs (λ j c g. h (suc j) c g) i b e

drop_bytes : (n : ℕ) (xs : List ℕ) → AreBytes xs → AreBytes (drop n xs)
drop_bytes zero xs h i b e = h i b e
drop_bytes (suc n) [] h i b e = absurd (let k = e in cc)
drop_bytes (suc n) (x ∷ xs) h i b e = drop_bytes n xs (λ j c g. h (suc j) c g) i b e

reverse_bytes : (xs : List ℕ) → AreBytes xs → AreBytes (reverse xs)
reverse_bytes xs h i b e =
    let few = slice_get_within (reverse xs) i b e in
    let long : length (reverse xs) ≡ length xs = length-reverse xs in
    let g = get_or_from_slice_get (reverse xs) i b 0 e in
    let r = get_or-reverse xs i 0 (omega (arith, few, long)) in
    h (length xs - 1 - i) b (slice_get-get_or xs (length xs - 1 - i) 0 (omega (arith, few, long)) ∙ ap Some (sym r ∙ g))

digits_bytes : (k n : ℕ) → AreBytes (digits k n)
digits_bytes zero n i b e = absurd (let k = e in cc)
digits_bytes (suc k) n zero b e = (let g : n % 256 ≡ b = cc in omega (arith, g))
digits_bytes (suc k) n (suc i) b e = digits_bytes k (n / 256) i b e

ordered_bytes : (big : Bool) (xs : List ℕ) → AreBytes xs → AreBytes (in_order big xs)
ordered_bytes true xs h = reverse_bytes xs h
ordered_bytes false xs h = h

pub spliced_bytes : (memory : List ℕ) (at : ℕ) (bytes : List ℕ) → AreBytes memory → AreBytes bytes → AreBytes (spliced memory at bytes)
spliced_bytes memory at bytes h k =
    append_bytes (take at memory) (bytes ++ drop (at + length bytes) memory) (take_bytes at memory h)
    (append_bytes bytes (drop (at + length bytes) memory) k (drop_bytes (at + length bytes) memory h))

pub encoded_bytes : (big : Bool) (size : ℕ) (z : ℤ) → AreBytes (encoded big size z)
encoded_bytes big size z = ordered_bytes big _ (digits_bytes size _)
