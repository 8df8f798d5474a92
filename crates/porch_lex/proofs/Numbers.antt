-- Facts on constants.
use Rattle.std.proofs.Common.{◌≡◌, ℕ, ◌+◌, ◌*◌, ◌<◌, ◌≤◌, nat_lt, min, true, List, [], ◌∷◌, length, get_or, drop, fold, refl, sym, ap, ◌∙◌, arith, add-one, drop-cons}
use Rattle.porch_lex.specs.Characters.{digit_value}
use Rattle.porch_lex.specs.Constants.{constant_base, number_in}

pub has_two : (cs : List ℕ) (base : ℕ) → base ≡ constant_base cs → base ≡ 16 → 2 ≤ length cs
has_two [] base h e = absurd (omega (arith, h, e))
has_two (a ∷ []) base h e = absurd (grind (arith, h, e))
has_two (a ∷ b ∷ cs) base h e = omega arith

times_least : (base n : ℕ) → 1 ≤ base → n ≤ base * n
times_least base n h = grind (arith, h)

grows : (base : ℕ) → 1 ≤ base → (cs : List ℕ) (n : ℕ) → n ≤ fold (λ n c. base * n + digit_value c) n cs
grows base h [] n = omega arith
grows base h (c ∷ cs) n =
    let more = grows base h cs (base * n + digit_value c) in
    let least = times_least base n h in
    omega (arith, more, least)

above : (limit n : ℕ) → limit < n → nat_lt limit n ≡ true
above limit n h = search (arith, h)

-- Digits stand for too great a number where the first of them do.
pub too_great : (base limit : ℕ) (cs : List ℕ) (v i : ℕ) → 1 ≤ base → i < length cs
    → number_in base cs ≡ fold (λ n c. base * n + digit_value c) v (drop i cs)
    → limit < base * v + digit_value (get_or cs i 0) → true ≡ nat_lt limit (number_in base cs)
too_great base limit cs v i b h e great =
    let one : drop i cs ≡ get_or cs i 0 ∷ drop (i + 1) cs = rw (add-one, drop-cons cs i 0) refl in
    let all : number_in base cs ≡ fold (λ n c. base * n + digit_value c) (base * v + digit_value (get_or cs i 0)) (drop (i + 1) cs) =
    e ∙ ap (fold (λ n c. base * n + digit_value c) v) one in
    let more = grows base b (drop (i + 1) cs) (base * v + digit_value (get_or cs i 0)) in
    let big : limit < number_in base cs = omega (arith, all, more, great) in
    sym (above limit (number_in base cs) big)

-- It is cut where the first digits stand for too great a number.
pub cut : (base limit : ℕ) (cs : List ℕ) (v i : ℕ) → 1 ≤ base → i < length cs
    → number_in base cs ≡ fold (λ n c. base * n + digit_value c) v (drop i cs)
    → limit < base * v + digit_value (get_or cs i 0) → limit ≡ min (number_in base cs) limit
cut base limit cs v i b h e great = cut_at (number_in base cs) limit (sym (too_great base limit cs v i b h e great))
  where
    cut_at : (n limit : ℕ) → nat_lt limit n ≡ true → limit ≡ min n limit
    cut_at n limit h = grind (arith, h)
