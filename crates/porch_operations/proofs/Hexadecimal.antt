-- The digits of a number from the last one on.
use Rattle.std.proofs.Common.{◌≡◌, ◌≤◌, ◌<◌, ℕ, zero, suc, ◌+◌, ◌-◌, ◌/◌, ◌%◌, List, [], ◌∷◌, refl, sym, arith, Bool, true, false}
use Rattle.std.specs.Prelude.{◌==◌, if◌then◌else◌}
use Rattle.std.specs.Fmt.{digits, digits_onto, digit_glyph}
use Rattle.std.proofs.lemmas.Bool.Decides.{nat_tests}

pub starts : (n : ℕ) → digits_onto 64 16 false n [] ≡ digits 16 false n
unfolding digits
starts n = refl

is_zero : (n : ℕ) → n < 16 → (n / 16 == 0) ≡ true
is_zero n h = let e : n / 16 ≡ 0 = omega (arith, h) in rw e refl

is_not_zero : (n : ℕ) → 16 ≤ n → (n / 16 == 0) ≡ false
is_not_zero n h = let e : 1 ≤ n / 16 = omega (arith, h) in grind (arith, nat_tests, e)

pub goes_on : (len n : ℕ) (acc : List ℕ) → 16 ≤ n → len + 1 < 64
    → digits_onto (64 - (len + 1)) 16 false (n / 16) (digit_glyph false (n % 16) ∷ acc) ≡ digits_onto (64 - len) 16 false n acc
goes_on len n acc h few =
    let e : 64 - len ≡ suc (64 - (len + 1)) = omega (arith, few) in
    rw e (rw (is_not_zero n h) refl)

last_by : (b : Bool) (n : ℕ) (xs : List ℕ) → (if b then xs else digits_onto zero 16 false n xs) ≡ xs
last_by true n xs = refl
last_by false n xs = refl

pub ends_short : (len n : ℕ) (acc : List ℕ) → n < 16 → len < 64 → digit_glyph false (n % 16) ∷ acc ≡ digits_onto (64 - len) 16 false n acc
ends_short len n acc h few =
    let e : 64 - len ≡ suc (64 - (len + 1)) = omega (arith, few) in
    rw e (rw (is_zero n h) refl)

pub ends_full : (n : ℕ) (acc : List ℕ) → digit_glyph false (n % 16) ∷ acc ≡ digits_onto 1 16 false n acc
ends_full n acc = sym (last_by (n / 16 == 0) (n / 16) (digit_glyph false (n % 16) ∷ acc))
