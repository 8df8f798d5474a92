-- A byte as a `char`.
use Rattle.std.proofs.Common.{◌≡◌, ℕ, ◌%◌, ◌<◌, ◌≤◌, pos, ◌-ℤ◌, int_lt, true, false, refl, arith}
use Rattle.std.proofs.lemmas.Int.{ints}
use Rattle.porch_values.specs.Integers.{signed_bits}

pub low_byte : (b : ℕ) → b < 128 → signed_bits 8 (pos b) ≡ pos b
low_byte b h =
    let e : b % 256 ≡ b = omega arith in
    let t : int_lt (pos b) (pos 128) ≡ true = grind (arith, ints) in
    rw (e, t) refl

pub high_byte : (b : ℕ) → 128 ≤ b → b < 256 → signed_bits 8 (pos b) ≡ pos b -ℤ pos 256
high_byte b h k =
    let e : b % 256 ≡ b = omega arith in
    let t : int_lt (pos b) (pos 128) ≡ false = grind (arith, ints) in
    rw (e, t) refl
