-- Numbers at a place of a text, with the highest byte first.
use Rattle.std.specs.Prelude.{ℕ, List, drop}
use Rattle.byteorder.specs.Endian.{big_number}

-- the number of 32 bits
abbrev pub u32_in : List ℕ → (place : ℕ) → ℕ
u32_in text place = big_number 4 (drop place text)

-- the number of 64 bits
abbrev pub u64_in : List ℕ → (place : ℕ) → ℕ
u64_in text place = big_number 8 (drop place text)
