-- Bounds within which the code computes.
use Rattle.std.specs.Prelude.{ℤ, pos, negsuc, ◌-◌, ◌^◌, ◌≤ℤ◌, ◌<ℤ◌}

-- a value of 64 bits, signed or not
pub record InWord (z : ℤ) : Type 0 where
  pub low : negsuc (2 ^ 63 - 1) ≤ℤ z
  pub high : z <ℤ pos (2 ^ 64)

-- a signed value of 64 bits
pub record InSigned (z : ℤ) : Type 0 where
  pub low : negsuc (2 ^ 63 - 1) ≤ℤ z
  pub high : z <ℤ pos (2 ^ 63)

-- an unsigned value of 64 bits
pub record InUnsigned (z : ℤ) : Type 0 where
  pub low : pos 0 ≤ℤ z
  pub high : z <ℤ pos (2 ^ 64)
