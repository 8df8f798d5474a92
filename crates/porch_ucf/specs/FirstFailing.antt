-- The first number that fails a test.
use Rattle.std.specs.Prelude.{ℕ, zero, suc, ◌+◌, Bool, Option, Some, None, if◌then◌else◌}

-- the first of so many numbers, from this one on, that doesn't pass
abbrev pub first_failing : (ℕ → Bool) → (at many : ℕ) → Option ℕ
first_failing passes at zero = None
first_failing passes at (suc many) =
    if passes at then first_failing passes (at + 1) many else Some at
