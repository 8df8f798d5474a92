-- The count of an array, by the value of its constant.
use Rattle.std.specs.Prelude.{ℕ, ℤ, pos, int_le, unsigned_abs, if◌then◌else◌, Result, Ok}
use Rattle.porch_lex.specs.declared.refusal.Refusal.{Refusal}
use Rattle.porch_lex.specs.declared.refusal.Rule.TheVariants.{Mismatch}
use Rattle.porch_check.specs.Refusals.{refuse}

-- it is at least 1
abbrev pub count_at : (at : ℕ) → ℤ → Result ℕ Refusal
count_at at z = if int_le (pos 1) z then Ok (unsigned_abs z) else refuse Mismatch at
