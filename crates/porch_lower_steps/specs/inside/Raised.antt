-- Temporaries that hold operands, by type.
use Rattle.std.specs.Prelude.{ℕ, nat_eq, if◌then◌else◌, Option, Some, None}

-- how many temporaries of a type this one is
abbrev pub count_of : (ty : ℕ) → Option ℕ → ℕ
count_of ty None = 0
count_of ty (Some t) = if nat_eq ty t then 1 else 0

-- the target's own temporary, where no operand is in one of its type
abbrev pub raised_by : (held ty : ℕ) → Option ℕ
raised_by held ty = if nat_eq held 0 then Some ty else None
