-- The places of labels, as they are kept.
use Rattle.std.specs.Prelude.{ℕ, nat_eq, List, Option}
use Rattle.std.specs.Map.{lookup}

-- the place that is kept for a label
abbrev pub place_in : List (ℕ × ℕ) → ℕ → Option ℕ
place_in places n = lookup (nat_eq n) places
