-- The last numbers of types.
use Rattle.std.specs.Prelude.{ℕ, List}
use Rattle.porch_check.specs.Shapes.{Shapes}
use Rattle.porch_check.specs.Sealing.{position_of}

-- the last number of a type, where those that are complete became so in this order
abbrev pub last_in : List ℕ → ℕ → ℕ
last_in ns n = position_of n ns

-- types that became complete in this order
abbrev pub in_order : List ℕ → Shapes → Shapes
in_order ns s = record { rows = s.rows; complete = ns }
