-- How many arguments a format takes.
use Rattle.std.specs.Prelude.{ℕ, ◌+◌, Bool, true, false, if◌then◌else◌, List, [], ◌∷◌, Option, Some, None}
use Rattle.porch_check.specs.Calls.{Mode, Completed, one, none_such, is_taken, is_in_text, completed_in, mode_behind}

abbrev pub is_none_such : Completed → Bool
is_none_such none_such = true
is_none_such c = false

-- the arguments that are taken by what a byte completes
abbrev pub taken_by : Completed → ℕ
taken_by (one d) = if is_taken d then 1 else 0
taken_by c = 0

-- the arguments that are taken behind some, byte by byte
abbrev pub counted : Mode → (count : ℕ) → List ℕ → Option ℕ
counted m n [] = if is_in_text m then Some n else None
counted m n (c ∷ cs) =
    if is_none_such (completed_in m c) then None
    else counted (mode_behind (completed_in m c)) (n + taken_by (completed_in m c)) cs
