-- How many arguments there are.
use Rattle.std.specs.Prelude.{Bool, true, false, List, [], ◌∷◌}
use Rattle.porch_check.specs.Calls.{Argument}

abbrev pub is_one : List Argument → Bool
is_one (a ∷ []) = true
is_one args = false

abbrev pub is_two : List Argument → Bool
is_two (a ∷ b ∷ []) = true
is_two args = false
