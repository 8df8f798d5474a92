-- The numbers of functions that have a body.
use Rattle.std.specs.Prelude.{ℕ, if◌then◌else◌, List, Option, Some, None}
use Rattle.std.specs.List.{list_any}
use Rattle.std.specs.Str.{bytes_eq}
use Rattle.porch_check.specs.Calls.{number_of}

-- the number of a function, where it has a body
abbrev pub body_number : List ℕ → List (List ℕ) → Option ℕ
body_number x bodies = if list_any (bytes_eq x) bodies then Some (number_of x bodies) else None
