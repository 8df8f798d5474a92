-- The numbers that a table gives to names are those of their first places.
use Rattle.std.specs.Prelude.{◌≡◌, ℕ, Bool, if◌then◌else◌, List, Option, Some, None}
use Rattle.std.specs.Borrow.{Bor}
use Rattle.std.specs.Map.{lookup}
use Rattle.std.specs.Str.{bytes_eq}
use Rattle.porch_scopes.specs.Bodies.{body_number}

abbrev pub numbered_as : List ℕ → List (Bor (List ℕ) × ℕ) → Option ℕ
numbered_as x es = lookup (λ k. bytes_eq x k.now) es

-- a name that may be this one has the number, unless it had one
abbrev pub first_number : Option ℕ → Bool → ℕ → Option ℕ
first_number (Some n) same number = Some n
first_number None same number = if same then Some number else None

pub record AreNumbered (names : List (List ℕ)) (es : List (Bor (List ℕ) × ℕ)) : Type 0 where
  pub same : (x : List ℕ) → numbered_as x es ≡ body_number x names
