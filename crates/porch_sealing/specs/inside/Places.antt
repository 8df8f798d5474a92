-- The places that a table gives to numbers are their first ones in a list.
use Rattle.std.specs.Prelude.{◌≡◌, ◌<◌, ◌^◌, ℕ, suc, nat_eq, Bool, if◌then◌else◌, List, [], ◌∷◌, length, Option, Some, None}
use Rattle.std.specs.Option.{option_map}
use Rattle.std.specs.Map.{lookup}

abbrev pub place_of : ℕ → List ℕ → Option ℕ
place_of n [] = None
place_of n (m ∷ ms) = if nat_eq n m then Some 0 else option_map (λ k. suc k) (place_of n ms)

abbrev pub place_in : ℕ → List (ℕ × ℕ) → Option ℕ
place_in n es = lookup (λ k. nat_eq n k) es

-- a number that may be this one has the place, unless it had one
abbrev pub first_place : Option ℕ → Bool → ℕ → Option ℕ
first_place (Some p) same place = Some p
first_place None same place = if same then Some place else None

pub record ArePlaces (ns : List ℕ) (es : List (ℕ × ℕ)) : Type 0 where
  pub same : (n : ℕ) → place_in n es ≡ place_of n ns
  pub few : length ns < 2 ^ 32
