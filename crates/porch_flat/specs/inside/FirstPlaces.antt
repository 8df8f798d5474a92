-- How the places of labels come to be kept.
use Rattle.std.specs.Prelude.{ℕ, Bool, if◌then◌else◌, Option, Some, None}

-- the first of two places, of which the second is there where a test passes
abbrev pub first_place : Option ℕ → Bool → ℕ → Option ℕ
first_place (Some place) passes at = Some place
first_place None passes at = if passes then Some at else None
