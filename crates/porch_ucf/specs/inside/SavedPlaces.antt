-- Where the SAVED of each call number stands, kept by number.
use Rattle.std.specs.Prelude.{◌≡◌, ℕ, Bool, List, [], Vec, slice_get, position, Option, Some, None, if◌then◌else◌}
use Rattle.std.specs.Option.{option_map_or}
use Rattle.std.specs.declared.alloc.Global.{Global}
use Rattle.porch_flat.specs.declared.whole.Command.{Command}
use Rattle.porch_flat.specs.declared.whole.Flat.{Flat}
use Rattle.porch_flat.specs.whole.Form.{form_of}
use Rattle.porch_flat.specs.whole.Places.{is_number, commands_of}
use Rattle.porch_ucf.specs.RowFlaws.{kept_number}

-- where the SAVED of a call number stands among commands
abbrev pub place_of_number : List Command → ℕ → Option ℕ
place_of_number commands k = position (λ c. is_number k (kept_number (form_of c))) commands

-- the places of the first numbers
abbrev pub AreNumberPlaces : List Command → List (Option ℕ) → Type 0
AreNumberPlaces commands places =
    (k : ℕ) (place : Option ℕ) → slice_get places k ≡ Some place
    → place ≡ place_of_number commands k

-- the places of a function's numbers, where they are kept
abbrev pub places_at : List (Vec (Option ℕ) Global) → (function : ℕ) → List (Option ℕ)
places_at saved f =
    option_map_or (λ (places : Vec (Option ℕ) Global). places.items) (slice_get saved f) []

-- the places that are kept for each function are those of its numbers
abbrev pub AreSavedPlaces : Flat → List (Vec (Option ℕ) Global) → Type 0
AreSavedPlaces program saved =
    (f : ℕ) → AreNumberPlaces (commands_of (slice_get program.functions f)) (places_at saved f)

-- a place that was noted before, or this one where a test passes
abbrev pub or_else : Option ℕ → Bool → ℕ → Option ℕ
or_else (Some before) passes at = Some before
or_else None passes at = if passes then Some at else None
