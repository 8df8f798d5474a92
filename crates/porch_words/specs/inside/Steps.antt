-- One step of the code: an option is taken.
use Rattle.std.specs.Global.{Global}
use Rattle.std.specs.Prelude.{ℕ, ◌≡◌, ◌≤◌, Option, Some, None, List, [], ◌∷◌, length, String, string_bytes}
use Rattle.porch_words.specs.declared.command.Command.{Command}
use Rattle.porch_words.specs.declared.option.Key.{Key}
use Rattle.porch_words.specs.declared.read.Taken.{Taken}
use Rattle.porch_words.specs.Orders.{Given}
use Rattle.porch_words.specs.Words.{texts}
use Rattle.porch_words.specs.inside.Reading.{given_seen, put, read}

-- the value is taken, and these words are left
abbrev pub TakesValue : Command → Given → Key → List ℕ → List (String Global) → Option Taken → Type 0
TakesValue c g k v rest None = put c g k v ≡ None
TakesValue c g k v rest (Some t) = (put c g k v ≡ Some (given_seen t.given)) × (t.rest.now ≡ rest)

-- the next word is taken as the value, if there is one
abbrev pub TakesNext : Command → Given → Key → List (String Global) → Option Taken → Type 0
TakesNext c g k [] r = r ≡ None
TakesNext c g k (w ∷ ws) r = TakesValue c g k (string_bytes w) ws r

-- what is given and the words that are left give what all of them do
abbrev pub Takes : Command → Given → List ℕ → List (String Global) → Option Taken → Type 0
Takes c g w ws None = read c g (w ∷ texts ws) ≡ None
Takes c g w ws (Some t) =
    (read c g (w ∷ texts ws) ≡ read c (given_seen t.given) (texts t.rest.now))
    × (length t.rest.now ≤ length ws)
