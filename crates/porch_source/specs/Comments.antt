-- A text without its comments and includes. They become white space, so that each token stands where it stood.
use Rattle.std.specs.Prelude.{ℕ, ◌≡◌, ◌⊎◌, ◌==◌, if◌then◌else◌, List, [], ◌∷◌, ◌++◌, map, drop, ⊤}
use Rattle.porch_lex.specs.declared.token.Token.{Token}
use Rattle.porch_lex.specs.Words.{bytes_between}

-- a newline stays one, and every other byte becomes a space
abbrev pub blank_of : ℕ → ℕ
blank_of c = if c == 10 then 10 else 32

abbrev pub blanks : List ℕ → List ℕ
blanks = map blank_of

-- From a place on, a text with these tokens: they stay, and all that stands between them is blank.
abbrev pub without_comments_from : (at : ℕ) → List ℕ → List Token → List ℕ
without_comments_from at text [] = blanks (drop at text)
without_comments_from at text (t ∷ ts) =
    blanks (bytes_between text at t.from)
    ++ (bytes_between text t.from t.to ++ without_comments_from t.to text ts)

abbrev pub without_comments : List ℕ → List Token → List ℕ
without_comments text ts = without_comments_from 0 text ts

-- Byte by byte a text like another one, or white space in its place.
abbrev pub KeepsPlaces : List ℕ → List ℕ → Type 0
KeepsPlaces [] [] = ⊤
KeepsPlaces (c ∷ cs) (d ∷ ds) = ((d ≡ c) ⊎ (d ≡ blank_of c)) × KeepsPlaces cs ds
KeepsPlaces cs ds = ⊥
