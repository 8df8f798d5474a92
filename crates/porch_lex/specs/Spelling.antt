-- What the bytes of a token are, whatever stands round it.
use Rattle.std.specs.Prelude.{ℕ, ◌≡◌, ◌-◌, ◌≤◌, ◌&&◌, Bool, false, IsTrue, List, [], ◌∷◌, length, take, drop, Option, None, Some}
use Rattle.std.specs.List.{list_all}
use Rattle.porch_tree.specs.Words.{keyword_bytes, mark_bytes}
use Rattle.porch_lex.specs.declared.token.TokenKind.{TokenKind}
use Rattle.porch_lex.specs.declared.token.TokenKind.TheVariants.{Name, Keyword, Whole, Character, Text, Mark}
use Rattle.porch_lex.specs.declared.token.Token.{Token}
use Rattle.porch_lex.specs.Characters.{is_letter, is_digit, is_word}
use Rattle.porch_lex.specs.Constants.{is_constant, is_wide}
use Rattle.porch_lex.specs.Literals.{character_constant_length, string_length}
use Rattle.porch_lex.specs.Lexemes.{keyword_of}
use Rattle.porch_lex.specs.Words.{bytes_between}

-- a letter or an underscore, and then letters, digits and underscores
abbrev pub is_name : List ℕ → Bool
is_name [] = false
is_name (c ∷ cs) = is_letter c && list_all is_word cs

abbrev pub begins_with_digit : List ℕ → Bool
begins_with_digit [] = false
begins_with_digit (c ∷ cs) = is_digit c

-- a quote, and after it what reaches exactly to the end
abbrev pub IsLiteral : (quote : ℕ) → (List ℕ → Option ℕ) → List ℕ → Type 0
IsLiteral quote reach [] = ⊥
IsLiteral quote reach (c ∷ cs) = (c ≡ quote) × (reach cs ≡ Some (length cs))

abbrev pub IsSpelling : TokenKind → List ℕ → Type 0
IsSpelling Name cs = IsTrue (is_name cs) × (keyword_of cs ≡ None)
IsSpelling (Keyword k) cs = cs ≡ keyword_bytes k
IsSpelling Whole cs = IsTrue (begins_with_digit cs) × IsTrue (is_constant cs) × (is_wide cs ≡ false)
IsSpelling Character cs = IsLiteral 39 character_constant_length cs
IsSpelling Text cs = IsLiteral 34 string_length cs
IsSpelling (Mark m) cs = cs ≡ mark_bytes m

-- The bytes of each token spell it.
abbrev pub AreSpelled : List ℕ → List Token → Type 0
AreSpelled text [] = Unit {0}
AreSpelled text (t ∷ ts) = IsSpelling t.kind (bytes_between text t.from t.to) × AreSpelled text ts

-- No more than so many bytes at the front of a text spell a token.
abbrev pub IsLongest : List ℕ → ℕ → Type 0
IsLongest text n = (k : TokenKind) (m : ℕ) → m ≤ length text → IsSpelling k (take m text) → m ≤ n

-- No token could go on further.
abbrev pub AreLongest : List ℕ → List Token → Type 0
AreLongest text [] = Unit {0}
AreLongest text (t ∷ ts) = IsLongest (drop t.from text) (t.to - t.from) × AreLongest text ts
