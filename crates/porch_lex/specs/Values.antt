-- The values of constants and of the characters in literals. They are defined for all bytes: what is no right constant or
-- escape may be cut.
use Rattle.std.specs.Prelude.{ℕ, ◌==◌, if◌then◌else◌, List, [], ◌∷◌, take, min}
use Rattle.std.specs.List.{prefix_len}
use Rattle.porch_lex.specs.Characters.{is_digit_of}
use Rattle.porch_lex.specs.Constants.{number_in, constant_value, greatest_unsigned}
use Rattle.porch_lex.specs.Literals.{octal_length}

-- an integer constant, by the bytes of its token
abbrev pub whole_of : List ℕ → ℕ
whole_of cs = min (constant_value cs) greatest_unsigned

-- n t r a b f v; the backslash, the quotes and the question mark stand for themselves
abbrev pub simple_value : ℕ → ℕ
simple_value c =
    if c == 110 then 10
    else if c == 116 then 9
    else if c == 114 then 13
    else if c == 97 then 7
    else if c == 98 then 8
    else if c == 102 then 12
    else if c == 118 then 11
    else c

-- the digits that stand for a byte
abbrev pub byte_in : (base : ℕ) → List ℕ → ℕ
byte_in base digits = min (number_in base digits) 255

-- an escape in front of a text, without its backslash
abbrev pub escape_of : List ℕ → ℕ
escape_of [] = 0
escape_of (c ∷ cs) =
    if is_digit_of 8 c then byte_in 8 (take (octal_length (c ∷ cs)) (c ∷ cs))
    else if c == 120 then byte_in 16 (take (prefix_len (is_digit_of 16) cs) cs)
    else simple_value c

-- a character of a literal in front of a text, as a byte
abbrev pub character_of : List ℕ → ℕ
character_of [] = 0
character_of (c ∷ cs) = if c == 92 then escape_of cs else c
