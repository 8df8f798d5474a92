-- Character constants and string literals. Each length counts the bytes up to the end of what it is about.
use Rattle.std.specs.Prelude.{ℕ, zero, suc, ◌+◌, ◌-◌, ◌==◌, nat_eq, nat_lt, ◌&&◌, not, if◌then◌else◌, List, [], ◌∷◌, ◌++◌, take, drop, min, codes, Option, Some, None}
use Rattle.std.specs.List.{list_any, prefix_len, starts_with}
use Rattle.std.specs.Option.{option_map}
use Rattle.porch_lex.specs.Characters.{is_printed, is_digit_of}
use Rattle.porch_lex.specs.Constants.{number_in}

-- the letters that stand after a backslash for one byte, the backslash, the quotes and the question mark
abbrev pub simple_escapes : List ℕ
simple_escapes = codes "ntrabfv" ++ 92 ∷ 39 ∷ 34 ∷ 63 ∷ []

-- a value that a byte can have
abbrev pub if_byte : ℕ → ℕ → Option ℕ
if_byte value n = if nat_lt 255 value then None else Some n

-- one to three octal digits
abbrev pub octal_length : List ℕ → ℕ
octal_length cs = min 3 (prefix_len (is_digit_of 8) cs)

abbrev pub octal_escape : List ℕ → Option ℕ
octal_escape cs = if_byte (number_in 8 (take (octal_length cs) cs)) (octal_length cs)

-- hexadecimal digits after the x
abbrev pub hexadecimal_escape : List ℕ → Option ℕ
hexadecimal_escape cs =
    if nat_lt 0 (prefix_len (is_digit_of 16) cs)
    then if_byte (number_in 16 (take (prefix_len (is_digit_of 16) cs) cs)) (prefix_len (is_digit_of 16) cs + 1)
    else None

-- an escape, without its backslash
abbrev pub escape_length : List ℕ → Option ℕ
escape_length [] = None
escape_length (c ∷ cs) =
    if list_any (λ e. e == c) simple_escapes then Some 1
    else if is_digit_of 8 c then octal_escape (c ∷ cs)
    else if c == 120 then hexadecimal_escape cs
    else None

abbrev pub counted_more : ℕ → Option ℕ → Option ℕ
counted_more k = option_map (λ n. n + k)

-- a character between quotes: a printed byte other than the quote and the backslash, or an escape
abbrev pub character_length : (quote : ℕ) → List ℕ → Option ℕ
character_length quote [] = None
character_length quote (c ∷ cs) =
    if c == 92 then counted_more 1 (escape_length cs)
    else if is_printed c && not (c == quote) then Some 1
    else None

-- What follows the first quote of a character constant: one character and the other quote.
abbrev pub constant_end : Option ℕ → List ℕ → Option ℕ
constant_end None cs = None
constant_end (Some n) cs = if starts_with nat_eq (drop n cs) (39 ∷ []) then Some (n + 1) else None

abbrev pub character_constant_length : List ℕ → Option ℕ
character_constant_length cs = constant_end (character_length 39 cs) cs

abbrev pub string_more : Option ℕ → (ℕ → Option ℕ) → Option ℕ
string_more None go = None
string_more (Some n) go = counted_more 1 (go (n - 1))

-- What follows the first quote of a string literal, after k bytes more: characters, and the other quote.
abbrev pub string_from : List ℕ → (k : ℕ) → Option ℕ
string_from [] k = None
string_from (c ∷ cs) (suc k) = counted_more 1 (string_from cs k)
string_from (c ∷ cs) zero =
    if c == 34 then Some 1 else string_more (character_length 34 (c ∷ cs)) (string_from cs)

abbrev pub string_length : List ℕ → Option ℕ
string_length cs = string_from cs 0
