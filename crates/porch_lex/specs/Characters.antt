-- The classes of bytes.
use Rattle.std.specs.Prelude.{ℕ, ◌-◌, ◌==◌, nat_le, nat_lt, ◌&&◌, ◌||◌, if◌then◌else◌, Bool}

-- between two codes, both included
abbrev pub is_between : ℕ → ℕ → ℕ → Bool
is_between low high c = nat_le low c && nat_le c high

-- space, tab, newline, vertical tab, form feed, carriage return
abbrev pub is_space : ℕ → Bool
is_space c = c == 32 || is_between 9 13 c

-- space and tab
abbrev pub is_blank : ℕ → Bool
is_blank c = c == 32 || c == 9

abbrev pub is_newline : ℕ → Bool
is_newline c = c == 10

abbrev pub is_digit : ℕ → Bool
is_digit = is_between 48 57

-- a letter or an underscore
abbrev pub is_letter : ℕ → Bool
is_letter c = is_between 65 90 c || is_between 97 122 c || c == 95

-- what a name or a constant goes on with
abbrev pub is_word : ℕ → Bool
is_word c = is_letter c || is_digit c

-- what may stand for itself in a literal, its quote and the backslash apart
abbrev pub is_printed : ℕ → Bool
is_printed = is_between 32 126

-- the value of a hexadecimal digit; 16 for any other byte
abbrev pub digit_value : ℕ → ℕ
digit_value c =
    if is_digit c then c - 48
    else if is_between 97 102 c then c - 87
    else if is_between 65 70 c then c - 55
    else 16

abbrev pub is_digit_of : (base : ℕ) → ℕ → Bool
is_digit_of base c = nat_lt (digit_value c) base
