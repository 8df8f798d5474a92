-- Integer constants: digits in one of three bases and a suffix.
use Rattle.std.specs.Prelude.{ℕ, ◌+◌, ◌*◌, ◌==◌, nat_lt, ◌&&◌, ◌||◌, if◌then◌else◌, Bool, true, false, List, [], ◌∷◌, take, drop, fold}
use Rattle.std.specs.List.{prefix_len, list_any}
use Rattle.porch_lex.specs.Characters.{digit_value, is_digit_of}

-- x or X, u or U, l or L
abbrev pub is_x : ℕ → Bool
is_x c = c == 120 || c == 88

abbrev pub is_u : ℕ → Bool
is_u c = c == 117 || c == 85

abbrev pub is_l : ℕ → Bool
is_l c = c == 108 || c == 76

-- hexadecimal where 0x or 0X stands in front, octal where the first digit is 0
abbrev pub constant_base : List ℕ → ℕ
constant_base [] = 10
constant_base (a ∷ []) = if a == 48 then 8 else 10
constant_base (a ∷ b ∷ cs) = if a == 48 then (if is_x b then 16 else 8) else 10

-- its digits with what stands after them
abbrev pub constant_body : List ℕ → List ℕ
constant_body cs = if constant_base cs == 16 then drop 2 cs else cs

abbrev pub digit_count : (base : ℕ) → List ℕ → ℕ
digit_count base = prefix_len (is_digit_of base)

abbrev pub constant_digits : List ℕ → List ℕ
constant_digits cs = take (digit_count (constant_base cs) (constant_body cs)) (constant_body cs)

abbrev pub constant_suffix : List ℕ → List ℕ
constant_suffix cs = drop (digit_count (constant_base cs) (constant_body cs)) (constant_body cs)

-- none, u, l, ul or lu, each letter in either case
abbrev pub is_suffix : List ℕ → Bool
is_suffix [] = true
is_suffix (a ∷ []) = is_u a || is_l a
is_suffix (a ∷ b ∷ []) = is_u a && is_l b || is_l a && is_u b
is_suffix (a ∷ b ∷ c ∷ cs) = false

-- at least one digit, and a suffix
abbrev pub is_constant : List ℕ → Bool
is_constant cs =
    nat_lt 0 (digit_count (constant_base cs) (constant_body cs)) && is_suffix (constant_suffix cs)

-- the number that digits of a base stand for
abbrev pub number_in : (base : ℕ) → List ℕ → ℕ
number_in base = fold (λ n c. base * n + digit_value c) 0

abbrev pub constant_value : List ℕ → ℕ
constant_value cs = number_in (constant_base cs) (constant_digits cs)

-- of int, and of unsigned int; of long and unsigned long too, where these have 32 bits
abbrev pub greatest_int : ℕ
greatest_int = 2147483647

abbrev pub greatest_unsigned : ℕ
greatest_unsigned = 4294967295

-- The greatest value of the type that the base and the suffix give.
abbrev pub greatest_value : (base : ℕ) → (suffix : List ℕ) → ℕ
greatest_value base suffix =
    if list_any is_u suffix then greatest_unsigned
    else if list_any is_l suffix then greatest_int
    else if base == 10 then greatest_int
    else greatest_unsigned

abbrev pub is_wide : List ℕ → Bool
is_wide cs = nat_lt (greatest_value (constant_base cs) (constant_suffix cs)) (constant_value cs)
