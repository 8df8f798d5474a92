-- How a text spells tokens.
use Rattle.std.specs.Prelude.{ℕ, pos, ◌≡◌, ◌<◌, ◌+◌, ◌-◌, ◌*◌, ◌^◌, ◌==◌, nat_le, ◌&&◌, ◌||◌, not, Bool, true, false, IsTrue, List, [], ◌∷◌, ◌++◌, fold, codes, slice_get, Some}
use Rattle.std.specs.List.{list_all}
use Rattle.porch_syntax.specs.declared.token.Token.{Token}
use Rattle.porch_syntax.specs.declared.token.Token.TheVariants.{Int, Main, Void, While, Return, Putchar, Name, Whole, Character, OpenParenthesis, CloseParenthesis, OpenBrace, CloseBrace, Semicolon, Assign, Less, Plus, Minus, Star}

-- between two codes, both included
abbrev pub is_between : ℕ → ℕ → ℕ → Bool
is_between low high c = nat_le low c && nat_le c high

-- space, tab, newline, vertical tab, form feed, carriage return
abbrev pub is_space : ℕ → Bool
is_space c = c == 32 || is_between 9 13 c

abbrev pub is_digit : ℕ → Bool
is_digit = is_between 48 57

-- a letter or an underscore
abbrev pub is_letter : ℕ → Bool
is_letter c = is_between 65 90 c || is_between 97 122 c || c == 95

-- what a name goes on with
abbrev pub is_word : ℕ → Bool
is_word c = is_letter c || is_digit c

-- the keywords of C90, and the two names that the language gives a meaning of its own
abbrev pub reserved : List (List ℕ)
reserved =
    codes "auto" ∷ codes "break" ∷ codes "case" ∷ codes "char" ∷ codes "const" ∷ codes "continue" ∷ codes "default"
    ∷ codes "do" ∷ codes "double" ∷ codes "else" ∷ codes "enum" ∷ codes "extern" ∷ codes "float" ∷ codes "for"
    ∷ codes "goto" ∷ codes "if" ∷ codes "int" ∷ codes "long" ∷ codes "register" ∷ codes "return" ∷ codes "short"
    ∷ codes "signed" ∷ codes "sizeof" ∷ codes "static" ∷ codes "struct" ∷ codes "switch" ∷ codes "typedef"
    ∷ codes "union" ∷ codes "unsigned" ∷ codes "void" ∷ codes "volatile" ∷ codes "while"
    ∷ codes "main" ∷ codes "putchar" ∷ []

-- a letter or an underscore, and then letters, digits and underscores
abbrev pub is_name : List ℕ → Bool
is_name [] = false
is_name (c ∷ cs) = is_letter c && list_all is_word cs

-- the number that decimal digits stand for
abbrev pub decimal_of : List ℕ → ℕ
decimal_of = fold (λ n c. 10 * n + (c - 48)) 0

-- 0, or digits of which the first isn't 0
abbrev pub is_decimal : List ℕ → Bool
is_decimal [] = false
is_decimal (c ∷ []) = is_digit c
is_decimal (c ∷ cs) = is_digit c && not (c == 48) && list_all is_digit cs

-- These characters are the token; names has the declared names in order.
abbrev pub IsSpelling : List (List ℕ) → Token → List ℕ → Type 0
IsSpelling names Int cs = cs ≡ codes "int"
IsSpelling names Main cs = cs ≡ codes "main"
IsSpelling names Void cs = cs ≡ codes "void"
IsSpelling names While cs = cs ≡ codes "while"
IsSpelling names Return cs = cs ≡ codes "return"
IsSpelling names Putchar cs = cs ≡ codes "putchar"
IsSpelling names (Name x) cs = slice_get names x ≡ Some cs
IsSpelling names (Whole z) cs = IsTrue (is_decimal cs) × (decimal_of cs < 2 ^ 31) × (z ≡ pos (decimal_of cs))
IsSpelling names (Character c) cs = (cs ≡ 39 ∷ c ∷ 39 ∷ []) × IsTrue (is_between 32 126 c && not (c == 39) && not (c == 92))
IsSpelling names OpenParenthesis cs = cs ≡ codes "("
IsSpelling names CloseParenthesis cs = cs ≡ codes ")"
IsSpelling names OpenBrace cs = cs ≡ codes "{"
IsSpelling names CloseBrace cs = cs ≡ codes "}"
IsSpelling names Semicolon cs = cs ≡ codes ";"
IsSpelling names Assign cs = cs ≡ codes "="
IsSpelling names Less cs = cs ≡ codes "<"
IsSpelling names Plus cs = cs ≡ codes "+"
IsSpelling names Minus cs = cs ≡ codes "-"
IsSpelling names Star cs = cs ≡ codes "*"

-- a token is the longest possible: a word or a number isn't followed at once by a letter, a digit or an underscore
abbrev pub is_whole : List ℕ → List ℕ → Bool
is_whole [] rest = false
is_whole (c ∷ cs) [] = true
is_whole (c ∷ cs) (r ∷ rest) = not (is_word c && is_word r)

-- The text is white space, a token, white space, a token, and so on.
abbrev pub Spells : List (List ℕ) → List ℕ → List Token → Type 0
Spells names text [] = IsTrue (list_all is_space text)
Spells names text (t ∷ ts) =
    (gap cs rest : List ℕ) × (text ≡ gap ++ (cs ++ rest)) × IsTrue (list_all is_space gap) × IsSpelling names t cs × IsTrue (is_whole cs rest) × Spells names rest ts
