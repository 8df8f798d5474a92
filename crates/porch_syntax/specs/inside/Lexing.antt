-- Reading a text lexeme by lexeme: a word, a number, a character constant or a mark at a time.
use Rattle.std.specs.Prelude.{ℕ, zero, suc, ◌+◌, pos, ◌==◌, nat_lt, ◌&&◌, not, if◌then◌else◌, Bool, true, false, ◌≡◌, List, [], ◌∷◌, ◌++◌, take, map, codes, Option, Some, None}
use Rattle.std.specs.Borrow.{Bor}
use Rattle.std.specs.List.{list_any, prefix_len, position_or_len}
use Rattle.std.specs.Str.{bytes_eq}
use Rattle.porch_syntax.specs.declared.token.Token.{Token}
use Rattle.porch_syntax.specs.declared.token.Token.TheVariants as token
use Rattle.porch_syntax.specs.declared.lexeme.Lexeme.{Lexeme}
use Rattle.porch_syntax.specs.declared.lexeme.Lexeme.TheVariants.{Fixed, Name, Wrong}
use Rattle.porch_syntax.specs.Token.{is_between, is_space, is_word, is_name, is_decimal, decimal_of, reserved}

-- a constant, where it isn't too great
abbrev pub decimal_kind : List ℕ → Lexeme
decimal_kind cs = if nat_lt (decimal_of cs) 2147483648 then Fixed (token.Whole (pos (decimal_of cs))) else Wrong

abbrev pub name_kind : List ℕ → Lexeme
name_kind cs = if list_any (bytes_eq cs) reserved then Wrong else Name

abbrev pub word_kind : List ℕ → Lexeme
word_kind cs =
    if bytes_eq cs (codes "int") then Fixed token.Int
    else if bytes_eq cs (codes "main") then Fixed token.Main
    else if bytes_eq cs (codes "void") then Fixed token.Void
    else if bytes_eq cs (codes "while") then Fixed token.While
    else if bytes_eq cs (codes "return") then Fixed token.Return
    else if bytes_eq cs (codes "putchar") then Fixed token.Putchar
    else name_kind cs

abbrev pub mark_kind : ℕ → Lexeme
mark_kind c =
    if c == 40 then Fixed token.OpenParenthesis
    else if c == 41 then Fixed token.CloseParenthesis
    else if c == 123 then Fixed token.OpenBrace
    else if c == 125 then Fixed token.CloseBrace
    else if c == 59 then Fixed token.Semicolon
    else if c == 61 then Fixed token.Assign
    else if c == 60 then Fixed token.Less
    else if c == 43 then Fixed token.Plus
    else if c == 45 then Fixed token.Minus
    else if c == 42 then Fixed token.Star
    else Wrong

abbrev pub quoted_kind : ℕ → ℕ → ℕ → Lexeme
quoted_kind q c r =
    if (q == 39) && ((r == 39) && (is_between 32 126 c && not (c == 39) && not (c == 92))) then Fixed (token.Character c) else Wrong

abbrev pub other_kind : List ℕ → Lexeme
other_kind [] = Wrong
other_kind (c ∷ []) = mark_kind c
other_kind (q ∷ c ∷ []) = Wrong
other_kind (q ∷ c ∷ r ∷ []) = quoted_kind q c r
other_kind (q ∷ c ∷ r ∷ s ∷ cs) = Wrong

-- what these characters are
abbrev pub kind_of : List ℕ → Lexeme
kind_of cs = if is_name cs then word_kind cs else if is_decimal cs then decimal_kind cs else other_kind cs

abbrev pub quoted_more : List ℕ → ℕ
quoted_more [] = 0
quoted_more (a ∷ []) = 1
quoted_more (a ∷ b ∷ cs) = 2

-- how many characters behind this one belong to the lexeme that begins with it
abbrev pub more_of : ℕ → List ℕ → ℕ
more_of c cs = if is_word c then prefix_len is_word cs else if c == 39 then quoted_more cs else 0

-- the number of a name, by its first occurrence
abbrev pub number_of : List (List ℕ) → List ℕ → ℕ
number_of names cs = position_or_len (bytes_eq cs) names

abbrev pub with_name : List (List ℕ) → List ℕ → List (List ℕ)
with_name names cs = if list_any (bytes_eq cs) names then names else names ++ cs ∷ []

-- the tokens of a text, and the names in order of their first occurrence
pub record Lexed : Type 0 where
  pub tokens : List Token
  pub names : List (List ℕ)

abbrev pub behind : List Token → Option Lexed → Option Lexed
behind ts None = None
behind ts (Some l) = Some (record { tokens = ts ++ l.tokens; names = l.names })

abbrev pub lexeme_step : Lexeme → List ℕ → List (List ℕ) → (List (List ℕ) → Option Lexed) → Option Lexed
lexeme_step (Fixed t) cs names go = behind (t ∷ []) (go names)
lexeme_step Name cs names go = behind (token.Name (number_of names cs) ∷ []) (go (with_name names cs))
lexeme_step Wrong cs names go = None

abbrev pub lex_at : ℕ → List ℕ → ℕ → List (List ℕ) → (ℕ → List (List ℕ) → Option Lexed) → Option Lexed
lex_at c cs (suc k) names go = go k names
lex_at c cs zero names go =
    if is_space c then go zero names
    else lexeme_step (kind_of (c ∷ take (more_of c cs) cs)) (c ∷ take (more_of c cs) cs) names (go (more_of c cs))

-- behind the first k characters
abbrev pub lex : List ℕ → ℕ → List (List ℕ) → Option Lexed
lex [] k names = Some (record { tokens = []; names = names })
lex (c ∷ cs) k names = lex_at c cs k names (lex cs)

abbrev pub shown : List (Bor (List ℕ)) → List (List ℕ)
shown = map (λ k. k.now)

-- what one lexeme does to the tokens and the names
abbrev pub Taken : Lexeme → List ℕ → List Token → List (List ℕ) → List Token → List (List ℕ) → Bool → Type 0
Taken (Fixed t) cs ts ns ts' ns' going = (going ≡ true) × (ts' ≡ ts ++ t ∷ []) × (ns' ≡ ns)
Taken Name cs ts ns ts' ns' going = (going ≡ true) × (ts' ≡ ts ++ token.Name (number_of ns cs) ∷ []) × (ns' ≡ with_name ns cs)
Taken Wrong cs ts ns ts' ns' going = going ≡ false

-- how many characters the lexeme at the front has
abbrev pub length_of : List ℕ → ℕ
length_of [] = 0
length_of (c ∷ cs) = more_of c cs + 1

-- what is read behind one lexeme or one white space
abbrev pub gone_on : List Token → List (List ℕ) → Option (Bor (List ℕ)) → Option Lexed
gone_on ts names None = None
gone_on ts names (Some rest) = behind ts (lex rest.now 0 names)
