-- The longest mark by its first byte, as the lexer looks for it.
use Rattle.std.specs.Prelude.{ℕ, ◌==◌, nat_eq, if◌then◌else◌, List, codes, Option, Some, None}
use Rattle.std.specs.List.{starts_with}
use Rattle.porch_tree.specs.declared.word.Mark.{Mark}
use Rattle.porch_tree.specs.declared.word.Mark.TheVariants as mark

abbrev pub mark_minus : List ℕ → Option Mark
mark_minus cs =
    if starts_with nat_eq cs (codes ">") then Some mark.Arrow
    else if starts_with nat_eq cs (codes "-") then Some mark.MinusMinus
    else if starts_with nat_eq cs (codes "=") then Some mark.MinusEqual
    else Some mark.Minus

abbrev pub mark_plus : List ℕ → Option Mark
mark_plus cs =
    if starts_with nat_eq cs (codes "+") then Some mark.PlusPlus
    else if starts_with nat_eq cs (codes "=") then Some mark.PlusEqual
    else Some mark.Plus

abbrev pub mark_ampersand : List ℕ → Option Mark
mark_ampersand cs =
    if starts_with nat_eq cs (codes "&") then Some mark.AndAnd
    else if starts_with nat_eq cs (codes "=") then Some mark.AndEqual
    else Some mark.And

abbrev pub mark_star : List ℕ → Option Mark
mark_star cs =
    if starts_with nat_eq cs (codes "=") then Some mark.StarEqual
    else Some mark.Star

abbrev pub mark_exclamation : List ℕ → Option Mark
mark_exclamation cs =
    if starts_with nat_eq cs (codes "=") then Some mark.NotEqual
    else Some mark.Not

abbrev pub mark_slash : List ℕ → Option Mark
mark_slash cs =
    if starts_with nat_eq cs (codes "=") then Some mark.SlashEqual
    else Some mark.Slash

abbrev pub mark_percent : List ℕ → Option Mark
mark_percent cs =
    if starts_with nat_eq cs (codes "=") then Some mark.PercentEqual
    else Some mark.Percent

abbrev pub mark_less : List ℕ → Option Mark
mark_less cs =
    if starts_with nat_eq cs (codes "<=") then Some mark.ShiftLeftEqual
    else if starts_with nat_eq cs (codes "<") then Some mark.ShiftLeft
    else if starts_with nat_eq cs (codes "=") then Some mark.LessEqual
    else Some mark.Less

abbrev pub mark_greater : List ℕ → Option Mark
mark_greater cs =
    if starts_with nat_eq cs (codes ">=") then Some mark.ShiftRightEqual
    else if starts_with nat_eq cs (codes ">") then Some mark.ShiftRight
    else if starts_with nat_eq cs (codes "=") then Some mark.GreaterEqual
    else Some mark.Greater

abbrev pub mark_equal : List ℕ → Option Mark
mark_equal cs =
    if starts_with nat_eq cs (codes "=") then Some mark.EqualEqual
    else Some mark.Equal

abbrev pub mark_caret : List ℕ → Option Mark
mark_caret cs =
    if starts_with nat_eq cs (codes "=") then Some mark.CaretEqual
    else Some mark.Caret

abbrev pub mark_bar : List ℕ → Option Mark
mark_bar cs =
    if starts_with nat_eq cs (codes "|") then Some mark.OrOr
    else if starts_with nat_eq cs (codes "=") then Some mark.OrEqual
    else Some mark.Or

abbrev pub mark_by_byte : ℕ → List ℕ → Option Mark
mark_by_byte c cs =
    if c == 91 then Some mark.OpenBracket
    else if c == 93 then Some mark.CloseBracket
    else if c == 40 then Some mark.OpenParenthesis
    else if c == 41 then Some mark.CloseParenthesis
    else if c == 123 then Some mark.OpenBrace
    else if c == 125 then Some mark.CloseBrace
    else if c == 46 then Some mark.Dot
    else if c == 45 then mark_minus cs
    else if c == 43 then mark_plus cs
    else if c == 38 then mark_ampersand cs
    else if c == 42 then mark_star cs
    else if c == 126 then Some mark.Tilde
    else if c == 33 then mark_exclamation cs
    else if c == 47 then mark_slash cs
    else if c == 37 then mark_percent cs
    else if c == 60 then mark_less cs
    else if c == 62 then mark_greater cs
    else if c == 61 then mark_equal cs
    else if c == 94 then mark_caret cs
    else if c == 124 then mark_bar cs
    else if c == 63 then Some mark.Question
    else if c == 58 then Some mark.Colon
    else if c == 59 then Some mark.Semicolon
    else if c == 44 then Some mark.Comma
    else None
