-- What stands at the front of a text: white space, a comment, an include, a token, or a broken rule.
use Rattle.std.specs.Prelude.{ℕ, ◌+◌, ◌==◌, nat_eq, ◌&&◌, ◌||◌, not, if◌then◌else◌, Bool, false, List, [], ◌∷◌, ◌++◌, filter, take, drop, length, codes, Option, Some, None}
use Rattle.std.specs.List.{find, prefix_len, starts_with}
use Rattle.std.specs.Str.{bytes_eq}
use Rattle.porch_tree.specs.declared.word.Keyword.{Keyword}
use Rattle.porch_tree.specs.declared.word.Mark.{Mark}
use Rattle.porch_tree.specs.Words.{keywords, marks, keyword_bytes, mark_bytes}
use Rattle.porch_lex.specs.declared.refusal.Rule.TheVariants as rule
use Rattle.porch_lex.specs.declared.token.TokenKind.{TokenKind}
use Rattle.porch_lex.specs.declared.token.TokenKind.TheVariants as kind
use Rattle.porch_lex.specs.declared.lexeme.Lexeme.{Lexeme}
use Rattle.porch_lex.specs.declared.lexeme.Lexeme.TheVariants.{End, Gap, Token, Fault}
use Rattle.porch_lex.specs.Characters.{is_space, is_newline, is_letter, is_digit, is_word}
use Rattle.porch_lex.specs.Constants.{is_constant, is_wide}
use Rattle.porch_lex.specs.Literals.{character_constant_length, string_length}
use Rattle.porch_lex.specs.Gaps.{comment_length, line_length, is_include}

-- A word of letters, digits and underscores is a keyword or a name.
abbrev pub keyword_of : List ℕ → Option Keyword
keyword_of cs = find (λ k. bytes_eq cs (keyword_bytes k)) keywords

abbrev pub word_kind : Option Keyword → TokenKind
word_kind None = kind.Name
word_kind (Some k) = kind.Keyword k

abbrev pub word_lexeme : List ℕ → Lexeme
word_lexeme cs = Token (word_kind (keyword_of cs)) (length cs)

-- A constant goes as far as letters, digits and underscores do, and no dot may stand after it.
abbrev pub constant_lexeme : List ℕ → List ℕ → Lexeme
constant_lexeme cs rest =
    if starts_with nat_eq rest (codes ".") || not (is_constant cs) then Fault rule.Word
    else if is_wide cs then Fault rule.WideConstant
    else Token kind.Whole (length cs)

-- A literal, of which one more byte is its first quote.
abbrev pub literal_lexeme : TokenKind → Option ℕ → Lexeme
literal_lexeme k None = Fault rule.Word
literal_lexeme k (Some n) = Token k (n + 1)

-- A comment, of which two more bytes are its beginning. No directive may follow in its line.
abbrev pub comment_lexeme : Option ℕ → Lexeme
comment_lexeme None = Fault rule.Word
comment_lexeme (Some n) = Gap (n + 2) false

-- The line after a `#` that is the first in it but for white space.
abbrev pub directive_lexeme : List ℕ → Lexeme
directive_lexeme cs =
    if is_include (take (line_length cs) cs) then Gap (line_length cs + 1) false
    else Fault rule.Outside

-- the marks by their length, the longest ones first
abbrev pub marks_of_length : ℕ → List Mark
marks_of_length n = filter (λ m. length (mark_bytes m) == n) marks

abbrev pub longest_first : List Mark
longest_first = marks_of_length 3 ++ marks_of_length 2 ++ marks_of_length 1

-- the longest mark in front of a text
abbrev pub mark_in_front : List ℕ → Option Mark
mark_in_front text = find (λ m. starts_with nat_eq text (mark_bytes m)) longest_first

abbrev pub mark_lexeme : Option Mark → Lexeme
mark_lexeme None = Fault rule.Byte
mark_lexeme (Some m) = Token (kind.Mark m) (length (mark_bytes m))

-- A text of at least one byte. `fresh` says that only white space stands before it in its line.
abbrev pub lexeme_from : (fresh : Bool) → ℕ → List ℕ → Lexeme
lexeme_from fresh c cs =
    if is_space c then Gap 1 (fresh || is_newline c)
    else if is_letter c then word_lexeme (c ∷ take (prefix_len is_word cs) cs)
    else if is_digit c
    then constant_lexeme (c ∷ take (prefix_len is_word cs) cs) (drop (prefix_len is_word cs) cs)
    else if c == 39 then literal_lexeme kind.Character (character_constant_length cs)
    else if c == 34 then literal_lexeme kind.Text (string_length cs)
    else if c == 47 && starts_with nat_eq cs (codes "*") then comment_lexeme (comment_length (drop 1 cs))
    else if c == 35 && fresh then directive_lexeme cs
    else mark_lexeme (mark_in_front (c ∷ cs))

abbrev pub lexeme_at : (fresh : Bool) → List ℕ → Lexeme
lexeme_at fresh [] = End
lexeme_at fresh (c ∷ cs) = lexeme_from fresh c cs
