-- Which word of the grammar a token is, and what the tokens of a text are as the grammar sees them.
use Rattle.std.specs.Prelude.{ℕ, ◌-◌, List, map, take, drop}
use Rattle.porch_tree.specs.declared.word.Word.{Word}
use Rattle.porch_tree.specs.declared.word.Word.TheVariants as word
use Rattle.porch_tree.specs.Pieces.{Spelled}
use Rattle.porch_lex.specs.declared.token.TokenKind.{TokenKind}
use Rattle.porch_lex.specs.declared.token.TokenKind.TheVariants.{Name, Keyword, Whole, Character, Text, Mark}
use Rattle.porch_lex.specs.declared.token.Token.{Token}

abbrev pub kind_word : TokenKind → Word
kind_word Name = word.Name
kind_word (Keyword k) = word.Key k
kind_word Whole = word.Whole
kind_word Character = word.Character
kind_word Text = word.Text
kind_word (Mark m) = word.Mark m

-- the bytes from one place up to another
abbrev pub bytes_between : List ℕ → ℕ → ℕ → List ℕ
bytes_between text from to = take (to - from) (drop from text)

abbrev pub spelled_token : List ℕ → Token → Spelled
spelled_token text t =
    record { word = kind_word t.kind; at = t.from; bytes = bytes_between text t.from t.to }

-- the tokens of a text as the grammar sees them
abbrev pub spelled : List ℕ → List Token → List Spelled
spelled text = map (spelled_token text)
