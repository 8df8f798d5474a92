-- The program that a text is read as.
use Rattle.std.specs.Prelude.{ℕ, List, [], Option, Some, None}
use Rattle.std.specs.Option.{option_map}
use Rattle.porch_syntax.specs.declared.token.Token.{Token}
use Rattle.porch_syntax.specs.Tree.{Program}
use Rattle.porch_syntax.specs.inside.Lexing.{lex}
use Rattle.porch_syntax.specs.inside.Program.{read_program}

abbrev pub program_in_tokens : Option (List Token) → Option Program
program_in_tokens None = None
program_in_tokens (Some ts) = read_program ts

abbrev pub tokens_of : List ℕ → Option (List Token)
tokens_of text = option_map (λ l. l.tokens) (lex text 0 [])

unfoldable pub source_of : List ℕ → Option Program
source_of text = program_in_tokens (tokens_of text)
