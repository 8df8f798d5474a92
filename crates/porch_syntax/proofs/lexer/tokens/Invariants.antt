use Rattle.std.proofs.Common.{◌≡◌, ◌+◌, ◌≤◌, [], length}
use Rattle.porch_syntax.specs.inside.Lexing.{lex, behind, shown}
use Rattle.porch_syntax.proofs.lexer.tokens.Given as goal

-- What the text comes to: the tokens so far, and what the rest comes to. There are fewer names than characters.
abbrev pub invariant-loop-rest : goal.invariant-loop-rest
invariant-loop-rest l =
    (lex l.text 0 [] ≡ behind l.found.items (lex l.rest 0 (shown l.names.keys))) × (length l.names.keys + length l.rest ≤ length l.text)

abbrev pub decreases-loop-rest : goal.decreases-loop-rest
decreases-loop-rest l = length l.rest
