use Rattle.std.proofs.Common.{◌-◌, ◌≤◌, length}
use Rattle.porch_lex.specs.Tokens.{source_limit}
use Rattle.porch_lex.proofs.Reached.{Reached}
use Rattle.porch_lex.proofs.lexer.fill.Given as goal

abbrev pub invariant-lexemes : goal.invariant-lexemes
invariant-lexemes l = Reached l.text l.tokens.items l.fresh l.at × (length l.text ≤ source_limit)

abbrev pub decreases-lexemes : goal.decreases-lexemes
decreases-lexemes l = length l.text - l.at
