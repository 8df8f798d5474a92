use Rattle.std.proofs.Common.{ap, ◌∙◌}
use Rattle.porch_syntax.specs.inside.Lexing.{shown}
use Rattle.porch_syntax.proofs.Pieces.{with_shown}
use Rattle.porch_syntax.proofs.lexer.number.Goals as goal

pub returns-clause-names : goal.returns-clause-names
returns-clause-names c = ap shown c.in_ok-index.ensures.keys ∙ with_shown c.args.names.now.keys c.args.name
