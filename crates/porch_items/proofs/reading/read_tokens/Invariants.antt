use Rattle.std.proofs.Common.{drop}
use Rattle.porch_lex.specs.Words.{spelled}
use Rattle.porch_statements.specs.Shown.{state_of}
use Rattle.porch_items.specs.inside.Reading.{HasRead}
use Rattle.porch_items.proofs.reading.read_tokens.Given as goal

abbrev pub invariant-loop-token : goal.invariant-loop-token
invariant-loop-token l = HasRead l.types.keys (state_of l.text l.builder l.point) (spelled l.text (drop l.token-index l.tokens)) (spelled l.text l.tokens)
