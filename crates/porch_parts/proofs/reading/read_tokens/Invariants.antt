use Rattle.std.proofs.Common.{◌≡◌, [], drop, map}
use Rattle.porch_lex.specs.Words.{spelled}
use Rattle.porch_parse.specs.Building.{awaits}
use Rattle.porch_parts.specs.Parts.{in_expr, run}
use Rattle.porch_parts.specs.Shown.{state_of}
use Rattle.porch_parts.proofs.reading.read_tokens.Given as goal

-- What the tokens come to from here, they come to from the start.
abbrev pub invariant-loop-token : goal.invariant-loop-token
invariant-loop-token l =
    run (map (λ k. k.now) l.types.keys) (state_of l.text l.reader.frames l.reader.parts l.turn) (spelled l.text (drop l.token-index l.tokens))
    ≡ run (map (λ k. k.now) l.types.keys) (in_expr [] (awaits [])) (spelled l.text l.tokens)
