use Rattle.std.proofs.Common.{◌≡◌, [], drop, map}
use Rattle.porch_lex.specs.Words.{spelled}
use Rattle.porch_declarations.specs.Declarations.{at_start, run}
use Rattle.porch_declarations.specs.Shown.{stage_of}
use Rattle.porch_declarations.proofs.reading.read_tokens.Given as goal

-- What the tokens come to from here, they come to from the start.
abbrev pub invariant-loop-token : goal.invariant-loop-token
invariant-loop-token l =
    run (map (λ k. k.now) l.types.keys) (stage_of l.text l.declarer l.stage) (spelled l.text (drop l.token-index l.tokens))
    ≡ run (map (λ k. k.now) l.types.keys) at_start (spelled l.text l.tokens)
