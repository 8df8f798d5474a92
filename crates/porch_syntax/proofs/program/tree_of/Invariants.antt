use Rattle.std.proofs.Common.{◌≡◌, drop}
use Rattle.porch_syntax.specs.inside.Program.{written_of, phase_of, run, beginning}
use Rattle.porch_syntax.proofs.program.tree_of.Given as goal

-- What the tokens come to from here, they come to from the start.
abbrev pub invariant-loop-token : goal.invariant-loop-token
invariant-loop-token l =
    run (drop l.token-index l.tokens) (record { written = written_of l.written; phase = phase_of l.phase }) ≡ run l.tokens beginning
