use Rattle.porch_depth.specs.inside.Reads.{HasRead}
use Rattle.porch_depth.proofs.along.read_tokens.Given as goal

abbrev pub invariant-loop-i : goal.invariant-loop-i
invariant-loop-i l = HasRead l.text l.tokens l.i l.reader
