use Rattle.porch_walk.specs.inside.Stages.{Walked}
use Rattle.porch_walk.proofs.along.first_place.Given as goal

-- where the walk stands, and what it finds from there
abbrev pub invariant-loop-i : goal.invariant-loop-i
invariant-loop-i l = Walked l.text l.tokens l.i l.stage
