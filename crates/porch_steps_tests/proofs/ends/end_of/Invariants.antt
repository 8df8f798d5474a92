use Rattle.porch_steps.specs.Held.{Fits}
use Rattle.porch_steps_tests.proofs.ends.end_of.Given as goal

abbrev pub invariant-loop : goal.invariant-loop
invariant-loop l = Fits l.program l.machine
