use Rattle.std.proofs.Common.{◌≡◌}
use Rattle.std.specs.Prelude.{replicate}
use Rattle.porch_lower.proofs.program.ints.Given as goal

abbrev pub invariant-loop : goal.invariant-loop
invariant-loop l = l.types ≡ replicate l.counter 4
