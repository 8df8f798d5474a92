use Rattle.std.proofs.Common.{◌≡◌, ◌++◌, replicate}
use Rattle.porch_emitter.proofs.variables.add_alike.Given as goal

abbrev pub invariant-loop : goal.invariant-loop
invariant-loop l = l.variables ≡ l.initial.variables ++ replicate l.counter l.ty
