-- What stands so far, and the variables that are left, are the whole.
use Rattle.std.proofs.Common.{◌≡◌, ◌++◌, map, drop}
use Rattle.porch_sealing.specs.Numbers.{last_in}
use Rattle.porch_sealed.proofs.program.put_variables.Given as goal

abbrev pub invariant-loop-variable : goal.invariant-loop-variable
invariant-loop-variable l =
    l.out ++ map (last_in l.fn.numbers) (drop l.variable-index l.variables)
    ≡ l.fn.out ++ map (last_in l.fn.numbers) l.variables
