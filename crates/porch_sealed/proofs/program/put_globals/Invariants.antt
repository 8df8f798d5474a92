-- What stands so far, and the globals that are left, are the whole.
use Rattle.std.proofs.Common.{◌≡◌, ◌++◌, map, drop}
use Rattle.porch_check.specs.Sealing.{sealed_global}
use Rattle.porch_sealing.specs.Numbers.{last_in}
use Rattle.porch_sealed.proofs.program.put_globals.Given as goal

abbrev pub invariant-loop-global : goal.invariant-loop-global
invariant-loop-global l =
    l.out ++ map (sealed_global (last_in l.fn.numbers)) (drop l.global-index l.globals)
    ≡ l.fn.out ++ map (sealed_global (last_in l.fn.numbers)) l.globals
