-- The globals that are left decide, with the leaves of those before.
use Rattle.std.proofs.Common.{◌≡◌, ◌≤◌, ◌-◌, length, drop, Ok}
use Rattle.porch_typed.specs.Mirror.{Program}
use Rattle.porch_check.specs.Units.{if_few_leaves}
use Rattle.porch_functions.proofs.program.too_many.Given as goal

abbrev pub invariant-loop-i : goal.invariant-loop-i
invariant-loop-i l = record {
  within : l.i ≤ length l.globals;
  same : (p : Program) → if_few_leaves l.shapes (drop l.i l.globals) (drop l.i l.entries) l.before (Ok p)
      ≡ if_few_leaves l.shapes l.globals l.entries 0 (Ok p);
}

abbrev pub decreases-loop-i : goal.decreases-loop-i
decreases-loop-i l = length l.globals - l.i
