use Rattle.std.proofs.Common.{◌≤◌, ◌^◌}
use Rattle.porch_run_tests.proofs.ends.run_out.Given as goal

abbrev pub invariant-loop : goal.invariant-loop
invariant-loop l = l.machine.state.turns ≤ 2 ^ 62
