use Rattle.std.proofs.Common.{◌≡◌, length}
use Rattle.porch_ucf.proofs.FoundRuns.{NoneFound}
use Rattle.porch_ucf.proofs.runs.no_runs.Given as goal

abbrev pub invariant-loop : goal.invariant-loop
invariant-loop l = record {
  none : NoneFound l.found.items;
  all : length l.found.items ≡ l.counter;
}
