use Rattle.std.proofs.Common.{◌≡◌, ◌≤◌}
use Rattle.std.specs.Prelude.{vec_len, vec_capacity}
use Rattle.porch_heap.proofs.row.Row.new.Given as goal

abbrev pub invariant-loop : goal.invariant-loop
invariant-loop l = record {
  all : vec_len l.spares ≡ l.counter;
  memory : 1024 ≤ vec_capacity l.spares;
}
