use Rattle.std.proofs.Common.{◌≡◌, ◌≤◌, ◌<◌, ◌-◌, length, false}
use Rattle.std.specs.Prelude.{vec_capacity}
use Rattle.std.specs.Fmt.{digits, digits_onto}
use Rattle.porch_operations.proofs.output.keep_hexadecimal.Given as goal

abbrev pub invariant-loop-left : goal.invariant-loop-left
invariant-loop-left l = record {
  same : digits_onto (64 - length l.shown.items) 16 false l.left l.shown.items ≡ digits 16 false l.fn.number;
  count_is : l.count ≡ length l.shown.items;
  few : length l.shown.items < 64;
  room : vec_capacity l.fn.shown ≤ vec_capacity l.shown;
}

abbrev pub decreases-loop-left : goal.decreases-loop-left
decreases-loop-left l = l.left
