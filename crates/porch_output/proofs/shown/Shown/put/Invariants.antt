use Rattle.std.proofs.Common.{◌-◌, ◌≤◌, ◌++◌, length, take}
use Rattle.porch_output.specs.Shows.{waiting, IsSpent, PassesOn}
use Rattle.porch_output.proofs.shown.Shown.put.Given as goal

abbrev pub invariant-loop-taken : goal.invariant-loop-taken
invariant-loop-taken g l = record {
  within : l.taken ≤ length l.bytes;
  usable : ¬ IsSpent l.self;
  passed : PassesOn (g.O.Sink.held l.fn.out) (g.O.Sink.held l.out) (waiting l.fn.self ++ take l.taken l.bytes) (waiting l.self);
  later : g.O.Sink.faults l.fn.out ≤ g.O.Sink.faults l.out;
}

abbrev pub decreases-loop-taken : goal.decreases-loop-taken
decreases-loop-taken g l = length l.bytes - l.taken
