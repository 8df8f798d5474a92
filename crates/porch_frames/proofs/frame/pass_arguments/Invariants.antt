use Rattle.std.proofs.Common.{◌≡◌, length, drop}
use Rattle.porch_frames.specs.Passing.{passed, ArePassings, AgreeBelow}
use Rattle.porch_frames.proofs.frame.pass_arguments.Given as goal

abbrev pub invariant-loop-passing : goal.invariant-loop-passing
invariant-loop-passing l = record {
  same : passed l.fn.here l.fn.there (drop l.passing-index l.passings) l.fn.memory l.memory ≡ passed l.fn.here l.fn.there l.passings l.fn.memory l.fn.memory;
  left : ArePassings l.fn.here l.fn.there.at l.fn._size (drop l.passing-index l.passings);
  agree : AgreeBelow l.fn.there.at l.fn.memory l.memory;
  length_is : length l.memory ≡ length l.fn.memory;
}
