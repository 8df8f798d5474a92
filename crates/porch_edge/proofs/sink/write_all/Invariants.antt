use Rattle.std.proofs.Common.{◌≤◌, ◌-◌, length, take}
use Rattle.porch_edge.specs.Streams.{Grew}
use Rattle.porch_edge.proofs.sink.write_all.Given as goal

abbrev pub invariant-loop-written : goal.invariant-loop-written
invariant-loop-written g l = record {
  within : l.written ≤ length l.bytes;
  grew : Grew (g.O.Sink.held l.fn.out) (g.O.Sink.held l.out) (take l.written l.bytes);
  later : g.O.Sink.faults l.fn.out ≤ g.O.Sink.faults l.out;
}

abbrev pub decreases-loop-written : goal.decreases-loop-written
decreases-loop-written g l = length l.bytes - l.written
