use Rattle.std.proofs.Common.{◌≤◌}
use Rattle.porch_ucf.specs.Objects.{frame_objects}
use Rattle.porch_ucf.proofs.Walks.{Walked}
use Rattle.porch_ucf.proofs.placing.Placing.put_frames.Given as goal

abbrev pub invariant-loop-frame : goal.invariant-loop-frame
invariant-loop-frame l = record {
  walked : Walked l.metrics.types (frame_objects l.program) l.frames l.fn.self l.frame-index l.self;
  within : l.self.end ≤ l.most;
}
