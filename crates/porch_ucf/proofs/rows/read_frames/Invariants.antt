use Rattle.std.proofs.Common.{◌≡◌}
use Rattle.porch_ucf.specs.Reading.{frames_in}
use Rattle.porch_ucf.proofs.rows.read_frames.Given as goal

abbrev pub invariant-loop-i : goal.invariant-loop-i
invariant-loop-i l = l.rows.items ≡ frames_in l.text l.i
