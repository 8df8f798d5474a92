use Rattle.std.proofs.Common.{◌≡◌, ◌-◌, length}
use Rattle.porch_ucf.specs.FirstFailing.{first_failing}
use Rattle.porch_ucf.specs.RowFlaws.{is_resumable_at}
use Rattle.porch_ucf.proofs.resumable.check_frames.Given as goal

abbrev pub invariant-loop-i : goal.invariant-loop-i
invariant-loop-i l =
    first_failing (is_resumable_at l.program l.frames) 0 (length l.frames)
    ≡ first_failing (is_resumable_at l.program l.frames) l.i (length l.frames - l.i)
