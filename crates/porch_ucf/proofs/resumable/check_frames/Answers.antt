use Rattle.std.proofs.Common.{◌≡◌, ◌∙◌, length, true, arith}
use Rattle.porch_ucf.specs.RowFlaws.{is_resumable_at}
use Rattle.porch_ucf.proofs.FirstFailing.{passed}
use Rattle.porch_ucf.proofs.resumable.check_frames.Goals as goal

pub loop-i-preserved : goal.loop-i-preserved
loop-i-preserved c =
    let passes : is_resumable_at c.args.program.now c.args.frames.now c.loop-i.i ≡ true = grind arith in
    c.loop-i.invariant ∙ passed (is_resumable_at c.args.program.now c.args.frames.now) (length c.args.frames.now) c.loop-i.i c.loop-i-test.true passes
