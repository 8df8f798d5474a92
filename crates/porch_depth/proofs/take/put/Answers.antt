use Rattle.porch_depth.proofs.Takes.{put_on}
use Rattle.porch_depth.proofs.take.put.Goals as goal

pub returns : goal.returns
returns c = put_on c.args.here c.args.steps.now c.args.levels.now.items c.loop-step.levels.items c.loop-step.step-index c.loop-step.invariant c.loop-step-test.false
