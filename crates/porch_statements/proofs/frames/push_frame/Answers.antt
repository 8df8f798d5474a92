use Rattle.porch_statements.proofs.Stacks.{put_on}
use Rattle.porch_statements.proofs.frames.push_frame.Goals as goal

pub returns : goal.returns
returns c = record { pushed = put_on c.push.result c.args.frames.now c.push.new.self c.args.frame c.push.ensures.ok }
