use Rattle.std.proofs.Common.{sym}
use Rattle.porch_walk.proofs.Stages.{pending_on}
use Rattle.porch_walk.proofs.stage.ends_here.Goals as goal

pub returns-in-len1-up : goal.returns-in-len1-up
returns-in-len1-up c = sym (pending_on c.args.pending.now c.args.inside c.in-len1-up.len_at_least)
