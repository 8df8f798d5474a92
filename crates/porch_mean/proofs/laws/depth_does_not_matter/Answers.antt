use Rattle.porch_mean.proofs.Calls.{depths_agree}
use Rattle.porch_mean.proofs.laws.depth_does_not_matter.Goals as goal

pub returns : goal.returns
returns c = depths_agree
