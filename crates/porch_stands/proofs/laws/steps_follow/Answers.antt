use Rattle.porch_stands.proofs.Moving.{steps_follow}
use Rattle.porch_stands.proofs.laws.steps_follow.Goals as goal

pub returns : goal.returns
returns c = steps_follow
