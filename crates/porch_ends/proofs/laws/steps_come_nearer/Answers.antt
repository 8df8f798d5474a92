use Rattle.porch_ends.proofs.Nearer.{come_nearer}
use Rattle.porch_ends.proofs.laws.steps_come_nearer.Goals as goal

pub returns : goal.returns
returns c = come_nearer
