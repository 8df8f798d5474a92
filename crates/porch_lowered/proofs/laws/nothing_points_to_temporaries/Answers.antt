use Rattle.porch_lowered.proofs.Grounded.{stay}
use Rattle.porch_lowered.proofs.laws.nothing_points_to_temporaries.Goals as goal

pub returns : goal.returns
returns c = stay
