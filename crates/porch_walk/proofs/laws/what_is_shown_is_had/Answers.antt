use Rattle.porch_walk.proofs.ShownHad.{had_there}
use Rattle.porch_walk.proofs.laws.what_is_shown_is_had.Goals as goal

pub returns : goal.returns
returns c = λ ts. had_there ts
