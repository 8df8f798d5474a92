use Rattle.porch_walk.proofs.First.{told}
use Rattle.porch_walk.proofs.laws.what_is_wrong_is_told.Goals as goal

pub returns : goal.returns
returns c = told
