use Rattle.porch_walk.proofs.Whole.{unit_whole}
use Rattle.porch_walk.proofs.laws.each_unit_is_read_whole.Goals as goal

pub returns : goal.returns
returns c = unit_whole
