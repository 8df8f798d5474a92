use Rattle.porch_metrics.proofs.Counted.{counted}
use Rattle.porch_metrics.proofs.Rising.{part_inside}
use Rattle.porch_metrics.proofs.laws.parts_lie_inside.Goals as goal

pub returns : goal.returns
returns c = λ l types ty leaf part is are at. part_inside l types ty leaf part is (counted types are c.leaves_add_up.ensures.together c.leaves_add_up.ensures.some) at
