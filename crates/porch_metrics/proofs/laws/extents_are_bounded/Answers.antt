use Rattle.porch_metrics.proofs.Counted.{counted}
use Rattle.porch_metrics.proofs.ExtentBounds.{extent_bounds}
use Rattle.porch_metrics.proofs.laws.extents_are_bounded.Goals as goal

pub returns : goal.returns
returns c = λ l types ty is are known. extent_bounds l types ty is (counted types are c.leaves_add_up.ensures.together c.leaves_add_up.ensures.some) known
