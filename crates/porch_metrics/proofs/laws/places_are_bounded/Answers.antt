use Rattle.porch_metrics.proofs.Counted.{counted}
use Rattle.porch_metrics.proofs.ExtentBounds.{place_bound_of}
use Rattle.porch_metrics.proofs.laws.places_are_bounded.Goals as goal

pub returns : goal.returns
returns c = λ l types ty leaf is are known. place_bound_of l types ty leaf is (counted types are c.leaves_add_up.ensures.together c.leaves_add_up.ensures.some) known
