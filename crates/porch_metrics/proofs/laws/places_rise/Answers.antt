use Rattle.porch_metrics.proofs.Counted.{counted}
use Rattle.porch_metrics.proofs.Rising.{places_rise_from}
use Rattle.porch_metrics.proofs.laws.places_rise.Goals as goal

pub returns : goal.returns
returns c = λ l types ty a b is are known lt. places_rise_from l types ty a b is (counted types are c.leaves_add_up.ensures.together c.leaves_add_up.ensures.some) known lt
