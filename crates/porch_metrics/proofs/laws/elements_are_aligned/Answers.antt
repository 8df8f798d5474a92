use Rattle.porch_metrics.proofs.Counted.{counted}
use Rattle.porch_metrics.proofs.Rising.{element_place, element_aligned}
use Rattle.porch_metrics.proofs.laws.elements_are_aligned.Goals as goal

pub returns-clause-place : goal.returns-clause-place
returns-clause-place c = λ l types ty k is are known. element_place l types ty k is (counted types are c.leaves_add_up.ensures.together c.leaves_add_up.ensures.some) known

pub returns-clause-aligned : goal.returns-clause-aligned
returns-clause-aligned c = λ l types ty k is are known. element_aligned l types ty k is (counted types are c.leaves_add_up.ensures.together c.leaves_add_up.ensures.some) known
