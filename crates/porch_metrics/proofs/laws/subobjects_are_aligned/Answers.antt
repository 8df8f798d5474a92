use Rattle.porch_metrics.proofs.Counted.{counted}
use Rattle.porch_metrics.proofs.RowAlignment.{subobject_aligned}
use Rattle.porch_metrics.proofs.laws.subobjects_are_aligned.Goals as goal

pub returns-clause-place : goal.returns-clause-place
returns-clause-place c = λ l types root count place ty is are known sub. (subobject_aligned l types root count place ty is (counted types are c.leaves_add_up.ensures.together c.leaves_add_up.ensures.some) known sub).place_is

pub returns-clause-root : goal.returns-clause-root
returns-clause-root c = λ l types root count place ty is are known sub. (subobject_aligned l types root count place ty is (counted types are c.leaves_add_up.ensures.together c.leaves_add_up.ensures.some) known sub).root_is
