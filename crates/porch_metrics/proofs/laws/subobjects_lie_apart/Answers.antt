use Rattle.porch_metrics.proofs.Counted.{counted}
use Rattle.porch_metrics.proofs.RowsApart.{subobjects_apart}
use Rattle.porch_metrics.proofs.laws.subobjects_lie_apart.Goals as goal

pub returns : goal.returns
returns c = λ l types root count place ty leaf is are known sub after. subobjects_apart l types root count place ty leaf is (counted types are c.leaves_add_up.ensures.together c.leaves_add_up.ensures.some) known sub after
