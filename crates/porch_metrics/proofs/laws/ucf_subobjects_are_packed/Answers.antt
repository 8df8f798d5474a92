use Rattle.porch_metrics.proofs.Counted.{counted}
use Rattle.porch_metrics.proofs.Packed.{subobject_packed}
use Rattle.porch_metrics.proofs.laws.ucf_subobjects_are_packed.Goals as goal

pub returns : goal.returns
returns c = λ types root count place ty are known sub. subobject_packed types root count place ty (counted types are c.leaves_add_up.ensures.together c.leaves_add_up.ensures.some) known sub
