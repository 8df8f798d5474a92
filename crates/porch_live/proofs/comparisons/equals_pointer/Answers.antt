use Rattle.std.proofs.Common.{ap, Result, Ok, Bool}
use Rattle.porch_values.specs.declared.acts.Act.{Act}
use Rattle.porch_live.proofs.comparisons.equals_pointer.Goals as goal

pub returns-in-Pointer : goal.returns-in-Pointer
returns-in-Pointer c =
    rw c.in-Pointer.is (ap (λ (b : Bool). let r : Result Bool Act = Ok b in r) (c.same_place.ensures c.args.types.now c.args.pointee))
