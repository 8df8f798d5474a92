use Rattle.std.proofs.Common.{ap, Result, Ok, Bool}
use Rattle.porch_values.specs.declared.acts.Act.{Act}
use Rattle.porch_live.proofs.comparisons.equals_past.Goals as goal

pub returns-in-Past : goal.returns-in-Past
returns-in-Past c = λ until.
    rw c.in-Past.is (ap (λ (b : Bool). let r : Result Bool Act = Ok b in r) (c.same_place.ensures c.args.types.now c.args.pointee))
