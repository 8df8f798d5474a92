use Rattle.std.proofs.Common.{length, ap, arith}
use Rattle.porch_live.specs.inside.Leaves.{values_in}
use Rattle.porch_live.proofs.Parts.{only_put}
use Rattle.porch_live.proofs.leaves.Leaves.put_part.Goals as goal

pub returns-in-One-clause-put : goal.returns-in-One-clause-put
returns-in-One-clause-put c =
    rw c.in-One.is (only_put c.in-One.only c.put_one.new.only c.args.at c.args.values.now c.put_one.ensures
    (omega (arith, c.requires, ap (λ ls. length (values_in ls)) c.in-One.is)))
