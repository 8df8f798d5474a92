use Rattle.std.proofs.Common.{rules}
use Rattle.porch_ucf.specs.Objects.{single}
use Rattle.porch_ucf.proofs.Walks.{full_at}
use Rattle.porch_ucf.proofs.placing.Placing.put_variables.Goals as goal

pub returns-in_err-put-clause-full : goal.returns-in_err-put-clause-full
returns-in_err-put-clause-full c =
    let found = full_at c.args.metrics.now.types single c.args.tys.now c.args.self.now c.loop-ty.ty-index 0 c.loop-ty.self c.args.most _ c.loop-ty-test.true c.loop-ty.invariant.walked c.in_err-put.ensures.full in
    search (rules, found)
