use Rattle.std.proofs.Common.{rules, subst}
use Rattle.std.specs.List.{fold}
use Rattle.porch_ucf.specs.Objects.{single, put_behind}
use Rattle.porch_ucf.specs.inside.Placing.{IsFull}
use Rattle.porch_ucf.proofs.Walks.{full_at}
use Rattle.porch_ucf.proofs.placing.Placing.put_globals.Goals as goal

pub returns-in_err-put-clause-full : goal.returns-in_err-put-clause-full
returns-in_err-put-clause-full c =
    let types = c.args.metrics.now.types in
    let q = c.loop-global.self in
    let here = subst (λ g. IsFull c.args.most (fold (put_behind types) q (single g.ty)).end c.in_err-put.field-0.0) c.global-item.is c.in_err-put.ensures.full in
    let found = full_at types (λ g. single g.ty) c.args.globals.now c.args.self.now c.loop-global.global-index c.global-item.result q c.args.most _ c.loop-global-test.true c.loop-global.invariant.walked here in
    search (rules, found)
