use Rattle.std.proofs.Common.{◌-◌, arith}
use Rattle.porch_find.proofs.LastRoot.{answers, is_last}
use Rattle.porch_find.proofs.roots.last_at.Goals as goal

pub returns-else-low-eq0-clause-last : goal.returns-else-low-eq0-clause-last
returns-else-low-eq0-clause-last c =
    let i = c.halves.invariant in
    answers c.args.roots.now c.args.place (c.halves.low - 1)
    (is_last c.args.roots.now c.args.place c.halves.low (omega (arith, c.if-low-eq0.false)) (omega (arith, i.order, i.within)) i.begun
    (λ j r le is. i.later j r (omega (arith, le, c.halves-test.false)) is))
