use Rattle.std.proofs.Common.{sym, arith}
use Rattle.porch_types.proofs.Found.{member_from_start, member_past}
use Rattle.porch_types.proofs.parts.member.Goals as goal

pub returns-then-place-leaves-clause-value : goal.returns-then-place-leaves-clause-value
returns-then-place-leaves-clause-value c = λ f starts leaves.
    sym (member_past f c.args.members.now 0 0 c.args.place (omega (arith, leaves, c.if-place-leaves.true)))

pub returns-clause-value : goal.returns-clause-value
returns-clause-value c = λ f starts leaves.
    let e = c.last_start-index.ensures in
    member_from_start f c.args.members.now c.args.starts.now c.last_start-index.result c.args.place starts
    (omega (arith, e.within, c.requires.each)) e.begun (λ h. e.last (omega (arith, h, c.requires.each)))
    (omega (arith, leaves, c.if-place-leaves.false))
