use Rattle.std.proofs.Common.{◌-◌, arith}
use Rattle.porch_initials.proofs.Opens.{answered_further}
use Rattle.porch_initials.proofs.next.part_before.Goals as goal

pub returns : goal.returns
returns c =
    answered_further c.args.shapes.now c.args.opens.now c.args.place (c.args.place - 1) c.opened_at.result
    c.next_element.result (omega arith) (omega arith) c.opened_at.ensures c.next_element.ensures
