-- One more argument of the list, and the last one.
use Rattle.std.proofs.Common.{◌∙◌, ◌-◌, length, inl, inr, arith, rules}
use Rattle.porch_flat_text.specs.inside.Numbers.{operand_in}
use Rattle.porch_flat_text.proofs.Lists.{list_step, list_done}
use Rattle.porch_flat_text.proofs.command.operands_in.Goals as goal
use Rattle.porch_flat_text.proofs.command.operands_in.Goals.{else-loop-test, then-loop-test+then-is_empty}

pub loop-preserved : goal.loop-preserved
loop-preserved c =
    list_step operand_in c.loop.operands.items c.push.new.self.items c.loop.rest.now c.next_argument.result.1.now (length c.args.inner.now) c.loop.counter _ c.operand_in.result
    (search rules) (cc) c.next_argument.ensures.rest (omega arith) (grind arith) c.loop.invariant

pub returns : goal.returns
returns c =
    c.from_vec.ensures ∙ elim c.loop-test.branch [
      | else-loop-test w ↦ list_done operand_in c.loop.operands.items c.loop.rest.now (length c.args.inner.now - c.loop.counter) _ (inl (omega arith)) c.loop.invariant
      | then-loop-test+then-is_empty w ↦ list_done operand_in c.loop.operands.items c.loop.rest.now (length c.args.inner.now - c.loop.counter) _ (inr (grind arith)) c.loop.invariant
    ]
