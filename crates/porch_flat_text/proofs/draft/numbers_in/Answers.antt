-- One more argument of the list, and the last one.
use Rattle.std.proofs.Common.{◌-◌, length, inl, inr, arith, rules}
use Rattle.porch_flat_text.specs.inside.Numbers.{number_in}
use Rattle.porch_flat_text.proofs.Lists.{list_step, list_done}
use Rattle.porch_flat_text.proofs.draft.numbers_in.Goals as goal
use Rattle.porch_flat_text.proofs.draft.numbers_in.Goals.{else-loop-test, then-loop-test+then-is_empty}

pub loop-preserved : goal.loop-preserved
loop-preserved c =
    list_step number_in c.loop.numbers.items c.push.new.self.items c.loop.rest.now c.next_argument.result.1.now (length c.args.inner.now) c.loop.counter _ c.number_in.result
    (search rules) (cc) c.next_argument.ensures.rest (omega arith) (grind arith) c.loop.invariant

pub returns : goal.returns
returns c =
    elim c.loop-test.branch [
      | else-loop-test w ↦ list_done number_in c.loop.numbers.items c.loop.rest.now (length c.args.inner.now - c.loop.counter) _ (inl (omega arith)) c.loop.invariant
      | then-loop-test+then-is_empty w ↦ list_done number_in c.loop.numbers.items c.loop.rest.now (length c.args.inner.now - c.loop.counter) _ (inr (grind arith)) c.loop.invariant
    ]
