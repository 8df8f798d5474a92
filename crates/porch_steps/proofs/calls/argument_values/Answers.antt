use Rattle.std.proofs.Common.{arith}
use Rattle.std.proofs.lemmas.Grind.{common_steps}
use Rattle.porch_steps.specs.inside.Kept.{state_of}
use Rattle.porch_steps.proofs.Arguments.{argument_step}
use Rattle.porch_steps.proofs.calls.argument_values.Goals as goal

pub loop-at-preserved : goal.loop-at-preserved
loop-at-preserved c =
    argument_step c.args.flat.now c.args.operands.now c.loop-at.at c.args.params.now (state_of c.args.run.now) c.loop-at.values.items c.push.new.self.items c.operand.result _ c.number_at.result
    c.loop-at.invariant c.in_ok-push.ensures.items c.operand.ensures c.number_at.ensures (grind (arith, common_steps)) (grind (arith, common_steps))
