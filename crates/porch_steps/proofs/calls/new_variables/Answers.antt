use Rattle.std.proofs.Common.{arith}
use Rattle.std.proofs.lemmas.Grind.{common_steps}
use Rattle.porch_steps.proofs.Arguments.{variable_step}
use Rattle.porch_steps.proofs.calls.new_variables.Goals as goal

pub loop-at-preserved : goal.loop-at-preserved
loop-at-preserved c =
    variable_step c.args.types.now c.args.vars.now c.loop-at.at c.args.values.now c.loop-at.objects.items c.push_variable.new.variables.items c.in_ok-object.object _ c.value_at.result
    c.loop-at.invariant c.in_ok-push_variable.ensures c.in_ok-object.ensures c.value_at.ensures (grind (arith, common_steps)) (grind (arith, common_steps))
