use Rattle.std.proofs.Common.{arith}
use Rattle.std.proofs.lemmas.Grind.{common_steps}
use Rattle.porch_steps.proofs.Program.{inits_step}
use Rattle.porch_steps.proofs.beginning.put_inits.Goals as goal

pub loop-at-preserved : goal.loop-at-preserved
loop-at-preserved c =
    inits_step c.args.inits.now c.loop-at.at c.args.object.now c.loop-at.object c.put_init.new.object _ c.loop-at.invariant c.in_ok-put_init.ensures
    (grind (arith, common_steps)) (grind (arith, common_steps))
