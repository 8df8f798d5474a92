use Rattle.std.proofs.Common.{arith}
use Rattle.std.proofs.lemmas.Grind.{common_steps}
use Rattle.porch_rewrite.proofs.Filling.{range_more}
use Rattle.porch_rewrite.proofs.functions.every_variable.Goals as goal

pub loop-variable-preserved : goal.loop-variable-preserved
loop-variable-preserved c = let more = range_more c.loop-variable.variable in grind (arith, common_steps, c.loop-variable.invariant, c.in_ok-push.ensures.ok, more)
