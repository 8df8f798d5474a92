use Rattle.std.proofs.Common.{refl}
use Rattle.porch_flat.specs.whole.Rewritten.{reaches_within}
use Rattle.porch_rewrite.proofs.worked.functions_that_reach_a_checkpoint_change.Goals as goal

pub returns : goal.returns
unfolding reaches_within
returns c = record { one = refl; kept = refl; rules = refl; unchanged = refl }
