use Rattle.std.proofs.Common.{arith}
use Rattle.std.proofs.lemmas.Grind.{common_steps}
use Rattle.porch_flat.proofs.LabelPlaces.{place_more}
use Rattle.porch_flat.proofs.whole.labels.Labels.new.Goals as goal

pub loop-at-preserved : goal.loop-at-preserved
loop-at-preserved c = λ n. grind (arith, common_steps, c.loop-at.invariant n, c.in_ok-note.ensures n, place_more)
