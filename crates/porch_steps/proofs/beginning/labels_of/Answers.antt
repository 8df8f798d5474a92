use Rattle.std.proofs.Common.{arith, ap, ◌∙◌}
use Rattle.std.proofs.lemmas.Grind.{common_steps}
use Rattle.porch_flat.specs.whole.Places.{place_of_label}
use Rattle.porch_steps.proofs.Program.{labels_step}
use Rattle.porch_steps.proofs.beginning.labels_of.Goals as goal

pub loop-at-preserved : goal.loop-at-preserved
loop-at-preserved c =
    labels_step c.args.functions.now c.loop-at.at c.loop-at.all.items c.push_labels.new.all.items c.in_ok-labels.labels c.index-functions-at.result c.loop-at.invariant
    c.in_ok-push_labels.ensures (λ n. c.in_ok-labels.ensures n ∙ ap (λ commands. place_of_label commands n) c.as_slice.ensures)
    (grind (arith, common_steps)) (grind (arith, common_steps))
