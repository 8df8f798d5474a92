use Rattle.std.proofs.Common.{OnOk, subst}
use Rattle.porch_layout.specs.declared.layout.Layout.{Layout}
use Rattle.porch_ucf.specs.declared.leaves.Sought.TheVariants as sought
use Rattle.porch_ucf.specs.DataFlaws.{IsFaultless}
use Rattle.porch_ucf.proofs.read.check_values.Goals as goal

pub returns-clause-values : goal.returns-clause-values
returns-clause-values c =
    subst (λ (l : Layout). OnOk c.check_leaves-2.result (IsFaultless (sought.Values l.long) c.args.metrics.now.types c.args.objects.now.items c.args.image.now)) c.layout-layout.ensures.value c.check_leaves-2.ensures.sound
