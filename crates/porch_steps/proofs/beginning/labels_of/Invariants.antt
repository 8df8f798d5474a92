use Rattle.std.proofs.Common.{take}
use Rattle.porch_steps.specs.inside.Beginning.{AreLabelsOf}
use Rattle.porch_steps.proofs.beginning.labels_of.Given as goal

abbrev pub invariant-loop-at : goal.invariant-loop-at
invariant-loop-at l = AreLabelsOf (take l.at l.functions) l.all.items
