use Rattle.std.proofs.Common.{◌≡◌, ◌++◌, take, drop}
use Rattle.porch_flat_text.specs.inside.Cuts.{before, behind}
use Rattle.porch_flat_text.proofs.cut.cut.Given as goal

abbrev pub invariant-loop-at : goal.invariant-loop-at
invariant-loop-at l = (take l.at l.text ++ before l.mark (drop l.at l.text) ≡ before l.mark l.text) × (behind l.mark (drop l.at l.text) ≡ behind l.mark l.text)
