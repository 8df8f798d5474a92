use Rattle.porch_objects.specs.Meaning.{without_input}
use Rattle.porch_steps.specs.inside.Kept.{state_of}
use Rattle.porch_steps.proofs.Quickly.{Going}
use Rattle.porch_steps.proofs.run.Run.run.Given as goal

abbrev pub invariant-loop-left : goal.invariant-loop-left
invariant-loop-left l = Going l.flat (without_input l.widths) (state_of l.fn.self) (state_of l.self) l.most l.left

abbrev pub decreases-loop-left : goal.decreases-loop-left
decreases-loop-left l = l.left
