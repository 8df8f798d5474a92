use Rattle.std.proofs.Common.{ap, ◌∙◌}
use Rattle.porch_flat.specs.whole.Places.{type_at}
use Rattle.porch_abstract.specs.whole.Machine.{if_ok, becomes, int_of}
use Rattle.porch_live.specs.Views.{value_of}
use Rattle.porch_steps.specs.inside.Kept.{frame_of, callers_of, state_of}
use Rattle.porch_steps.proofs.Counting.{compared_on}
use Rattle.porch_steps.proofs.pointers.compute_comparison.Goals as goal

pub returns : goal.returns
returns c = λ under.
    let flat = c.args.flat.now in
    let frame = frame_of c.args.run.now.frame in
    let callers = callers_of c.args.run.now.callers.items in
    let here = state_of c.args.run.now in
    let left = value_of c.operand-left.result in
    let right = value_of c.operand-right.result in
    let ty = type_at flat c.type_of_compared-ty.result in
    rw (← c.type_of_compared-ty.ensures, ← c.operand-left.ensures, ← c.operand-right.ensures)
    (c.become_truth.ensures flat under frame callers here
    ∙ (ap (λ r. if_ok r (λ holds. becomes flat under frame callers c.args.variable here (int_of holds))) c.compare_in.ensures
    ∙ compared_on flat under frame callers ty c.args.how left right here (λ holds. becomes flat under frame callers c.args.variable here (int_of holds))))
