use Rattle.std.proofs.Common.{ap, ◌∙◌}
use Rattle.porch_abstract.specs.whole.Machine.{if_ok, becomes}
use Rattle.porch_steps.specs.inside.Kept.{frame_of, callers_of, state_of}
use Rattle.porch_steps.proofs.pointers.compute_subobject.Goals as goal

pub returns : goal.returns
returns c = λ under.
    let flat = c.args.flat.now in
    let frame = frame_of c.args.run.now.frame in
    let callers = callers_of c.args.run.now.callers.items in
    let here = state_of c.args.run.now in
    c.become_value.ensures flat under frame callers here
    ∙ ap (λ r. if_ok r (λ x. becomes flat under frame callers c.args.variable here x)) (c.in_ok-answer.ensures flat under frame callers)
