use Rattle.std.proofs.Common.{◌∙◌, ap}
use Rattle.porch_emitter.specs.Made.{Made, made_of, with_used}
use Rattle.porch_lower_steps.proofs.steps.next_of.Goals as goal

pub returns-clause-same : goal.returns-clause-same
returns-clause-same c =
    let before = made_of c.args.emitter.now in
    c.give_back.ensures before.used (ap (λ (m : Made). m.used) c.in_ok-next.ensures.taken)
    ∙ ap (λ (m : Made). with_used m before.used) c.in_ok-next.ensures.taken
