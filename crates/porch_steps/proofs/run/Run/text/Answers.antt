use Rattle.porch_steps.proofs.run.Run.text.Goals as goal

pub returns-in-Ok-Ok : goal.returns-in-Ok-Ok
returns-in-Ok-Ok c =
    record { done = λ under. rw (← c.variable-pointer.ensures, ← c.in-Ok-Ok.ensures, c.in-Ok-Ok.field-0-is, ← c.deref.ensures.value) (c.show_text.ensures.shown c.args.flat.now under) }
