use Rattle.porch_steps.proofs.run.Run.show.Goals as goal

pub returns : goal.returns
returns c = record { led = λ flat under. rw (← c.in_ok-text.ensures, ← c.deref.ensures.value) (c.show_text.ensures.shown flat under) }
