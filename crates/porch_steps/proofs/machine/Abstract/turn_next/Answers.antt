use Rattle.porch_objects.specs.Meaning.{without_input}
use Rattle.porch_steps.proofs.machine.Abstract.turn_next.Goals as goal

pub returns : goal.returns
returns c = rw (← c.self.view_is, ← c.flat.ensures.same) (c.counts_next.ensures (without_input c.self.inside.widths))
