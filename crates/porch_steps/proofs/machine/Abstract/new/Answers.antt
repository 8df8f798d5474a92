use Rattle.porch_steps.proofs.Program.{labels_are}
use Rattle.porch_steps.proofs.machine.Abstract.new.Goals as goal

pub returns-clause-fits : goal.returns-clause-fits
returns-clause-fits c = record {
  labels = λ f n. rw (← c.flat-flat.ensures.same, ← c.as_slice.ensures) (labels_are c.in_ok-labels.labels.items c.as_slice.result.now c.in_ok-labels.ensures f n);
  prepared = rw (← c.flat-flat.ensures.same) c.in_ok-prepared.ensures;
}
