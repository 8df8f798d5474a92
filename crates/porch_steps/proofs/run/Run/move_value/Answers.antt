use Rattle.porch_steps.proofs.Steps.{obeyed}
use Rattle.porch_steps.proofs.run.Run.move_value.Goals as goal

pub returns : goal.returns
returns c = record { done = λ under. obeyed c.args.flat.now under c.args.self.now c.take.new.self _ _ _ (c.compute_move-effect.ensures under) c.take.ensures.led }
