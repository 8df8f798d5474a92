use Rattle.porch_statements.proofs.Stacks.{taken_off}
use Rattle.porch_statements.proofs.frames.pop_frame.Goals as goal

pub returns : goal.returns
returns c = record { popped = λ text. taken_off text c.pop.result c.args.frames.now c.pop.new.self c.pop.ensures }
