use Rattle.std.proofs.Common.{rules}
use Rattle.porch_steps.proofs.run.Run.allocate.Goals as goal

pub returns-in-Number : goal.returns-in-Number
returns-in-Number c = record { done = λ under. rw (← c.in-Number.ensures) (search (rules, c.allocate_number.ensures.done under)) }
