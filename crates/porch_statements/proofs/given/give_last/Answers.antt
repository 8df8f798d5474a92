use Rattle.std.proofs.Common.{ap, refl}
use Rattle.porch_unit.specs.Units.{state, at_end}
use Rattle.porch_statements.specs.Shown.{items_of, frames_of}
use Rattle.porch_statements.proofs.given.give_last.Goals as goal

pub returns-in-None : goal.returns-in-None
returns-in-None c = rw c.in-None.is (λ text builder. refl)

pub returns-in-Some : goal.returns-in-Some
returns-in-Some c = rw c.in-Some.is (λ text builder. ap (λ s. state (items_of text builder.items) (frames_of text builder.frames) (at_end s)) (c.do_loop.ensures text))
