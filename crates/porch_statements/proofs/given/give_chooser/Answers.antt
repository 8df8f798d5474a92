use Rattle.std.proofs.Common.{refl}
use Rattle.porch_statements.proofs.given.give_chooser.Goals as goal

pub returns-in-None : goal.returns-in-None
returns-in-None c = rw c.in-None.is (λ text builder. refl)

pub returns-in-Some : goal.returns-in-Some
returns-in-Some c = rw c.in-Some.is (λ text builder. refl)
