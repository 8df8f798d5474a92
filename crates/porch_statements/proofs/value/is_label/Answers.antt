use Rattle.std.proofs.Common.{refl}
use Rattle.porch_statements.proofs.value.is_label.Goals as goal

pub returns-in-Label : goal.returns-in-Label
returns-in-Label c = rw c.in-Label.is (λ text. refl)

pub returns-in-Evaluate : goal.returns-in-Evaluate
returns-in-Evaluate c = rw c.in-Evaluate.is (λ text. refl)

pub returns-in-Choose : goal.returns-in-Choose
returns-in-Choose c = rw c.in-Choose.is (λ text. refl)

pub returns-in-Repeat : goal.returns-in-Repeat
returns-in-Repeat c = rw c.in-Repeat.is (λ text. refl)

pub returns-in-RepeatBehind : goal.returns-in-RepeatBehind
returns-in-RepeatBehind c = rw c.in-RepeatBehind.is (λ text. refl)

pub returns-in-Start : goal.returns-in-Start
returns-in-Start c = rw c.in-Start.is (λ text. refl)

pub returns-in-GoOn : goal.returns-in-GoOn
returns-in-GoOn c = rw c.in-GoOn.is (λ text. refl)

pub returns-in-Step : goal.returns-in-Step
returns-in-Step c = rw c.in-Step.is (λ text. refl)

pub returns-in-Switch : goal.returns-in-Switch
returns-in-Switch c = rw c.in-Switch.is (λ text. refl)

pub returns-in-Give : goal.returns-in-Give
returns-in-Give c = rw c.in-Give.is (λ text. refl)
