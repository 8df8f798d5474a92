use Rattle.std.proofs.Common.{ap, refl}
use Rattle.porch_unit.specs.Units.{state, ended}
use Rattle.porch_statements.specs.Shown.{items_of, frames_of}
use Rattle.porch_statements.proofs.given.give.Goals as goal

pub returns-in-Evaluate : goal.returns-in-Evaluate
returns-in-Evaluate c = record { step = rw c.in-Evaluate.is (λ text. ap (λ s. state (items_of text c.args.builder.now.items) (frames_of text c.args.builder.now.frames) (ended s)) (c.evaluation.ensures text)) }

pub returns-in-Choose : goal.returns-in-Choose
returns-in-Choose c = record { step = rw c.in-Choose.is c.give_condition.ensures }

pub returns-in-Repeat : goal.returns-in-Repeat
returns-in-Repeat c = record { step = rw c.in-Repeat.is c.give_repeated.ensures }

pub returns-in-RepeatBehind : goal.returns-in-RepeatBehind
returns-in-RepeatBehind c = record { step = rw c.in-RepeatBehind.is (λ text. c.give_last.ensures text c.args.builder.now) }

pub returns-in-Start : goal.returns-in-Start
returns-in-Start c = record { step = rw c.in-Start.is (λ text. refl) }

pub returns-in-GoOn : goal.returns-in-GoOn
returns-in-GoOn c = record { step = rw c.in-GoOn.is (λ text. refl) }

pub returns-in-Step : goal.returns-in-Step
returns-in-Step c = record { step = rw c.in-Step.is c.nest.ensures.nested }

pub returns-in-Switch : goal.returns-in-Switch
returns-in-Switch c = record { step = rw c.in-Switch.is (λ text. c.give_chooser.ensures text c.args.builder.now) }

pub returns-in-Give : goal.returns-in-Give
returns-in-Give c = record { step = rw c.in-Give.is (λ text. ap (λ s. state (items_of text c.args.builder.now.items) (frames_of text c.args.builder.now.frames) (ended s)) (c.return_of.ensures text)) }

pub returns-in-Label : goal.returns-in-Label
returns-in-Label c = record { step = rw c.in-Label.is c.give_label.ensures }
