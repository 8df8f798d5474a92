use Rattle.std.proofs.Common.{ap, refl}
use Rattle.porch_unit.specs.Units.{state, at_end, ended}
use Rattle.porch_statements.specs.Shown.{items_of, frames_of}
use Rattle.porch_statements.proofs.statement.read_lead.Goals as goal

pub returns-in-OpensBlock : goal.returns-in-OpensBlock
returns-in-OpensBlock c = rw c.in-OpensBlock.is c.open_block.ensures

pub returns-in-Closes : goal.returns-in-Closes
returns-in-Closes c = rw c.in-Closes.is c.close.ensures

pub returns-in-EndsEmpty : goal.returns-in-EndsEmpty
returns-in-EndsEmpty c = rw c.in-EndsEmpty.is (λ text. ap (λ s. state (items_of text c.args.builder.now.items) (frames_of text c.args.builder.now.frames) (ended s)) (c.evaluation.ensures text))

pub returns-in-If : goal.returns-in-If
returns-in-If c = rw c.in-If.is (λ text. refl)

pub returns-in-While : goal.returns-in-While
returns-in-While c = rw c.in-While.is (λ text. refl)

pub returns-in-For : goal.returns-in-For
returns-in-For c = rw c.in-For.is (λ text. refl)

pub returns-in-Switch : goal.returns-in-Switch
returns-in-Switch c = rw c.in-Switch.is (λ text. refl)

pub returns-in-Return : goal.returns-in-Return
returns-in-Return c = rw c.in-Return.is (λ text. refl)

pub returns-in-Case : goal.returns-in-Case
returns-in-Case c = rw c.in-Case.is (λ text. refl)

pub returns-in-Default : goal.returns-in-Default
returns-in-Default c = rw c.in-Default.is (λ text. refl)

pub returns-in-Do : goal.returns-in-Do
returns-in-Do c = rw c.in-Do.is c.nest.ensures.nested

pub returns-in-Break : goal.returns-in-Break
returns-in-Break c = rw c.in-Break.is (λ text. ap (λ s. state (items_of text c.args.builder.now.items) (frames_of text c.args.builder.now.frames) (at_end s)) (c.break_at.ensures text))

pub returns-in-Continue : goal.returns-in-Continue
returns-in-Continue c = rw c.in-Continue.is (λ text. ap (λ s. state (items_of text c.args.builder.now.items) (frames_of text c.args.builder.now.frames) (at_end s)) (c.continue_at.ensures text))

pub returns-in-Other : goal.returns-in-Other
returns-in-Other c = rw c.in-Other.is c.begin_value.ensures
