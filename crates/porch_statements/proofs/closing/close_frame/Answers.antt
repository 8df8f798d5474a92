use Rattle.std.proofs.Common.{ap}
use Rattle.porch_unit.specs.Units.{state, ended}
use Rattle.porch_statements.specs.Shown.{items_of, frames_of}
use Rattle.porch_statements.proofs.closing.close_frame.Goals as goal

pub returns-in_ok-define-in-Body : goal.returns-in_ok-define-in-Body
returns-in_ok-define-in-Body c = rw c.in-Body.is (λ text. c.in_ok-define-in-Body.ensures text (frames_of text c.args.builder.now.frames))

pub returns-in-Block : goal.returns-in-Block
returns-in-Block c = rw c.in-Block.is (λ text. ap (λ s. state (items_of text c.args.builder.now.items) (frames_of text c.args.builder.now.frames) (ended s)) (c.block_of.ensures text))

pub returns-in-Switch : goal.returns-in-Switch
returns-in-Switch c = rw c.in-Switch.is (λ text. ap (λ s. state (items_of text c.args.builder.now.items) (frames_of text c.args.builder.now.frames) (ended s)) (c.switch_of.ensures text))

pub returns-in-If : goal.returns-in-If
returns-in-If c = rw c.in-If.is (λ text. c.lose_frame.ensures text c.args.builder.now)

pub returns-in-Else : goal.returns-in-Else
returns-in-Else c = rw c.in-Else.is (λ text. c.lose_frame-in-Else.ensures text c.args.builder.now)

pub returns-in-While : goal.returns-in-While
returns-in-While c = rw c.in-While.is (λ text. c.lose_frame-in-While.ensures text c.args.builder.now)

pub returns-in-Do : goal.returns-in-Do
returns-in-Do c = rw c.in-Do.is (λ text. c.lose_frame-in-Do.ensures text c.args.builder.now)

pub returns-in-For : goal.returns-in-For
returns-in-For c = rw c.in-For.is (λ text. c.lose_frame-in-For.ensures text c.args.builder.now)
