use Rattle.std.proofs.Common.{ap}
use Rattle.porch_unit.specs.Units.{state, at_first}
use Rattle.porch_statements.specs.Shown.{items_of}
use Rattle.porch_blocks.proofs.declared.declare_in.Goals as goal

pub returns-in_ok-add_in_block-in-Block : goal.returns-in_ok-add_in_block-in-Block
returns-in_ok-add_in_block-in-Block c = rw c.in-Block.is (λ text. ap (λ fs. state (items_of text c.args.builder.now.items) fs at_first) (c.in_ok-add_in_block-in-Block.ensures text))

pub returns-in_ok-add_in_body-in-Body : goal.returns-in_ok-add_in_body-in-Body
returns-in_ok-add_in_body-in-Body c = rw c.in-Body.is (λ text. ap (λ fs. state (items_of text c.args.builder.now.items) fs at_first) (c.in_ok-add_in_body-in-Body.ensures text))

pub returns-in-Switch : goal.returns-in-Switch
returns-in-Switch c = rw c.in-Switch.is (λ text. c.lose.ensures text c.args.builder.now)

pub returns-in-If : goal.returns-in-If
returns-in-If c = rw c.in-If.is (λ text. c.lose-in-If.ensures text c.args.builder.now)

pub returns-in-Else : goal.returns-in-Else
returns-in-Else c = rw c.in-Else.is (λ text. c.lose-in-Else.ensures text c.args.builder.now)

pub returns-in-While : goal.returns-in-While
returns-in-While c = rw c.in-While.is (λ text. c.lose-in-While.ensures text c.args.builder.now)

pub returns-in-Do : goal.returns-in-Do
returns-in-Do c = rw c.in-Do.is (λ text. c.lose-in-Do.ensures text c.args.builder.now)

pub returns-in-For : goal.returns-in-For
returns-in-For c = rw c.in-For.is (λ text. c.lose-in-For.ensures text c.args.builder.now)
