use Rattle.porch_blocks.proofs.Stacks.{when_ok}
use Rattle.porch_blocks.proofs.continued.continue_in.Goals as goal

pub returns-in-If : goal.returns-in-If
returns-in-If c = rw c.in-If.is c.begin_else.ensures

pub returns-in-Do : goal.returns-in-Do
returns-in-Do c = rw c.in-Do.is (when_ok c.end_do.result (λ x h text. h text c.args.builder.now) c.end_do.ensures)

pub returns-in-Body : goal.returns-in-Body
returns-in-Body c = rw c.in-Body.is c.continue_body.ensures

pub returns-in-Block : goal.returns-in-Block
returns-in-Block c = rw c.in-Block.is c.continue_block.ensures

pub returns-in-Switch : goal.returns-in-Switch
returns-in-Switch c = rw c.in-Switch.is c.continue_switch.ensures

pub returns-in-Else : goal.returns-in-Else
returns-in-Else c = rw c.in-Else.is (λ text. c.lose.ensures text c.args.builder.now)

pub returns-in-While : goal.returns-in-While
returns-in-While c = rw c.in-While.is (λ text. c.lose-in-While.ensures text c.args.builder.now)

pub returns-in-For : goal.returns-in-For
returns-in-For c = rw c.in-For.is (λ text. c.lose-in-For.ensures text c.args.builder.now)
