use Rattle.std.proofs.Common.{refl}
use Rattle.porch_blocks.proofs.build.build.Goals as goal

pub returns-in-If : goal.returns-in-If
returns-in-If c = rw c.in-If.is c.choose.ensures

pub returns-in-Else : goal.returns-in-Else
returns-in-Else c = rw c.in-Else.is c.choose_else.ensures

pub returns-in-While : goal.returns-in-While
returns-in-While c = rw c.in-While.is c.repeat_while.ensures

pub returns-in-For : goal.returns-in-For
returns-in-For c = rw c.in-For.is c.repeat_for.ensures

pub returns-in-Do : goal.returns-in-Do
returns-in-Do c = rw c.in-Do.is (λ text. refl)

pub returns-in-Body : goal.returns-in-Body
returns-in-Body c = rw c.in-Body.is c.keep.ensures

pub returns-in-Block : goal.returns-in-Block
returns-in-Block c = rw c.in-Block.is c.keep-in-Block.ensures

pub returns-in-Switch : goal.returns-in-Switch
returns-in-Switch c = rw c.in-Switch.is c.keep-in-Switch.ensures
