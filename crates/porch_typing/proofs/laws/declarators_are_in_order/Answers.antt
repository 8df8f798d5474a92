use Rattle.porch_typing.proofs.Expressions.{declarators_rule}
use Rattle.porch_typing.proofs.laws.declarators_are_in_order.Goals as goal

pub returns : goal.returns
returns c = declarators_rule
