use Rattle.porch_typing.proofs.Expressions.{expr_rule}
use Rattle.porch_typing.proofs.laws.expressions_are_typed.Goals as goal

pub returns : goal.returns
returns c = λ w h e x s sp st. expr_rule w h e x s sp st
