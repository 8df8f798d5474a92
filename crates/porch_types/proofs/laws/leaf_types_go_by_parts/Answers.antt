use Rattle.porch_types.proofs.Nested.{leaf_of_part, leaf_of_scalar, leaf_again}
use Rattle.porch_types.proofs.laws.leaf_types_go_by_parts.Goals as goal

pub returns-clause-part : goal.returns-clause-part
returns-clause-part c = λ types ty leaf part are lt at. leaf_of_part types ty leaf part are.formed lt at

pub returns-clause-scalar : goal.returns-clause-scalar
returns-clause-scalar c = leaf_of_scalar

pub returns-clause-again : goal.returns-clause-again
returns-clause-again c = leaf_again
