use Rattle.porch_types.proofs.LeafTypes.{scalar_at, leaf_scalar}
use Rattle.porch_types.proofs.Nested.{leaf_in_row, leaf_in_subobject, one_scalar}
use Rattle.porch_types.proofs.laws.leaves_are_scalars.Goals as goal

pub returns-clause-begins : goal.returns-clause-begins
returns-clause-begins c = λ types root count leaf are known lt. (scalar_at types root count leaf are.formed known lt).subobject

pub returns-clause-scalar : goal.returns-clause-scalar
returns-clause-scalar c = λ types root leaf are known. leaf_scalar types root leaf are.formed known

pub returns-clause-only : goal.returns-clause-only
returns-clause-only c = λ types root count leaf ty are known s scalar. one_scalar types root count leaf ty are.formed known s scalar

pub returns-clause-rows : goal.returns-clause-rows
returns-clause-rows c = λ types root count ty first len leaf are known row lt. leaf_in_row types root count ty first len leaf are.formed known row lt

pub returns-clause-subobjects : goal.returns-clause-subobjects
returns-clause-subobjects c = λ types root count place ty leaf are s lt. leaf_in_subobject types root count place ty leaf are.formed s lt
