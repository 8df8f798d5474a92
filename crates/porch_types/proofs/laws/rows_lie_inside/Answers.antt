use Rattle.porch_types.proofs.Nested.{row_inside, subobject_inside}
use Rattle.porch_types.proofs.Subobjects.{row_known}
use Rattle.porch_types.proofs.laws.rows_lie_inside.Goals as goal

pub returns-clause-rows : goal.returns-clause-rows
returns-clause-rows c = λ types root count ty first len are row. row_inside types root count ty first len are.formed row

pub returns-clause-subobjects : goal.returns-clause-subobjects
returns-clause-subobjects c = λ types root count place ty are s. subobject_inside types root count place ty are.formed s

pub returns-clause-known : goal.returns-clause-known
returns-clause-known c = λ types root count place ty are known s. row_known types root count ty s.0.first s.0.len are.formed known s.1.is_row
