use Rattle.porch_types.proofs.Subobjects.{one_row}
use Rattle.porch_types.proofs.types.subobjects_are_one.Goals as goal

pub returns : goal.returns
returns c = λ types root count place pointee a b are known x y. one_row types root count place pointee a b are.formed known x y
