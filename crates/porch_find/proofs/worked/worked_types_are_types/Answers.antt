use Rattle.porch_find.proofs.WorkedTypes.{are_types}
use Rattle.porch_find.proofs.worked.worked_types_are_types.Goals as goal

pub returns : goal.returns
returns c = are_types
