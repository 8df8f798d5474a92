use Rattle.porch_numbering.proofs.Types.{are_types}
use Rattle.porch_numbering.proofs.laws.last_types_are_types.Goals as goal

pub returns : goal.returns
returns c = are_types
