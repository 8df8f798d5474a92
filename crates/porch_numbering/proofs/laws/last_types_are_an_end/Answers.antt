use Rattle.porch_numbering.proofs.Types.{an_end}
use Rattle.porch_numbering.proofs.laws.last_types_are_an_end.Goals as goal

pub returns : goal.returns
returns c = an_end
