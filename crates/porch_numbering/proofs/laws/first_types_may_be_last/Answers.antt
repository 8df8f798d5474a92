use Rattle.porch_numbering.proofs.Beginning.{first_are_last}
use Rattle.porch_numbering.proofs.laws.first_types_may_be_last.Goals as goal

pub returns : goal.returns
returns c = first_are_last
