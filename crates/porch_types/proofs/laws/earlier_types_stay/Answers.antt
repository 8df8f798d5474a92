use Rattle.porch_types.proofs.Longer.{types_kept}
use Rattle.porch_types.proofs.laws.earlier_types_stay.Goals as goal

pub returns : goal.returns
returns c = types_kept
