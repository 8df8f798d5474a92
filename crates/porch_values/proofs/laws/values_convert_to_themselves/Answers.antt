use Rattle.porch_values.proofs.SameValue.{same_value}
use Rattle.porch_values.proofs.laws.values_convert_to_themselves.Goals as goal

pub returns : goal.returns
returns c = same_value
