use Rattle.porch_stands.proofs.Known.{valid_has_types}
use Rattle.porch_stands.proofs.laws.valid_programs_have_types.Goals as goal

pub returns : goal.returns
returns c = valid_has_types
