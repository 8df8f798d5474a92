use Rattle.porch_map.proofs.GlobalValues.{values_of_globals}
use Rattle.porch_map.proofs.laws.values_are_of_globals.Goals as goal

pub returns : goal.returns
returns c = values_of_globals
