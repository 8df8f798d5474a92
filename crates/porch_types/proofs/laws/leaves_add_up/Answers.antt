use Rattle.porch_types.proofs.Counts.{leaves_is, leaves_some}
use Rattle.porch_types.proofs.laws.leaves_add_up.Goals as goal

pub returns-clause-together : goal.returns-clause-together
returns-clause-together c = λ types number ty are at. leaves_is types number ty (are.formed.each number ty at).earlier at

pub returns-clause-some : goal.returns-clause-some
returns-clause-some c = λ types number are known. leaves_some types number are.formed known
