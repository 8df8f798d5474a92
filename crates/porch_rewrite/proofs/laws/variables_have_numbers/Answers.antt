use Rattle.porch_rewrite.proofs.Valid.{variables_few}
use Rattle.porch_rewrite.proofs.laws.variables_have_numbers.Goals as goal

pub returns : goal.returns
returns c = variables_few
