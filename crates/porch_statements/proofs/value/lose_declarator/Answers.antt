use Rattle.std.proofs.Common.{refl}
use Rattle.porch_statements.proofs.value.lose_declarator.Goals as goal

pub returns : goal.returns
returns c = λ text builder. refl
