use Rattle.std.proofs.Common.{refl}
use Rattle.porch_statements.proofs.closing.lose_frame.Goals as goal

pub returns : goal.returns
returns c = λ text builder. refl
