use Rattle.porch_types.proofs.KindTypes.{kind_at}
use Rattle.porch_types.proofs.laws.kinds_come_first.Goals as goal

pub returns-clause-kinds : goal.returns-clause-kinds
returns-clause-kinds c = λ types kind are. kind_at types kind are.kinds
