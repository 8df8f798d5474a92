use Rattle.porch_rewrite.proofs.Valid.{keeps_rules}
use Rattle.porch_rewrite.proofs.laws.rewriting_keeps_the_rules.Goals as goal

pub returns : goal.returns
returns c = keeps_rules c.reaching_is_least.ensures
