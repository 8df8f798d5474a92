use Rattle.porch_typed.specs.Views.{expression_of}
use Rattle.porch_leaves.proofs.constants.value_of.Goals as goal

pub returns : goal.returns
returns c = c.of.ensures (expression_of c.args.tree)
