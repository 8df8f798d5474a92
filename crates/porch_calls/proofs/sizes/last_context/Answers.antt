use Rattle.porch_tree.specs.Views.{expr_of}
use Rattle.porch_leaves.specs.Contexts.{as_context}
use Rattle.porch_calls.specs.Operands.{Operand}
use Rattle.porch_calls.proofs.Longer.{behind_one}
use Rattle.porch_calls.proofs.sizes.last_context.Goals as goal

pub returns-in-len1-up : goal.returns-in-len1-up
returns-in-len1-up c =
    behind_one (as_context c.args.context) c.args.operator (expr_of c.args.text.now c.args.e.now)
    (λ (o : Operand). (o.0, expr_of c.args.text.now o.1)) c.args.more.now c.in-len1-up.len_at_least
