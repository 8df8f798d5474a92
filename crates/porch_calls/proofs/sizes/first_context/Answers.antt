use Rattle.porch_tree.specs.Views.{expr_of}
use Rattle.porch_leaves.specs.Contexts.{as_context}
use Rattle.porch_calls.specs.Operands.{Operand}
use Rattle.porch_calls.proofs.Longer.{behind_two}
use Rattle.porch_calls.proofs.sizes.first_context.Goals as goal

pub returns-in-len2-up : goal.returns-in-len2-up
returns-in-len2-up c =
    behind_two (as_context c.args.context) (expr_of c.args.text.now c.args.e.now)
    (λ (o : Operand). (o.0, expr_of c.args.text.now o.1)) c.args.more.now c.in-len2-up.len_at_least
