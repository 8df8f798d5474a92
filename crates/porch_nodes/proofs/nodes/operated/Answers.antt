use Rattle.std.proofs.Common.{ap, ◌∙◌}
use Rattle.porch_typed.specs.Views.{expression_of}
use Rattle.porch_check.specs.Operands.{typed_as}
use Rattle.porch_operands.specs.Views.{as_value}
use Rattle.porch_nodes.proofs.nodes.operated.Goals as goal

pub returns : goal.returns
returns c =
    c.of.ensures (expression_of c.in_ok-tree.tree)
    ∙ ap (λ e. typed_as e (as_value c.args.operation.value)) c.in_ok-tree.ensures
