use Rattle.std.proofs.Common.{Ok, sym, ap, ◌∙◌}
use Rattle.porch_typed.specs.Mirror.{assign_by}
use Rattle.porch_check.specs.Operands.{operand, typed_as}
use Rattle.porch_operands.specs.Answers.{answered}
use Rattle.porch_operands.specs.Views.{became, operation_with, typed_with}
use Rattle.porch_access.proofs.Updates.{fits, fits_not}
use Rattle.porch_access.proofs.assignments.update_fitting.Goals as goal

pub returns-in-Ok-clause-made : goal.returns-in-Ok-clause-made
returns-in-Ok-clause-made g c p e =
    fits c.args.at c.args.shape p (operation_with e c.args.operation) (g.T.Table.scopes c.args.table.now)
    (typed_with (became c.args.operation.right e) c.of.result) (became c.in-Ok.field-0 (became c.args.operation.right e))
    (c.of.ensures (became c.args.operation.right e))
    (c.fit.ensures (became c.args.operation.right e) ∙ ap (answered (λ b. became b (became c.args.operation.right e))) c.in-Ok.is)
    ∙ ap (λ v. Ok (operand (typed_as (assign_by c.args.shape c.args.operation.operator p (became c.args.operation.right e)) v), g.T.Table.scopes c.args.table.now)) (sym c.value_at.ensures)

pub returns-in-Err-clause-refused : goal.returns-in-Err-clause-refused
returns-in-Err-clause-refused g c p e =
    fits_not c.args.at c.args.shape p (operation_with e c.args.operation) (g.T.Table.scopes c.args.table.now)
    (typed_with (became c.args.operation.right e) c.of.result) c.in-Err.refusal
    (c.of.ensures (became c.args.operation.right e))
    (c.fit.ensures (became c.args.operation.right e) ∙ ap (answered (λ b. became b (became c.args.operation.right e))) c.in-Err.is)
