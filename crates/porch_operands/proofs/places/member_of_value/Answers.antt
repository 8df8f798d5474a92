use Rattle.std.proofs.Common.{ap, sym, refl, ◌∙◌}
use Rattle.porch_check.specs.Refusals.{and_then}
use Rattle.porch_check.specs.Operands.{value_at}
use Rattle.porch_check.specs.Operators.{member_of_value, member_value}
use Rattle.porch_operands.specs.Answers.{answered}
use Rattle.porch_operands.specs.Views.{as_member, as_value}
use Rattle.porch_operands.proofs.places.member_of_value.Goals as goal

pub returns-in-Ok : goal.returns-in-Ok
returns-in-Ok g c x =
    ap (λ v. member_of_value c.args.at (record { at = c.args.name_at; bytes = c.args.name.now }) (g.T.Table.scopes c.args.table.now) x (as_value v)) c.in-Record.is
    ∙ c.member_in.ensures (λ m. member_value c.args.at (g.T.Table.scopes c.args.table.now) x.tree m (value_at (g.T.Table.scopes c.args.table.now).shapes m.shape))
    ∙ ap (λ r. and_then (answered (as_member c.args.name.now) r) (λ m. member_value c.args.at (g.T.Table.scopes c.args.table.now) x.tree m (value_at (g.T.Table.scopes c.args.table.now).shapes m.shape))) c.in-Ok.is
    ∙ ap (member_value c.args.at (g.T.Table.scopes c.args.table.now) x.tree (as_member c.args.name.now c.in-Ok.member)) (sym c.value_at.ensures)
    ∙ c.with_value.ensures (g.T.Table.scopes c.args.table.now) x.tree (as_member c.args.name.now c.in-Ok.member) refl refl
