use Rattle.std.proofs.Common.{sym, subst}
use Rattle.porch_types.specs.Leaves.{MOST_LEAVES}
use Rattle.porch_scopes.specs.Sizes.{AreWithin}
use Rattle.porch_scopes.specs.inside.Rows.{rows_of, members_in_rows}
use Rattle.porch_scopes.proofs.SmallMembers.{named_within, small_at}
use Rattle.porch_scopes.proofs.shapes.Shapes.member.Goals as goal

pub returns-clause-small : goal.returns-clause-small
returns-clause-small c =
    named_within c.args.name.now (members_in_rows (rows_of c.deref.result.now) c.args.number) MOST_LEAVES c.member_in.result
    (subst (λ rs. AreWithin (members_in_rows (rows_of rs) c.args.number) MOST_LEAVES) (sym c.deref.ensures.value)
    (small_at (rows_of c.self.inside.rows.items) c.args.number c.self.invariant.2))
    c.member_in.ensures
