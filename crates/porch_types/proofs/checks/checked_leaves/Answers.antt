use Rattle.std.proofs.Common.{◌∙◌, sym, length}
use Rattle.porch_types.specs.Leaves.{parts_of}
use Rattle.porch_types.proofs.Putting.{none_later}
use Rattle.porch_types.proofs.checks.checked_leaves.Goals as goal

pub total-leaves-requires-clause-earlier : goal.total-leaves-requires-clause-earlier
total-leaves-requires-clause-earlier c = none_later (length c.args.entries.now) (parts_of c.args.ty.now) (sym c.later.ensures ∙ c.in_default.is)

pub returns-clause-earlier : goal.returns-clause-earlier
returns-clause-earlier c = none_later (length c.args.entries.now) (parts_of c.args.ty.now) (sym c.later.ensures ∙ c.in_default.is)
