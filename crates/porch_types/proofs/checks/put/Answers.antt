use Rattle.std.proofs.Common.{subst, sym}
use Rattle.porch_types.specs.inside.Kept.{IsKept}
use Rattle.porch_types.proofs.Putting.{kept_put}
use Rattle.porch_types.proofs.checks.put.Goals as goal

pub returns-clause-kept : goal.returns-clause-kept
returns-clause-kept c = subst IsKept (sym c.in_ok-push.ensures.items) (kept_put c.args.entries.now.items c.args.entry c.requires.kept c.requires.next)
