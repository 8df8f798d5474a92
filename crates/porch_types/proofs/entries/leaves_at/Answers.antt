use Rattle.std.proofs.Common.{◌<◌, ◌≤◌, subst}
use Rattle.porch_types.specs.declared.entries.Entry.{Entry}
use Rattle.porch_types.proofs.Looked.{entry_some, entry_small}
use Rattle.porch_types.proofs.entries.leaves_at.Goals as goal

pub returns-clause-some : goal.returns-clause-some
returns-clause-some c =
    subst (λ (e : Entry). 0 < e.leaves) c.index-entries-ty.is
    (entry_some c.args.entries.now c.args.ty c.index-entries-ty.result c.requires.kept c.requires.known c.index-entries-ty.is)

pub returns-clause-small : goal.returns-clause-small
returns-clause-small c =
    subst (λ (e : Entry). e.leaves ≤ 1048576) c.index-entries-ty.is
    (entry_small c.args.entries.now c.args.ty c.index-entries-ty.result c.requires.kept c.requires.known c.index-entries-ty.is)
