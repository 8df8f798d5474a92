use Rattle.std.proofs.Common.{sym, ◌∙◌}
use Rattle.porch_flat.specs.inside.Walks.{reach_of}
use Rattle.porch_flat.proofs.Modes.{marked_by}
use Rattle.porch_flat.proofs.whole.modes.is_rewritten.Goals as goal

pub returns-in-Some : goal.returns-in-Some
returns-in-Some c =
    c.has_ends.ensures ∙ sym (marked_by c.args.flat.now c.args.f.now (reach_of c.args.reaching.now) c.in-Some.count c.requires c.in-Some.ensures)
