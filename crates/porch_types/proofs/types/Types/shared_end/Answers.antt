use Rattle.std.proofs.Common.{◌+◌, ◌∙◌, ap, subst}
use Rattle.porch_types.specs.Leaves.{AreFormed, leaves_of}
use Rattle.porch_types.specs.Rows.{has_shared_end}
use Rattle.porch_types.specs.Entries.{types_of}
use Rattle.porch_types.proofs.Subobjects.{found_iff}
use Rattle.porch_types.proofs.types.Types.shared_end.Goals as goal

pub returns-clause-next : goal.returns-clause-next
returns-clause-next c =
    found_iff c.args.self.now c.args.root c.args.count (c.args.place + leaves_of c.args.self.now c.args.pointee) c.args.pointee c.shares_end.result
    (subst AreFormed c.self.view_is c.self.invariant.kept.formed) c.requires.root
    (c.shares_end.ensures
    ∙ ap (λ es. has_shared_end (types_of es) c.args.root c.args.count c.args.place c.args.pointee) c.deref.ensures.value
    ∙ ap (λ ts. has_shared_end ts c.args.root c.args.count c.args.place c.args.pointee) c.self.view_is)
