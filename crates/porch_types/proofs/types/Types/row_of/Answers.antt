use Rattle.std.proofs.Common.{◌∙◌, ap, subst}
use Rattle.porch_types.specs.Leaves.{AreFormed}
use Rattle.porch_types.specs.Rows.{row_at}
use Rattle.porch_types.specs.Entries.{types_of}
use Rattle.porch_types.proofs.Subobjects.{if_found, if_none}
use Rattle.porch_types.proofs.types.Types.row_of.Goals as goal

pub returns-clause-row : goal.returns-clause-row
returns-clause-row c =
    if_found c.args.self.now c.args.root c.args.count c.args.place c.args.pointee c.row_in.result
    (c.row_in.ensures
    ∙ ap (λ es. row_at (types_of es) c.args.root c.args.count c.args.place c.args.pointee) c.deref.ensures.value
    ∙ ap (λ ts. row_at ts c.args.root c.args.count c.args.place c.args.pointee) c.self.view_is)

pub returns-clause-none : goal.returns-clause-none
returns-clause-none c =
    if_none c.args.self.now c.args.root c.args.count c.args.place c.args.pointee c.row_in.result (subst AreFormed c.self.view_is c.self.invariant.kept.formed) c.requires
    (c.row_in.ensures
    ∙ ap (λ es. row_at (types_of es) c.args.root c.args.count c.args.place c.args.pointee) c.deref.ensures.value
    ∙ ap (λ ts. row_at ts c.args.root c.args.count c.args.place c.args.pointee) c.self.view_is)
