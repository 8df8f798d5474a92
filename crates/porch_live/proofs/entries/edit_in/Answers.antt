use Rattle.std.proofs.Common.{List, Ok, sym, ap, ◌∙◌, subst}
use Rattle.std.specs.Prelude.{slice_set}
use Rattle.porch_objects.specs.Store.{Activation}
use Rattle.porch_live.specs.inside.Edits.{done}
use Rattle.porch_live.specs.inside.Entries.{StandsAt, HasNone}
use Rattle.porch_live.proofs.Found.{change_there, no_change}
use Rattle.porch_live.proofs.entries.edit_in.Goals as goal

pub returns-in-Some : goal.returns-in-Some
returns-in-Some c =
    let change = done c.args.edit.now c.edit.result in
    let es = c.args.entries.now.items in
    let found = c.index_mut-entry.result.now in
    let stands : StandsAt es c.args.number c.in-Some.at =
    subst (λ (xs : List Activation). StandsAt xs c.args.number c.in-Some.at) c.deref.ensures.value c.in-Some.ensures.some in
    ap (λ (a : Activation). slice_set es c.in-Some.at a) c.edit.ensures
    ∙ sym (change_there change c.args.index es c.args.number c.in-Some.at found c.requires stands c.index_mut-entry.ensures.value)

pub returns-in-None : goal.returns-in-None
returns-in-None c =
    let es = c.args.entries.now.items in
    let none : HasNone es c.args.number = subst (λ (xs : List Activation). HasNone xs c.args.number) c.deref.ensures.value c.in-None.ensures.none in
    sym (no_change (done c.args.edit.now (Ok tt)) es c.args.number c.args.index none)
