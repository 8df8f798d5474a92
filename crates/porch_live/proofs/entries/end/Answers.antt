use Rattle.std.proofs.Common.{List, sym, ap, ◌∙◌, subst}
use Rattle.std.specs.Prelude.{slice_set}
use Rattle.porch_objects.specs.Store.{Activation}
use Rattle.porch_live.specs.inside.Entries.{StandsAt, HasNone}
use Rattle.porch_live.proofs.Found.{end_there, no_end}
use Rattle.porch_live.proofs.entries.end.Goals as goal

pub returns-in-Some : goal.returns-in-Some
returns-in-Some c =
    let es = c.args.entries.now.items in
    let found = c.index_mut-entry.result.now in
    let stands : StandsAt es c.args.number c.in-Some.at =
    subst (λ (xs : List Activation). StandsAt xs c.args.number c.in-Some.at) c.deref.ensures.value c.in-Some.ensures.some in
    ap (λ (a : Activation). slice_set es c.in-Some.at a) c.end.ensures
    ∙ sym (end_there es c.args.number c.in-Some.at found c.requires stands c.index_mut-entry.ensures.value)

pub returns-in_default : goal.returns-in_default
returns-in_default c =
    let es = c.args.entries.now.items in
    let none : HasNone es c.args.number = subst (λ (xs : List Activation). HasNone xs c.args.number) c.deref.ensures.value c.in_default.ensures.none in
    sym (no_end es c.args.number none)
