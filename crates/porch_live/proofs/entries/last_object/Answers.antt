use Rattle.std.proofs.Common.{◌≡◌, ◌-◌, ◌<◌, List, length, Some, slice_get, arith, ap, ◌∙◌, sym}
use Rattle.std.proofs.lemmas.Option.{slice_get_within}
use Rattle.porch_objects.specs.Store.{Object}
use Rattle.porch_live.proofs.Stacked.{variables_of_last}
use Rattle.porch_live.proofs.entries.last_object.Goals as goal

pub returns-in-Some : goal.returns-in-Some
returns-in-Some c = λ none.
    let es = c.args.entries.now in
    let there : slice_get es (length es - 1) ≡ Some c.in-Some.entry.now = sym c.in-Some.ensures.value in
    let within : length es - 1 < length es = slice_get_within es (length es - 1) c.in-Some.entry.now there in
    c.object.ensures
    ∙ ap (λ (os : List Object). slice_get os c.args.index)
    (sym (variables_of_last es _ (length es - 1) none c.in-Some.entry.now (omega (arith, within)) there))
