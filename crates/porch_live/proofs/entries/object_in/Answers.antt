use Rattle.std.proofs.Common.{slice_get, sym, ap, ◌∙◌}
use Rattle.porch_objects.specs.Store.{Object}
use Rattle.std.specs.Prelude.{List}
use Rattle.porch_live.proofs.Found.{variables_there, no_variables}
use Rattle.porch_live.proofs.entries.object_in.Goals as goal

pub returns-in-Some : goal.returns-in-Some
returns-in-Some c =
    c.object.ensures ∙ ap (λ (os : List Object). slice_get os c.args.index)
    (sym (variables_there c.args.entries.now c.args.number c.in-Some.at c.index-entries-at.result c.requires c.in-Some.ensures.some c.index-entries-at.is))

pub returns-in-None : goal.returns-in-None
returns-in-None c =
    sym (ap (λ (os : List Object). slice_get os c.args.index) (no_variables c.args.entries.now c.args.number c.in-None.ensures.none))
