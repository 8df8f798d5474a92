use Rattle.std.proofs.Common.{refl, sym, ap, ◌∙◌}
use Rattle.std.specs.Str.{bytes_eq}
use Rattle.porch_scopes.specs.inside.Numbered.{numbered_as}
use Rattle.porch_scopes.proofs.OneMoreBody.{noted, not_some}
use Rattle.porch_scopes.proofs.bodies.note.Goals as goal

pub returns-in_ok-insert-clause-noted : goal.returns-in_ok-insert-clause-noted
returns-in_ok-insert-clause-noted c = λ x.
    ap (numbered_as x) c.in_ok-insert.ensures.entries
    ∙ noted x c.args.numbers.now.entries c.args.name c.args.number (bytes_eq x c.args.name.now) refl
    (not_some (numbered_as c.args.name.now c.args.numbers.now.entries) (sym c.contains_key.ensures ∙ c.if-not-contains_key.true))
