use Rattle.std.proofs.Common.{sym, ◌∙◌}
use Rattle.porch_sealing.proofs.OneMorePlace.{noted}
use Rattle.porch_sealing.proofs.numbers.note.Goals as goal

pub returns-in_ok-insert-clause-noted : goal.returns-in_ok-insert-clause-noted
returns-in_ok-insert-clause-noted c = λ n.
    noted n c.args.number c.args.place c.args.places.now.entries _ (c.in_ok-insert.ensures.updates.0 n)
    (sym c.contains_key.ensures ∙ c.if-not-contains_key.true)
