use Rattle.porch_lex.specs.Words.{spelled_token}
use Rattle.porch_depth.proofs.Readings.{read_on}
use Rattle.porch_depth.proofs.along.read_token.Goals as goal

pub returns-in_ok-push : goal.returns-in_ok-push
returns-in_ok-push c = λ s at.
    read_on s (spelled_token c.args.text.now c.args.token) c.args.number _ _ _ _ c.args.reader.now _ c.in_ok-reading.reading
    (c.knows-known.ensures s at) c.word_at-word.ensures (c.pending.ensures s at) c.in_ok-reading.ensures
    c.if-branch.true (c.in_ok-take.ensures s at) c.in_ok-push.ensures.items
