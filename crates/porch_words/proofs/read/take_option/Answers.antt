use Rattle.std.proofs.Common.{sym}
use Rattle.porch_words.specs.inside.Reading.{given_seen}
use Rattle.porch_words.proofs.Steps.{takes_joined, takes_apart, reads_neither}
use Rattle.porch_words.specs.Words.{texts}
use Rattle.porch_words.proofs.read.take_option.Goals as goal

pub returns-in-Joined : goal.returns-in-Joined
returns-in-Joined c =
    takes_joined c.args.command (given_seen c.args.given) c.in-Joined.key c.in-Joined.value.now c.args.word.now c.args.behind.now c.take_value.result (sym c.in-Joined.ensures) c.take_value.ensures

pub returns-in-Apart : goal.returns-in-Apart
returns-in-Apart c =
    takes_apart c.args.command (given_seen c.args.given) c.in-Apart.key c.args.word.now c.args.behind.now c.take_next.result (sym c.in-Apart.ensures) c.take_next.ensures

pub returns-in-Neither : goal.returns-in-Neither
returns-in-Neither c =
    reads_neither c.args.command (given_seen c.args.given) c.args.word.now (texts c.args.behind.now) (sym c.in-Neither.ensures)
