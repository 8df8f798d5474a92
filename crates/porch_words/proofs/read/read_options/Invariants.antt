use Rattle.std.proofs.Common.{◌≡◌, length}
use Rattle.porch_words.specs.Orders.{nothing}
use Rattle.porch_words.specs.Words.{texts}
use Rattle.porch_words.specs.inside.Reading.{given_seen, read}
use Rattle.porch_words.proofs.read.read_options.Given as goal

-- the words that are left, behind what is given so far, give what all of them do
abbrev pub invariant-loop-word : goal.invariant-loop-word
invariant-loop-word l =
    read l.fn.command (given_seen l.taken.given) (texts l.taken.rest.now)
    ≡ read l.fn.command nothing (texts l.fn.words)

abbrev pub decreases-loop-word : goal.decreases-loop-word
decreases-loop-word l = length l.taken.rest.now
