use Rattle.std.proofs.Common.{◌∙◌}
use Rattle.porch_words.specs.inside.Reading.{given_seen}
use Rattle.porch_words.proofs.Steps.{reads_end}
use Rattle.porch_words.proofs.read.read_options.Goals as goal

pub returns : goal.returns
returns c =
    reads_end c.args.command (given_seen c.loop-word.taken.given) c.loop-word.taken.rest.now c.in_default.ensures.cases ∙ c.loop-word.invariant
