use Rattle.porch_run.proofs.Doing.{function_within}
use Rattle.porch_run.proofs.counting.counts_next.Goals as goal

pub counts_in_function-requires-clause-within : goal.counts_in_function-requires-clause-within
counts_in_function-requires-clause-within c = function_within c.args.loaded.now c.args.spot.now c.requires.stands.0 c.in-Running.is c.requires.stands.1
