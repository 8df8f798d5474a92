use Rattle.std.proofs.Common.{◌∙◌, length, None}
use Rattle.porch_operations.specs.Operations.{work}
use Rattle.porch_stack.specs.Holding.{callers_of}
use Rattle.porch_stack.proofs.Leaving.{ends_column, no_ints}
use Rattle.porch_stack.proofs.frames.leave_at_end.Goals as goal

pub leave-requires-clause-ints : goal.leave-requires-clause-ints
leave-requires-clause-ints c = no_ints (callers_of c.args.spot.now.callers.items)

pub returns-clause-column : goal.returns-clause-column
returns-clause-column c =
    λ heap shown.
    ends_column c.args.loaded.now c.requires.loaded c.args.spot.now (length c.args.memory.now) c.requires.stage c.requires.stands None (work c.args.memory.now heap shown) c.requires.none
    ∙ c.leave.ensures.column heap shown
