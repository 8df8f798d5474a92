use Rattle.std.proofs.Common.{◌+◌}
use Rattle.porch_stack.proofs.Moved.{moved_state, moved_stands}
use Rattle.porch_stack.proofs.going.count_turn.Goals as goal

pub returns-clause-state : goal.returns-clause-state
returns-clause-state c = moved_state c.args.spot.now c.args.place (c.args.spot.now.turns + 1) c.requires.stage

pub returns-clause-stands : goal.returns-clause-stands
returns-clause-stands c = moved_stands c.args.spot.now c.args.place (c.args.spot.now.turns + 1) c.requires.stage
