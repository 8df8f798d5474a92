use Rattle.std.proofs.Common.{length, refl}
use Rattle.porch_operations.specs.declared.operation.Operation.TheVariants as operation
use Rattle.porch_operations.specs.Operations.{work}
use Rattle.porch_stack.specs.Holding.{frame_of}
use Rattle.porch_stack.proofs.Geometry.{held_in}
use Rattle.porch_stack.proofs.Calling.{callee_within, full_column}
use Rattle.porch_stack.proofs.frames.enter.Goals as goal

pub passings_of-passings-requires-clause-within : goal.passings_of-passings-requires-clause-within
passings_of-passings-requires-clause-within c = (held_in c.args.loaded.now c.args.spot.now _ c.requires.stands c.requires.stage).0.within

pub passings_of-passings-requires-clause-next : goal.passings_of-passings-requires-clause-next
passings_of-passings-requires-clause-next c =
    record { body = c.requires.does.body; operation = operation.Call c.args.calling; body_is = c.requires.does.body_is; stands = c.requires.does.stands }

pub frame_bytes_of-size-requires-clause-within : goal.frame_bytes_of-size-requires-clause-within
frame_bytes_of-size-requires-clause-within c =
    callee_within c.args.loaded.now c.requires.loaded c.args.spot.now _ c.requires.stage c.requires.stands c.args.calling c.requires.does c.passings_of-passings.result.now
    c.passings_of-passings.ensures

pub bytes_left-left-requires-clause-stands : goal.bytes_left-left-requires-clause-stands
bytes_left-left-requires-clause-stands c = (length c.args.memory.now, c.requires.stands)

pub returns-then-left-size-clause-column : goal.returns-then-left-size-clause-column
returns-then-left-size-clause-column c =
    λ heap shown.
    full_column c.args.loaded.now c.requires.loaded c.args.spot.now _ c.requires.stage c.requires.stands c.args.calling c.requires.does (work c.args.memory.now heap shown) c.frame_bytes_of-size.result
    c.bytes_left-left.result c.frame_bytes_of-size.ensures c.bytes_left-left.ensures c.if-left-size.true
