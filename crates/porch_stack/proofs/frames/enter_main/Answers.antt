use Rattle.std.proofs.lemmas.Option.{slice_get_within}
use Rattle.porch_operations.specs.Operations.{work}
use Rattle.porch_stack.proofs.Calling.{main_full}
use Rattle.porch_stack.proofs.frames.enter_main.Goals as goal

pub frame_bytes_of-size-requires-clause-within : goal.frame_bytes_of-size-requires-clause-within
frame_bytes_of-size-requires-clause-within c =
    slice_get_within c.args.loaded.now.bodies.items c.args.loaded.now.main c.requires.loaded.main_is.body c.requires.loaded.main_is.body_is

pub returns-then-left-size-clause-column : goal.returns-then-left-size-clause-column
returns-then-left-size-clause-column c =
    λ heap shown.
    main_full c.args.loaded.now c.requires.loaded c.args.spot.now _ c.requires.stage c.requires.stands (work c.args.memory.now heap shown) c.frame_bytes_of-size.result c.frame_bytes_of-size.ensures
    c.if-left-size.true
