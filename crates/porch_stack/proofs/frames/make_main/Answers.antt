use Rattle.std.proofs.Common.{refl, arith}
use Rattle.porch_operations.specs.Operations.{work}
use Rattle.porch_stack.proofs.Geometry.{short}
use Rattle.porch_stack.proofs.Calling.{main_within, main_goes, main_stands}
use Rattle.porch_stack.proofs.frames.make_main.Goals as goal

pub enter_frame-requires-clause-within : goal.enter_frame-requires-clause-within
enter_frame-requires-clause-within c =
    main_within c.args.loaded.now c.requires.loaded c.args.spot.now _ c.requires.stage c.requires.stands c.args.size c.requires.size c.requires.fits c.requires.stands.memory_is

pub place_frame-requires-clause-low : goal.place_frame-requires-clause-low
place_frame-requires-clause-low c =
    omega (
      arith,
      main_within c.args.loaded.now c.requires.loaded c.args.spot.now _ c.requires.stage c.requires.stands c.args.size c.requires.size c.requires.fits c.requires.stands.memory_is,
      short c.args.loaded.now c.requires.loaded,
      c.requires.stands.memory_is,
    )

pub returns-clause-column : goal.returns-clause-column
returns-clause-column c =
    λ heap shown.
    main_goes c.args.loaded.now c.requires.loaded c.args.spot.now _ c.requires.stage c.requires.stands c.args.size c.requires.size c.requires.fits c.place_frame.new.spot c.place_frame.ensures
    (work c.args.memory.now heap shown) c.enter_frame.new.memory c.enter_frame.ensures.memory

pub returns-clause-stands : goal.returns-clause-stands
returns-clause-stands c =
    rw c.enter_frame.ensures.length
    (main_stands c.args.loaded.now c.requires.loaded c.args.spot.now _ c.requires.stage c.requires.stands c.args.size c.requires.size c.requires.fits c.place_frame.new.spot c.place_frame.ensures)
