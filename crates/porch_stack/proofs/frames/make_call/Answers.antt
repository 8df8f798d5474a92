use Rattle.std.proofs.Common.{◌≡◌, ◌≤◌, ℕ, ◌+◌, refl, sym, ap, ◌∙◌, subst, arith}
use Rattle.std.specs.Prelude.{vec_capacity}
use Rattle.porch_instructions.specs.declared.instruction.Context.{Context}
use Rattle.porch_stack.specs.declared.spot.Spot.{Spot}
use Rattle.porch_stack.proofs.Geometry.{short}
use Rattle.porch_operations.specs.Operations.{work}
use Rattle.porch_stack.specs.Holding.{frame_of}
use Rattle.porch_stack.proofs.Calling.{passings_fit, frame_within, room, goes_column, call_stands}
use Rattle.porch_stack.proofs.frames.make_call.Goals as goal

pub enter_frame-requires-clause-within : goal.enter_frame-requires-clause-within
enter_frame-requires-clause-within c =
    frame_within c.args.loaded.now c.requires.loaded c.args.spot.now _ c.requires.stage c.requires.stands c.args.calling c.requires.does c.arguments_are_passed.ensures c.args.passings.now
    c.requires.passings c.args.size _ c.requires.size refl c.requires.fits c.requires.stands.memory_is

pub enter_frame-requires-clause-passings : goal.enter_frame-requires-clause-passings
enter_frame-requires-clause-passings c =
    passings_fit c.args.loaded.now c.requires.loaded c.args.spot.now _ c.requires.stage c.requires.stands c.args.calling c.requires.does c.args.passings.now c.args.size c.requires.passings
    c.requires.size

pub keep_caller-requires-clause-room : goal.keep_caller-requires-clause-room
keep_caller-requires-clause-room c =
    room c.args.loaded.now c.requires.loaded c.args.spot.now _ c.requires.stage c.requires.stands c.args.calling c.requires.does c.arguments_are_passed.ensures c.args.passings.now
    c.requires.passings c.args.size _ c.requires.size refl c.requires.fits

pub place_frame-requires-clause-low : goal.place_frame-requires-clause-low
place_frame-requires-clause-low c =
    omega (
      arith,
      frame_within c.args.loaded.now c.requires.loaded c.args.spot.now _ c.requires.stage c.requires.stands c.args.calling c.requires.does c.arguments_are_passed.ensures c.args.passings.now
          c.requires.passings c.args.size _ c.requires.size refl c.requires.fits c.requires.stands.memory_is,
      short c.args.loaded.now c.requires.loaded,
      c.requires.stands.memory_is,
    )

pub returns-clause-column : goal.returns-clause-column
returns-clause-column c =
    λ heap shown.
    goes_column c.args.loaded.now c.requires.loaded c.args.spot.now _ c.requires.stage c.requires.stands c.args.calling c.requires.does c.arguments_are_passed.ensures c.args.passings.now
    c.requires.passings c.args.size _ c.requires.size refl c.requires.fits c.place_frame.new.spot (ap (λ (x : Spot). x.stage) c.place_frame.ensures)
    (ap (λ (x : Spot). x.callers.items) c.place_frame.ensures ∙ c.keep_caller.ensures.callers) (ap (λ (x : Spot). x.frame) c.place_frame.ensures) (work c.args.memory.now heap shown)
    c.enter_frame.new.memory (ap (λ (x : Spot). x.turns) c.place_frame.ensures ∙ ap (λ (n : ℕ). n + 1) c.keep_caller.ensures.turns) c.enter_frame.ensures.memory

pub returns-clause-stands : goal.returns-clause-stands
returns-clause-stands c =
    rw c.enter_frame.ensures.length
    (call_stands c.args.loaded.now c.requires.loaded c.args.spot.now _ c.requires.stage c.requires.stands c.args.calling c.requires.does c.arguments_are_passed.ensures c.args.passings.now
    c.requires.passings c.args.size _ c.requires.size refl c.requires.fits c.place_frame.new.spot (ap (λ (x : Spot). x.stage) c.place_frame.ensures)
    (ap (λ (x : Spot). x.callers.items) c.place_frame.ensures ∙ c.keep_caller.ensures.callers) (ap (λ (x : Spot). x.frame) c.place_frame.ensures)
    (ap (λ (x : Spot). x.here) c.place_frame.ensures ∙ ap (λ (h : Context). record h { at = c.args.spot.now.here.parts.stack_end; parts = record h.parts { stack_end = c.args.spot.now.here.parts.stack_end + c.args.size } }) c.keep_caller.ensures.here)
    (subst (λ (x : Spot). vec_capacity c.args.spot.now.callers ≤ vec_capacity x.callers) (sym c.place_frame.ensures) c.keep_caller.ensures.room))
