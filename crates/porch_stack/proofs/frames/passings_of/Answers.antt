use Rattle.std.proofs.Common.{◌≡◌, length, refl, sym, subst, slice_get, Some, List, arith, ◌<◌}
use Rattle.std.proofs.lemmas.Option.{slice_get_read}
use Rattle.porch_frames.specs.declared.passing.Passing.{Passing}
use Rattle.porch_stack.specs.Holding.{frame_of}
use Rattle.porch_stack.specs.Next.{HasPassings}
use Rattle.porch_stack.proofs.InFrame.{calls_within, next_within, has_passings}
use Rattle.porch_stack.proofs.frames.passings_of.Goals as goal

pub index-calls-requires : goal.index-calls-requires
index-calls-requires c =
    let within : c.args.frame.now.function < length c.args.loaded.now.calls.items = calls_within c.args.loaded.now c.requires.loaded (frame_of c.args.frame.now) c.requires.next in
    omega (arith, within, c.args.loaded.now.calls.ok.0)

pub index-requires : goal.index-requires
index-requires c =
    let within : c.args.frame.now.function < length c.args.loaded.now.calls.items = calls_within c.args.loaded.now c.requires.loaded (frame_of c.args.frame.now) c.requires.next in
    let read : slice_get c.args.loaded.now.calls.items c.args.frame.now.function ≡ Some c.index-calls.result.now =
    slice_get_read c.args.loaded.now.calls.items (length c.args.loaded.now.calls.items) c.args.frame.now.function c.index-calls.result.now refl within c.index-calls.ensures in
    let next : c.args.frame.now.next < length c.index-calls.result.now.items = next_within c.args.loaded.now c.requires.loaded (frame_of c.args.frame.now) c.index-calls.result.now read c.requires.next in
    omega (arith, next, c.index-calls.result.now.ok.0)

pub returns : goal.returns
returns c =
    let within : c.args.frame.now.function < length c.args.loaded.now.calls.items = calls_within c.args.loaded.now c.requires.loaded (frame_of c.args.frame.now) c.requires.next in
    let read : slice_get c.args.loaded.now.calls.items c.args.frame.now.function ≡ Some c.index-calls.result.now =
    slice_get_read c.args.loaded.now.calls.items (length c.args.loaded.now.calls.items) c.args.frame.now.function c.index-calls.result.now refl within c.index-calls.ensures in
    let next : c.args.frame.now.next < length c.index-calls.result.now.items = next_within c.args.loaded.now c.requires.loaded (frame_of c.args.frame.now) c.index-calls.result.now read c.requires.next in
    let one : slice_get c.index-calls.result.now.items c.args.frame.now.next ≡ Some c.index.result.now =
    slice_get_read c.index-calls.result.now.items (length c.index-calls.result.now.items) c.args.frame.now.next c.index.result.now refl next c.index.ensures in
    subst (λ (ps : List Passing). HasPassings c.args.loaded.now (frame_of c.args.frame.now) ps) (sym c.as_slice.ensures.value)
    (has_passings c.args.loaded.now c.requires.loaded (frame_of c.args.frame.now) c.index-calls.result.now read c.index.result.now one)
