-- The next step, where a machine stands in a function.
use Rattle.std.proofs.Common.{◌≡◌, refl, sym, subst}
use Rattle.std.specs.Prelude.{slice_get}
use Rattle.porch_bytes.specs.Column.{next, after, code_of}
use Rattle.porch_operations.specs.Operations.{Work}
use Rattle.porch_load.specs.declared.loaded.Loaded.{Loaded}
use Rattle.porch_load.specs.Loaded.{setting_in}
use Rattle.porch_stack.specs.declared.spot.Stage.{Stage}
use Rattle.porch_stack.specs.declared.spot.Stage.TheVariants.{Running}
use Rattle.porch_stack.specs.declared.spot.Spot.{Spot}
use Rattle.porch_stack.specs.Holding.{frame_of, callers_of, state_of}

pub next_in_function : (l : Loaded) (spot : Spot) (w : Work) → spot.stage ≡ Running
    → next l.program (setting_in l) (state_of spot w)
    ≡ after l.program (setting_in l) (frame_of spot.frame) (callers_of spot.callers.items)
    (slice_get (code_of l.program (setting_in l) spot.frame.function) spot.frame.next) (state_of spot w)
next_in_function l spot w e =
    subst (λ (s : Stage). next l.program (setting_in l) (state_of (record spot { stage = s }) w)
    ≡ after l.program (setting_in l) (frame_of spot.frame) (callers_of spot.callers.items)
    (slice_get (code_of l.program (setting_in l) spot.frame.function) spot.frame.next) (state_of (record spot { stage = s }) w))
    (sym e) refl
