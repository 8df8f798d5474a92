-- Another place of the innermost frame's function.
use Rattle.std.proofs.Common.{◌≡◌, ℕ, List, ◌∷◌, length, sym, ap, subst}
use Rattle.porch_flat.specs.declared.whole.Flat.{Flat}
use Rattle.porch_bytes.specs.State.{Setting, Phase, running, normal}
use Rattle.porch_bytes.specs.Column.{going_to}
use Rattle.porch_operations.specs.Operations.{Work}
use Rattle.porch_load.specs.declared.loaded.Loaded.{Loaded}
use Rattle.porch_stack.specs.declared.spot.Stage.{Stage}
use Rattle.porch_stack.specs.declared.spot.Stage.TheVariants.{Running}
use Rattle.porch_stack.specs.declared.spot.Spot.{Spot}
use Rattle.porch_stack.specs.Holding.{frame_of, callers_of, phase_of, phase_in, state_of, moved_spot, Stands}
use Rattle.porch_instructions.specs.declared.instruction.Context.{Context}
use Rattle.porch_instructions.specs.Instructions.{AreParts}
use Rattle.porch_load.specs.Loaded.{setting_in, IsLoaded}
use Rattle.porch_stack.specs.Doing.{SpotsMayBeMoved}
use Rattle.porch_stack.proofs.Geometry.{here_in, held_in, are_parts, used_fits}
use Rattle.porch_stack.proofs.Standing.{stands_in, held_at, idle_running}

module _ (spot : Spot) (place turns : ℕ) where
  module _ (stage : spot.stage ≡ Running) where
    phase_there : phase_in (moved_spot spot place turns) ≡ running (frame_of (record spot.frame { next = place })) (callers_of spot.callers.items)
    phase_there = ap (λ (s : Stage). phase_of s (record spot.frame { next = place }) spot.callers.items) stage

    pub moved_state : (flat : Flat) (on : Setting) (w : Work)
        → state_of (moved_spot spot place turns) w ≡ going_to flat on (frame_of spot.frame) (callers_of spot.callers.items) place (record (state_of spot w) { turns = turns })
    moved_state flat on w =
        ap (λ (p : Phase). record { memory = w.memory; phase = p; blocks = w.heap.blocks; turns = turns; shown = w.shown; mode = normal }) phase_there

    pub moved_stands : (l : Loaded) (size : ℕ) → Stands l spot size → Stands l (moved_spot spot place turns) size
    moved_stands l size stands =
        stands_in l (moved_spot spot place turns) size (running (frame_of (record spot.frame { next = place })) (callers_of spot.callers.items)) phase_there stands.memory_is
        (here_in l spot size stands stage) (held_at l (frame_of spot.frame) (callers_of spot.callers.items) place (held_in l spot size stands stage)) (idle_running (moved_spot spot place turns) stage) stands.callers_room

parts_are : (l : Loaded) (spot : Spot) → spot.stage ≡ Running → (memory : List ℕ) → IsLoaded l → Stands l spot (length memory) → AreParts spot.here.parts memory
parts_are l spot stage memory loaded stands =
    subst (λ (x : Context). AreParts x.parts memory) (sym (here_in l spot (length memory) stands stage))
    (are_parts l loaded (frame_of spot.frame ∷ callers_of spot.callers.items) memory
    (used_fits l loaded (frame_of spot.frame ∷ callers_of spot.callers.items) (held_in l spot (length memory) stands stage)) stands.memory_is)

pub may_be_moved : SpotsMayBeMoved
may_be_moved l spot next turns stage = record {
  stands = moved_stands spot next turns stage l;
  state = moved_state spot next turns stage l.program (setting_in l);
  parts = parts_are l spot stage;
}
