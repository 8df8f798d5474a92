-- Where a machine stands after a call and after a return.
use Rattle.std.proofs.Common.{◌≡◌, ◌<◌, ◌≤◌, ℕ, ◌+◌, ◌-◌, ◌*◌, ◌^◌, List, [], ◌∷◌, ◌++◌, length, refl, sym, ap, ◌∙◌, subst, arith, Option, Some, None}
use Rattle.std.specs.Prelude.{slice_get, vec_capacity}
use Rattle.porch_bytes.specs.declared.access.Parts.{Parts}
use Rattle.porch_bytes.specs.Memory.{frame_size, stack_begin}
use Rattle.porch_bytes.specs.State.{Frame, Phase, before, running, over, widths_of, frames_of, memory_end}
use Rattle.porch_bytes.specs.Column.{used, stack_end, parts_with}
use Rattle.porch_instructions.specs.declared.instruction.Context.{Context}
use Rattle.porch_instructions.specs.Resolved.{context_of}
use Rattle.porch_load.specs.declared.body.Body.{Body}
use Rattle.porch_load.specs.declared.loaded.Loaded.{Loaded}
use Rattle.porch_load.specs.Calls.{HasCell}
use Rattle.porch_load.specs.Loaded.{setting_in, IsLoaded}
use Rattle.porch_stack.specs.declared.spot.Held.{Held}
use Rattle.porch_stack.specs.declared.spot.Stage.{Stage}
use Rattle.porch_stack.specs.declared.spot.Stage.TheVariants.{Before, Running, Over}
use Rattle.porch_stack.specs.declared.spot.Spot.{Spot}
use Rattle.porch_stack.specs.Holding.{frame_of, callers_of, phase_of, phase_in, context_in, HasInto, IsOutermost, IsHeld, AreHeld, AreIdle, Stands}
use Rattle.porch_stack.proofs.Geometry.{here_in, held_in, callers_more}

module _ (l : Loaded) where
  -- what operations are done in where these frames are, the innermost at an address
  abbrev base : (frames : List Frame) → (at : ℕ) → Context
  base frames at = record {
    big = l.metrics.layout.big;
    widths = widths_of l.metrics.layout;
    parts = parts_with l.program (setting_in l) frames;
    at = at;
  }

  pub moved : (c : Context) (frames more : List Frame) (old at end : ℕ) → c ≡ base frames old → end ≡ stack_end l.program (setting_in l) more
      → record c { at = at; parts = record c.parts { stack_end = end } } ≡ base more at
  moved c frames more old at end h e =
      ap (λ (x : Context). record x { at = at; parts = record x.parts { stack_end = end } }) h
      ∙ ap (λ (n : ℕ). record (base frames at) { parts = record (parts_with l.program (setting_in l) frames) { stack_end = n } }) e

  pub stands_in : (spot : Spot) (size : ℕ) (phase : Phase) → phase_in spot ≡ phase → size ≡ memory_end l.program (setting_in l) → spot.here ≡ context_in l phase → AreHeld l (frames_of phase)
      → AreIdle spot.stage spot.callers.items → l.stack < 16 * vec_capacity spot.callers + 16 → Stands l spot size
  stands_in spot size phase e m h k i r = record {
    memory_is = m;
    here_is = h ∙ ap (λ (p : Phase). context_in l p) (sym e);
    held = subst (λ (p : Phase). AreHeld l (frames_of p)) (sym e) k;
    idle = i;
    callers_room = r;
  }

  -- another place of the same function
  outermost_at : (frame : Frame) (callers : List Frame) (place : ℕ) → IsOutermost l frame callers → IsOutermost l (record frame { next = place }) callers
  outermost_at frame [] place k = k
  outermost_at frame (c ∷ cs) place k = tt

  pub held_at : (frame : Frame) (callers : List Frame) (place : ℕ) → AreHeld l (frame ∷ callers) → AreHeld l (record frame { next = place } ∷ callers)
  held_at frame callers place h = (
    record {
      within = h.0.within;
      at_is = h.0.at_is;
      fits = h.0.fits;
      into_has = h.0.into_has;
      outermost = outermost_at frame callers place h.0.outermost;
    },
    h.1,
  )

-- the phase of a spot whose stage, frame and callers are these
pub phase_is : (spot : Spot) (frame : Held) (hs : List Held) → spot.stage ≡ Running → spot.frame ≡ frame → spot.callers.items ≡ hs → phase_in spot ≡ running (frame_of frame) (callers_of hs)
phase_is spot frame hs s f c =
    ap (λ (x : Stage). phase_of x spot.frame spot.callers.items) s ∙ ap (λ (x : Held). running (frame_of x) (callers_of spot.callers.items)) f ∙ ap (λ (x : List Held). running (frame_of frame) (callers_of x)) c

pub idle_running : (spot : Spot) → spot.stage ≡ Running → AreIdle spot.stage spot.callers.items
idle_running spot s = subst (λ (x : Stage). AreIdle x spot.callers.items) (sym s) tt
