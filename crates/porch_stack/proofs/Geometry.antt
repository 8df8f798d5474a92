-- The parts of memory lie in memory, where frames fit the stack.
use Rattle.std.proofs.Common.{◌≡◌, ◌<◌, ◌≤◌, ℕ, ◌+◌, ◌-◌, ◌*◌, ◌/◌, ◌^◌, List, [], ◌∷◌, ◌++◌, length, refl, sym, ap, ◌∙◌, subst, arith, max}
use Rattle.porch_bytes.specs.declared.access.Parts.{Parts}
use Rattle.porch_bytes.specs.Memory.{globals_end, stack_begin, heap_begin, frame_size, variables, extent, free_after, UNIT}
use Rattle.porch_metrics.specs.Extents.{round_up}
use Rattle.porch_bytes.specs.State.{Frame, memory_end, frames_of}
use Rattle.porch_bytes.specs.Column.{parts_with, used, stack_end}
use Rattle.porch_instructions.specs.Instructions.{AreParts}
use Rattle.porch_instructions.specs.Resolved.{context_of}
use Rattle.porch_load.specs.declared.loaded.Loaded.{Loaded}
use Rattle.porch_load.specs.Loaded.{setting_in, IsLoaded}
use Rattle.porch_stack.specs.declared.spot.Held.{Held}
use Rattle.porch_stack.specs.declared.spot.Stage.{Stage}
use Rattle.porch_stack.specs.declared.spot.Stage.TheVariants.{Running}
use Rattle.porch_stack.specs.declared.spot.Spot.{Spot}
use Rattle.porch_stack.specs.Holding.{frame_of, callers_from, callers_of, phase_of, context_in, IsHeld, AreHeld, Stands}

-- plain numbers: the globals' end, the stack's begin, its used and whole bytes, and the heap's
stack_lies : (b s u h : ℕ) → u ≤ s → b + u ≤ (b + s + 16 + (16 - 1)) / 16 * 16 + h
stack_lies b s u h k = omega (arith, k)

globals_lie : (g s h : ℕ) → g ≤ ((g + 1 + (16 - 1)) / 16 * 16 + s + 16 + (16 - 1)) / 16 * 16 + h
globals_lie g s h = omega arith

module _ (l : Loaded) (loaded : IsLoaded l) where
  end_is : l.map.end ≡ memory_end l.program (setting_in l)
  end_is = ap (λ (p : Parts). p.end) loaded.map_is

  pub short : memory_end l.program (setting_in l) < 2 ^ 31
  short = subst (λ (n : ℕ). n < 2 ^ 31) end_is loaded.few

  pub stack_within : (frames : List Frame) → used l.program (setting_in l) frames ≤ l.stack → stack_end l.program (setting_in l) frames ≤ memory_end l.program (setting_in l)
  stack_within frames h = stack_lies (stack_begin l.metrics.layout l.program) l.stack (used l.program (setting_in l) frames) l.heap h

  pub are_parts : (frames : List Frame) (memory : List ℕ) → used l.program (setting_in l) frames ≤ l.stack → length memory ≡ memory_end l.program (setting_in l)
      → AreParts (parts_with l.program (setting_in l) frames) memory
  are_parts frames memory h e = record {
    end_is = sym e;
    few = short;
    globals_within = globals_lie (globals_end l.metrics.layout l.program) l.stack l.heap;
    stack_within = stack_within frames h;
  }

  pub used_fits : (frames : List Frame) → AreHeld l frames → used l.program (setting_in l) frames ≤ l.stack
  used_fits [] h = omega arith
  used_fits (frame ∷ callers) h = h.0.fits

  -- a frame that is held lies in memory
  pub frame_lies : (frame : Frame) (callers : List Frame) (memory : List ℕ) → IsHeld l frame callers → length memory ≡ memory_end l.program (setting_in l)
      → frame.at + frame_size l.metrics.layout l.program frame.function ≤ length memory
  frame_lies frame callers memory h e =
      let within : stack_end l.program (setting_in l) (frame ∷ callers) ≤ memory_end l.program (setting_in l) = stack_within (frame ∷ callers) h.fits in
      omega (arith, within, h.at_is, e)

  -- each frame takes at least 16 bytes
  frame_some : (function : ℕ) → 16 ≤ frame_size l.metrics.layout l.program function
  frame_some function = omega arith

  pub frames_few : (frames : List Frame) → 16 * length frames ≤ used l.program (setting_in l) frames
  frames_few [] = omega arith
  frames_few (frame ∷ callers) = omega (arith, frame_some frame.function, frames_few callers)

pub callers_count : (done : List Frame) (hs : List Held) → length (callers_from done hs) ≡ length done + length hs
callers_count done [] = omega arith
callers_count done (h ∷ hs) = omega (arith, callers_count (frame_of h ∷ done) hs)

pub callers_more : (done : List Frame) (hs : List Held) (h : Held) → callers_from done (hs ++ h ∷ []) ≡ frame_of h ∷ callers_from done hs
callers_more done [] h = refl
callers_more done (x ∷ hs) h = callers_more (frame_of x ∷ done) hs h

-- where a machine stands in a function
module _ (l : Loaded) (spot : Spot) (size : ℕ) (stands : Stands l spot size) (stage : spot.stage ≡ Running) where
  pub here_in : spot.here ≡ context_of l.program (setting_in l) (frame_of spot.frame) (callers_of spot.callers.items)
  here_in = stands.here_is ∙ ap (λ (s : Stage). context_in l (phase_of s spot.frame spot.callers.items)) stage

  pub held_in : AreHeld l (frame_of spot.frame ∷ callers_of spot.callers.items)
  held_in = subst (λ (s : Stage). AreHeld l (frames_of (phase_of s spot.frame spot.callers.items))) stage stands.held
