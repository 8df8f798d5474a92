-- What comes next in a function may be done where a machine stands.
use Rattle.std.proofs.Common.{◌≡◌, ◌≤◌, ℕ, ◌+◌, ◌-◌, ◌*◌, ◌/◌, List, ◌∷◌, length, refl, sym, ap, ◌∙◌, subst, arith}
use Rattle.porch_types.specs.declared.shapes.Ty.{Ty}
use Rattle.porch_layout.specs.declared.layout.Layout.{Layout}
use Rattle.porch_metrics.specs.Places.{Measures}
use Rattle.porch_heap.specs.Blocks.{HeapState}
use Rattle.porch_bytes.specs.Memory.{heap_begin, stack_begin, frame_size}
use Rattle.porch_instructions.specs.declared.instruction.Context.{Context}
use Rattle.porch_instructions.specs.Instructions.{AreParts}
use Rattle.porch_instructions.specs.Resolved.{context_of}
use Rattle.porch_operations.specs.declared.operation.Operation.{Operation}
use Rattle.porch_operations.specs.Operations.{Work, work, performed}
use Rattle.porch_operations.specs.Resolved.{measures_of, work_of, next_after}
use Rattle.porch_load.specs.declared.loaded.Loaded.{Loaded}
use Rattle.porch_load.specs.Sound.{IsSound, SoundHolds}
use Rattle.porch_load.specs.Loaded.{setting_in, IsLoaded}
use Rattle.porch_stack.specs.declared.spot.Spot.{Spot}
use Rattle.porch_stack.specs.declared.spot.Stage.TheVariants.{Running}
use Rattle.porch_stack.specs.Holding.{frame_of, callers_of, state_of, Stands}
use Rattle.porch_stack.specs.Next.{DoesNext}
use Rattle.porch_stack.specs.Doing.{IsHeapOf, StepsBy, MayBeDone, NextMayBeDone}
use Rattle.porch_stack.proofs.Geometry.{here_in, held_in, frame_lies, are_parts, used_fits}
use Rattle.porch_stack.proofs.InFrame.{size_of}
use Rattle.porch_stack.proofs.InFunction.{next_in_function}

long_memory : (b s h : ℕ) → 4096 ≤ s → 64 ≤ (b + s + 16 + (16 - 1)) / 16 * 16 + h
long_memory b s h k = omega (arith, k)

-- what is measured and what a heap is, as the definitions of the bytes have them
measures_are : (m n : Measures) → m.types ≡ n.types → m.layout ≡ n.layout → m ≡ n
measures_are m n e f =
    let by_types : List Ty → Measures = λ types. record { types = types; layout = m.layout } in
    let by_layout : Layout → Measures = λ layout. record { types = n.types; layout = layout } in
    ap by_types e ∙ ap by_layout f

heap_is : (h : HeapState) (base bytes : ℕ) → h.base ≡ base → h.bytes ≡ bytes → record { base = base; bytes = bytes; blocks = h.blocks } ≡ h
heap_is h base bytes e f =
    let by_base : ℕ → HeapState = λ at. record { base = at; bytes = bytes; blocks = h.blocks } in
    let by_bytes : ℕ → HeapState = λ n. record { base = h.base; bytes = n; blocks = h.blocks } in
    ap by_base (sym e) ∙ ap by_bytes (sym f)

module _ (l : Loaded) (loaded : IsLoaded l) (spot : Spot) (memory : List ℕ) (o : Operation) (stage : spot.stage ≡ Running) (stands : Stands l spot (length memory))
    (does : DoesNext l (frame_of spot.frame) o) where
  here : spot.here ≡ context_of l.program (setting_in l) (frame_of spot.frame) (callers_of spot.callers.items)
  here = here_in l spot (length memory) stands stage

  lies : spot.here.at + does.body.size ≤ length memory
  lies =
      let frame : spot.frame.at + frame_size l.metrics.layout l.program spot.frame.function ≤ length memory =
      frame_lies l loaded (frame_of spot.frame) (callers_of spot.callers.items) memory (held_in l spot (length memory) stands stage).0 stands.memory_is in
      let size : does.body.size ≡ frame_size l.metrics.layout l.program spot.frame.function = size_of l loaded spot.frame.function does.body does.body_is in
      let at : spot.here.at ≡ spot.frame.at = ap (λ (x : Context). x.at) here in
      omega (arith, frame, size, at)

  parts_are : AreParts spot.here.parts memory
  parts_are =
      subst (λ (x : Context). AreParts x.parts memory) (sym here)
      (are_parts l loaded (frame_of spot.frame ∷ callers_of spot.callers.items) memory
      (used_fits l loaded (frame_of spot.frame ∷ callers_of spot.callers.items) (held_in l spot (length memory) stands stage)) stands.memory_is)

  sound_here : IsSound does.body.size spot.here.widths l.metrics o
  sound_here = subst (λ (x : Context). IsSound does.body.size x.widths l.metrics o) (sym here) does.sound

  measured : measures_of l.program (setting_in l) ≡ l.metrics
  measured = sym (measures_are l.metrics (measures_of l.program (setting_in l)) loaded.measured.types_are refl)

  steps : (w : Work) → IsHeapOf l w.heap → StepsBy l spot does.arguments w (performed spot.here l.metrics o w)
  steps w h =
      next_in_function l spot w stage
      ∙ does.same (callers_of spot.callers.items) (state_of spot w)
      ∙ ap (λ (x : Context). next_after l.program (setting_in l) (frame_of spot.frame) (callers_of spot.callers.items) does.arguments (state_of spot w)
      (performed x (measures_of l.program (setting_in l)) o (work_of l.program (setting_in l) (state_of spot w)))) (sym here)
      ∙ ap (λ (x : Measures). next_after l.program (setting_in l) (frame_of spot.frame) (callers_of spot.callers.items) does.arguments (state_of spot w)
      (performed spot.here x o (work_of l.program (setting_in l) (state_of spot w)))) measured
      ∙ ap (λ (x : HeapState). next_after l.program (setting_in l) (frame_of spot.frame) (callers_of spot.callers.items) does.arguments (state_of spot w)
      (performed spot.here l.metrics o (work w.memory x w.shown))) (heap_is w.heap (heap_begin l.metrics.layout l.program l.stack) l.heap h.base_is h.bytes_are)

  may : SoundHolds → MayBeDone l spot memory o
  may law = record {
    near = does.few;
    long = subst (λ (n : ℕ). 64 ≤ n) (sym stands.memory_is) (long_memory (stack_begin l.metrics.layout l.program) l.stack l.heap loaded.allowed.stack_least);
    holds = law spot.here l.metrics memory does.body.size o lies sound_here;
    parts = parts_are;
    arguments = does.arguments;
    same = steps;
  }

pub may_be_done : SoundHolds → NextMayBeDone
may_be_done law l spot memory o loaded stage stands does = may l loaded spot memory o stage stands does law
