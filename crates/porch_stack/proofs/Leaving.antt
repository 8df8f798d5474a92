-- A return is what the column says.
use Rattle.std.proofs.Common.{◌≡◌, ◌<◌, ◌≤◌, ℕ, ◌+◌, ◌*◌, ◌^◌, List, [], ◌∷◌, ◌++◌, length, refl, sym, ap, ◌∙◌, subst, arith, Bool, Option, Some, None}
use Rattle.std.specs.Prelude.{ℤ, pos, IsTrue, IfSome, slice_get, unwrap_or, vec_capacity}
use Rattle.std.specs.Option.{option_map}
use Rattle.porch_bytes.specs.Memory.{frame_size}
use Rattle.porch_bytes.specs.Shapes.{size_in, with_number_in}
use Rattle.porch_bytes.specs.State.{Frame, Phase, running, over, State}
use Rattle.porch_bytes.specs.Column.{Goes, Ends, next, after, returned, with_result, with_variable, code_of, stack_end}
use Rattle.porch_instructions.specs.declared.instruction.Cell.{Cell}
use Rattle.porch_instructions.specs.declared.instruction.Source.{Source}
use Rattle.porch_instructions.specs.declared.instruction.Context.{Context}
use Rattle.porch_instructions.specs.Instructions.{source_value}
use Rattle.porch_instructions.specs.Resolved.{context_of, IsCellIn}
use Rattle.porch_instructions.specs.Variables.{CellsAreVariables}
use Rattle.porch_operations.specs.declared.operation.Operation.TheVariants as operation
use Rattle.porch_operations.specs.Operations.{Work, work}
use Rattle.porch_load.specs.declared.body.Body.{Body}
use Rattle.porch_load.specs.declared.loaded.Loaded.{Loaded}
use Rattle.porch_load.specs.Bodies.{IsBody}
use Rattle.porch_load.specs.Calls.{HasCell}
use Rattle.porch_load.specs.Loaded.{setting_in, IsLoaded, ReturnsInt, is_int}
use Rattle.porch_stack.specs.declared.spot.Held.{Held}
use Rattle.porch_stack.specs.declared.spot.Stage.{Stage}
use Rattle.porch_stack.specs.declared.spot.Stage.TheVariants.{Running, Over}
use Rattle.porch_stack.specs.declared.spot.Spot.{Spot}
use Rattle.porch_stack.specs.Holding.{frame_of, callers_of, phase_of, phase_in, state_of, left_context, ReturnsPass, AreInts, HasInto, IsOutermost, AreIdle, AreHeld, Stands}
use Rattle.porch_stack.specs.Next.{DoesNext}
use Rattle.porch_stack.proofs.Geometry.{here_in, held_in, callers_more, frame_lies}
use Rattle.porch_stack.proofs.NextOperation.{is_body}
use Rattle.porch_stack.proofs.InFunction.{next_in_function}
use Rattle.porch_stack.proofs.Found.{cell_in}
use Rattle.porch_stack.proofs.Entering.{same_state}
use Rattle.porch_stack.proofs.Standing.{moved, stands_in, phase_is, idle_running}

same_body : (a b : Body) → Some a ≡ Some b → a ≡ b
same_body a b h = cc

module _ (l : Loaded) (loaded : IsLoaded l) (spot : Spot) (size : ℕ) (stage : spot.stage ≡ Running) (stands : Stands l spot size) (value : Option ℤ) where
  module _ (caller : Held) (rest : List Held) (items : spot.callers.items ≡ rest ++ caller ∷ []) where
    callers_are : callers_of spot.callers.items ≡ frame_of caller ∷ callers_of rest
    callers_are = ap (λ (hs : List Held). callers_of hs) items ∙ callers_more [] rest caller

    pub held_rest : AreHeld l (frame_of spot.frame ∷ frame_of caller ∷ callers_of rest)
    held_rest = subst (λ (cs : List Frame). AreHeld l (frame_of spot.frame ∷ cs)) callers_are (held_in l spot size stands stage)

    pub caller_within : caller.function < length l.bodies.items
    caller_within = held_rest.1.0.within

    pub caller_has : (body : Body) → slice_get l.bodies.items caller.function ≡ Some body → HasCell body spot.frame.into
    caller_has body h =
        let has : HasInto l (frame_of caller ∷ callers_of rest) spot.frame.into = held_rest.0.into_has in
        subst (λ (b : Body). HasCell b spot.frame.into) (same_body has.0 body (sym has.1.0 ∙ h)) has.1.1

    pub caller_lies : (memory : List ℕ) → length memory ≡ size → caller.at + frame_size l.metrics.layout l.program caller.function ≤ length memory
    caller_lies memory e = frame_lies l loaded (frame_of caller) (callers_of rest) memory held_rest.1.0 (e ∙ stands.memory_is)

    module _ (new : Spot) (stage_is : new.stage ≡ Running) (frame_is : new.frame ≡ caller) (new_items : new.callers.items ≡ rest) where
      pub back_column : (w : Work) (memory : List ℕ) → new.turns ≡ spot.turns → memory ≡ with_result l.program (setting_in l) (frame_of caller) spot.frame.into value w.memory
          → returned l.program (setting_in l) spot.frame.into (callers_of spot.callers.items) value (state_of spot w) ≡ Goes (state_of new (work memory w.heap w.shown))
      back_column w memory turns_is memory_is =
          ap (λ (cs : List Frame). returned l.program (setting_in l) spot.frame.into cs value (state_of spot w)) callers_are
          ∙ same_state (with_result l.program (setting_in l) (frame_of caller) spot.frame.into value w.memory) memory (running (frame_of caller) (callers_of rest)) (phase_in new) spot.turns new.turns
          w.heap.blocks w.shown (sym memory_is) (sym (phase_is new caller rest stage_is frame_is new_items)) (sym turns_is)

      pub back_stands : new.here ≡ left_context spot caller.at → vec_capacity spot.callers ≤ vec_capacity new.callers → Stands l new size
      back_stands here_is capacity =
          stands_in l new size (running (frame_of caller) (callers_of rest)) (phase_is new caller rest stage_is frame_is new_items) stands.memory_is
          (here_is ∙ moved l spot.here (frame_of spot.frame ∷ callers_of spot.callers.items) (frame_of caller ∷ callers_of rest) spot.frame.at caller.at spot.frame.at (here_in l spot size stands stage) held_rest.0.at_is)
          held_rest.1 (idle_running new stage_is) (omega (arith, stands.callers_room, capacity))

  module _ (none : spot.callers.items ≡ []) (new : Spot) (stage_is : new.stage ≡ Over) where
    over_phase : phase_in new ≡ over
    over_phase = ap (λ (s : Stage). phase_of s new.frame new.callers.items) stage_is

    pub end_column : (w : Work) (z : ℤ) → new.turns ≡ spot.turns → z ≡ unwrap_or value (pos 0)
        → returned l.program (setting_in l) spot.frame.into (callers_of spot.callers.items) value (state_of spot w) ≡ Ends z (state_of new w)
    end_column w z turns_is z_is =
        ap (λ (hs : List Held). returned l.program (setting_in l) spot.frame.into (callers_of hs) value (state_of spot w)) none
        ∙ ap (λ (x : ℤ). Ends x (record (state_of spot w) { phase = over })) (sym z_is)
        ∙ ap (λ (p : Phase). Ends z (record (state_of spot w) { phase = p })) (sym over_phase)
        ∙ ap (λ (t : ℕ). Ends z (record (state_of spot w) { phase = phase_in new; turns = t })) (sym turns_is)

    pub end_stands : new.here ≡ left_context spot 0 → vec_capacity spot.callers ≤ vec_capacity new.callers → Stands l new size
    end_stands here_is capacity =
        let held : AreHeld l (frame_of spot.frame ∷ callers_of spot.callers.items) = held_in l spot size stands stage in
        let at : spot.frame.at ≡ stack_end l.program (setting_in l) [] = held.0.at_is ∙ ap (λ (hs : List Held). stack_end l.program (setting_in l) (callers_of hs)) none in
        stands_in l new size over over_phase stands.memory_is
        (here_is ∙ moved l spot.here (frame_of spot.frame ∷ callers_of spot.callers.items) [] spot.frame.at 0 spot.frame.at (here_in l spot size stands stage) at)
        tt (subst (λ (s : Stage). AreIdle s new.callers.items) (sym stage_is) tt) (omega (arith, stands.callers_room, capacity))

  -- the end of a function, after its last command
  pub ends_column : (w : Work) → slice_get (code_of l.program (setting_in l) spot.frame.function) spot.frame.next ≡ None
      → next l.program (setting_in l) (state_of spot w) ≡ returned l.program (setting_in l) spot.frame.into (callers_of spot.callers.items) None (state_of spot w)
  ends_column w h =
      next_in_function l spot w stage ∙ ap (λ o. after l.program (setting_in l) (frame_of spot.frame) (callers_of spot.callers.items) o (state_of spot w)) h

  pub return_column : (w : Work) (source : Option Source) → DoesNext l (frame_of spot.frame) (operation.Return source) → value ≡ option_map (λ (s : Source). source_value spot.here s w.memory) source
      → next l.program (setting_in l) (state_of spot w) ≡ returned l.program (setting_in l) spot.frame.into (callers_of spot.callers.items) value (state_of spot w)
  return_column w source does value_is =
      next_in_function l spot w stage
      ∙ does.same (callers_of spot.callers.items) (state_of spot w)
      ∙ ap (λ (c : Context). returned l.program (setting_in l) spot.frame.into (callers_of spot.callers.items) (option_map (λ (s : Source). source_value c s w.memory) source) (state_of spot w))
      (sym (here_in l spot size stands stage))
      ∙ ap (λ (v : Option ℤ). returned l.program (setting_in l) spot.frame.into (callers_of spot.callers.items) v (state_of spot w)) (sym value_is)

  are_ints : (callers : List Frame) → IsOutermost l (frame_of spot.frame) callers → (spot.frame.function ≡ l.main → IfSome value (λ z. IsTrue (is_int z))) → AreInts callers value
  are_ints [] main h = h main
  are_ints (c ∷ cs) main h = tt

  ints_pass : (source : Option Source) → ReturnsInt (operation.Return source) → ReturnsPass is_int source
  ints_pass None h = tt
  ints_pass (Some source) h = h.passes

  pub return_ints : (source : Option Source) → DoesNext l (frame_of spot.frame) (operation.Return source)
      → ((test : ℤ → Bool) → ReturnsPass test source → IfSome value (λ z. IsTrue (test z))) → AreInts (callers_of spot.callers.items) value
  return_ints source does passes =
      are_ints (callers_of spot.callers.items) ((held_in l spot size stands stage).0.outermost) (λ e. passes is_int (ints_pass source (does.ints e)))

pub no_ints : (callers : List Frame) → AreInts callers None
no_ints [] = tt
no_ints (c ∷ cs) = tt

-- the cell of a variable is written as the variable is
module _ (l : Loaded) (loaded : IsLoaded l) (law : CellsAreVariables) (function v : ℕ) (body : Body) (body_is : slice_get l.bodies.items function ≡ Some body) (cell : Cell)
    (cell_is : slice_get body.cells.items v ≡ Some (Some cell)) where
  found : IsBody l.program (setting_in l) function body
  found = is_body l loaded (record { function = function; next = 0; at = 0; into = None }) body body_is

  in_scope : IsCellIn found.scope v cell
  in_scope = cell_in found.scope 0 v v body.cells.items cell found.cells_are cell_is (omega arith)

  pub cell_writes : (at : ℕ) (memory : List ℕ) (z : ℤ)
      → with_variable l.program (setting_in l) function at v memory z ≡ with_number_in l.metrics.layout.big cell.shape memory (at + cell.offset) z
  cell_writes at memory z =
      (law l.program (setting_in l) function found.scope found.scope_is (record { function = function; next = 0; at = at; into = None }) [] refl v cell in_scope).write_is memory z

  pub cell_within : cell.offset + size_in cell.shape ≤ frame_size l.metrics.layout l.program function
  cell_within = omega (arith, in_scope.within, found.scope_is.size_is)
