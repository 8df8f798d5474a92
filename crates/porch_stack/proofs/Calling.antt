-- A call is what the column says.
use Rattle.std.proofs.Common.{◌≡◌, ◌<◌, ◌≤◌, ℕ, ◌+◌, ◌-◌, ◌*◌, ◌^◌, List, [], ◌∷◌, ◌++◌, length, refl, sym, ap, ◌∙◌, subst, arith, Option, Some, None}
use Rattle.std.specs.Prelude.{ℤ, map, replicate, slice_get, take, drop, unwrap_or, vec_capacity}
use Rattle.std.proofs.lemmas.Option.{slice_get_within}
use Rattle.porch_bytes.specs.declared.access.Parts.{Parts}
use Rattle.porch_bytes.specs.Leaf.{spliced}
use Rattle.porch_bytes.specs.Memory.{frame_size, stack_begin}
use Rattle.porch_bytes.specs.State.{Frame, Phase, before, running, widths_of, frames_of, memory_end}
use Rattle.porch_bytes.specs.Column.{Goes, StackIsFull, next, used, stack_end, onward, with_variables, called}
use Rattle.porch_instructions.specs.declared.instruction.Source.{Source}
use Rattle.porch_instructions.specs.declared.instruction.Context.{Context}
use Rattle.porch_instructions.specs.Instructions.{source_value}
use Rattle.porch_instructions.specs.Resolved.{context_of}
use Rattle.porch_operations.specs.declared.operation.Calling.{Calling}
use Rattle.porch_operations.specs.declared.operation.Operation.TheVariants as operation
use Rattle.porch_operations.specs.Operations.{Work, work}
use Rattle.porch_frames.specs.declared.passing.Passing.{Passing}
use Rattle.porch_frames.specs.Passing.{in_frame, passed, ArePassings, ArgumentsArePassed}
use Rattle.porch_load.specs.declared.body.Body.{Body}
use Rattle.porch_load.specs.declared.loaded.Loaded.{Loaded}
use Rattle.porch_load.specs.Bodies.{IsBody}
use Rattle.porch_load.specs.Calls.{ArePassed, HasCell, IsCall, IsLinked}
use Rattle.porch_load.specs.Loaded.{setting_in, IsLoaded}
use Rattle.porch_stack.specs.declared.spot.Held.{Held}
use Rattle.porch_stack.specs.declared.spot.Stage.{Stage}
use Rattle.porch_stack.specs.declared.spot.Stage.TheVariants.{Before, Running}
use Rattle.porch_stack.specs.declared.spot.Spot.{Spot}
use Rattle.porch_stack.specs.Holding.{frame_of, callers_of, phase_of, phase_in, state_of, context_in, entered_at, AreIdle, AreHeld, Stands}
use Rattle.porch_stack.specs.Next.{DoesNext, HasPassings}
use Rattle.porch_stack.proofs.Geometry.{here_in, held_in, used_fits, frames_few, callers_count, callers_more, stack_within}
use Rattle.porch_stack.proofs.NextOperation.{is_body}
use Rattle.porch_stack.proofs.InFunction.{next_in_function}
use Rattle.porch_stack.proofs.Entering.{arguments_in, passings_lie, called_full, called_goes, same_state}
use Rattle.porch_stack.proofs.Standing.{moved, stands_in, held_at, phase_is, idle_running}

module _ (l : Loaded) (loaded : IsLoaded l) (spot : Spot) (size : ℕ) (stage : spot.stage ≡ Running) (stands : Stands l spot size) (calling : Calling)
    (does : DoesNext l (frame_of spot.frame) (operation.Call calling)) where
  -- the frames, the innermost right after the call
  abbrev frames : List Frame
  frames = record (frame_of spot.frame) { next = spot.frame.next + 1 } ∷ callers_of spot.callers.items

  pub end_is : spot.here.parts.stack_end ≡ stack_end l.program (setting_in l) frames
  end_is = ap (λ (c : Context). c.parts.stack_end) (here_in l spot size stands stage)

  pub begin_is : l.map.stack ≡ stack_begin l.metrics.layout l.program
  begin_is = ap (λ (p : Parts). p.stack) loaded.map_is

  pub used_is : used l.program (setting_in l) frames ≤ l.stack
  used_is = used_fits l loaded (frame_of spot.frame ∷ callers_of spot.callers.items) (held_in l spot size stands stage)

  pub full_column : (w : Work) (n left : ℕ) → n ≡ frame_size l.metrics.layout l.program calling.function → left ≡ l.stack - (spot.here.parts.stack_end - l.map.stack) → left < n
      → next l.program (setting_in l) (state_of spot w) ≡ StackIsFull n left
  full_column w n left e f lt =
      next_in_function l spot w stage
      ∙ does.same (callers_of spot.callers.items) (state_of spot w)
      ∙ called_full l calling.function
      (map (λ (s : Source). source_value (context_of l.program (setting_in l) (frame_of spot.frame) (callers_of spot.callers.items)) s w.memory) does.arguments)
      calling.into (onward l.program (setting_in l) (frame_of spot.frame) (callers_of spot.callers.items) (state_of spot w)) n left e
      (omega (arith, f, end_is, begin_is)) lt used_is

  -- the call itself
  call_is : (ps : List Passing) → HasPassings l (frame_of spot.frame) ps → IsCall l.bodies.items does.body calling ps
  call_is ps h = (h does.body (operation.Call calling) does.body_is does.stands).call

  arguments_are : (ps : List Passing) (c : IsCall l.bodies.items does.body calling ps) → ArePassed does.body.size c.callee.cells.items 0 does.arguments ps
  arguments_are ps c = subst (λ (ss : List Source). ArePassed does.body.size c.callee.cells.items 0 ss ps) does.arguments_stand.are c.passed

  callee_is : (ps : List Passing) (c : IsCall l.bodies.items does.body calling ps) → IsBody l.program (setting_in l) calling.function c.callee
  callee_is ps c = is_body l loaded (record { function = calling.function; next = 0; at = 0; into = None }) c.callee c.callee_is

  pub callee_within : (ps : List Passing) → HasPassings l (frame_of spot.frame) ps → calling.function < length l.bodies.items
  callee_within ps h = slice_get_within l.bodies.items calling.function (call_is ps h).callee (call_is ps h).callee_is

  pub passings_fit : (ps : List Passing) (n : ℕ) → HasPassings l (frame_of spot.frame) ps → n ≡ frame_size l.metrics.layout l.program calling.function
      → ArePassings spot.here spot.here.parts.stack_end n ps
  passings_fit ps n h e =
      let c : IsCall l.bodies.items does.body calling ps = call_is ps h in
      let b : IsBody l.program (setting_in l) calling.function c.callee = callee_is ps c in
      let mine : does.body.size ≡ frame_size l.metrics.layout l.program spot.frame.function = (is_body l loaded (frame_of spot.frame) does.body does.body_is).size_is in
      let here : spot.here.at ≡ spot.frame.at = ap (λ (x : Context). x.at) (here_in l spot size stands stage) in
      let at : spot.frame.at ≡ stack_end l.program (setting_in l) (callers_of spot.callers.items) = (held_in l spot size stands stage).0.at_is in
      subst (λ (k : ℕ). ArePassings spot.here spot.here.parts.stack_end k ps) (b.scope_is.size_is ∙ sym e)
      (passings_lie does.body.size c.callee.cells.items b.scope b.cells_are spot.here spot.here.parts.stack_end (omega (arith, mine, here, at, end_is)) 0 does.arguments ps (arguments_are ps c))

  module _ (law : ArgumentsArePassed) (ps : List Passing) (has : HasPassings l (frame_of spot.frame) ps) (n left : ℕ) (e : n ≡ frame_size l.metrics.layout l.program calling.function)
      (f : left ≡ l.stack - (spot.here.parts.stack_end - l.map.stack)) (fits : n ≤ left) where
    fit_is : used l.program (setting_in l) frames + frame_size l.metrics.layout l.program calling.function ≤ l.stack
    fit_is = omega (arith, e, f, fits, end_is, begin_is, used_is)

    pub room : length spot.callers.items < vec_capacity spot.callers
    room = omega (arith, fit_is, frames_few l loaded frames, callers_count [] spot.callers.items, stands.callers_room)

    pub frame_within : size ≡ memory_end l.program (setting_in l) → spot.here.parts.stack_end + n ≤ size
    frame_within m =
        let frame : Frame = record { function = calling.function; next = 0; at = 0; into = None } in
        let within : stack_end l.program (setting_in l) (frame ∷ frames) ≤ memory_end l.program (setting_in l) = stack_within l loaded (frame ∷ frames) (omega (arith, fit_is)) in
        omega (arith, within, e, m, end_is)

    module _ (new : Spot) (stage_is : new.stage ≡ Running) (callers_is : new.callers.items ≡ spot.callers.items ++ record spot.frame { next = spot.frame.next + 1 } ∷ [])
        (frame_is : new.frame ≡ record { function = calling.function; next = 0; at = spot.here.parts.stack_end; into = calling.into }) where
      abbrev entered_frame : Frame
      entered_frame = record { function = calling.function; next = 0; at = stack_end l.program (setting_in l) frames; into = calling.into }

      new_phase : phase_in new ≡ running entered_frame frames
      new_phase =
          phase_is new (record { function = calling.function; next = 0; at = spot.here.parts.stack_end; into = calling.into }) (spot.callers.items ++ record spot.frame { next = spot.frame.next + 1 } ∷ [])
          stage_is frame_is callers_is
          ∙ ap (λ (cs : List Frame). running (record { function = calling.function; next = 0; at = spot.here.parts.stack_end; into = calling.into }) cs)
          (callers_more [] spot.callers.items (record spot.frame { next = spot.frame.next + 1 }))
          ∙ ap (λ (at : ℕ). running (record { function = calling.function; next = 0; at = at; into = calling.into }) frames) end_is

      pub goes_column : (w : Work) (memory : List ℕ) → new.turns ≡ spot.turns + 1
          → memory ≡ passed spot.here (in_frame spot.here spot.here.parts.stack_end) ps w.memory (spliced w.memory spot.here.parts.stack_end (replicate n 0))
          → next l.program (setting_in l) (state_of spot w) ≡ Goes (state_of new (work memory w.heap w.shown))
      goes_column w memory turns_is memory_is =
          let here : spot.here ≡ context_of l.program (setting_in l) (frame_of spot.frame) (callers_of spot.callers.items) = here_in l spot size stands stage in
          let c : IsCall l.bodies.items does.body calling ps = call_is ps has in
          next_in_function l spot w stage
          ∙ does.same (callers_of spot.callers.items) (state_of spot w)
          ∙ called_goes l calling.function
          (map (λ (s : Source). source_value (context_of l.program (setting_in l) (frame_of spot.frame) (callers_of spot.callers.items)) s w.memory) does.arguments)
          calling.into (onward l.program (setting_in l) (frame_of spot.frame) (callers_of spot.callers.items) (state_of spot w)) fit_is
          ∙ same_state
          (with_variables l.program (setting_in l) calling.function (stack_end l.program (setting_in l) frames) 0
          (spliced w.memory (stack_end l.program (setting_in l) frames) (replicate (frame_size l.metrics.layout l.program calling.function) 0))
          (map (λ (s : Source). source_value (context_of l.program (setting_in l) (frame_of spot.frame) (callers_of spot.callers.items)) s w.memory) does.arguments))
          memory (running entered_frame frames) (phase_in new) (spot.turns + 1) new.turns w.heap.blocks w.shown
          (ap (λ (x : Context). with_variables l.program (setting_in l) calling.function (stack_end l.program (setting_in l) frames) 0
          (spliced w.memory (stack_end l.program (setting_in l) frames) (replicate (frame_size l.metrics.layout l.program calling.function) 0))
          (map (λ (s : Source). source_value x s w.memory) does.arguments)) (sym here)
          ∙ arguments_in l law calling.function c.callee (callee_is ps c) spot.here (stack_end l.program (setting_in l) frames) does.body.size n calling.into frames does.arguments ps w.memory
          (ap (λ (x : Context). x.big) here) e (arguments_are ps c)
          ∙ ap (λ (at : ℕ). passed spot.here (in_frame spot.here at) ps w.memory (spliced w.memory at (replicate n 0))) (sym end_is)
          ∙ sym memory_is)
          (sym new_phase) (sym turns_is)

      pub call_stands : new.here ≡ record spot.here { at = spot.here.parts.stack_end; parts = record spot.here.parts { stack_end = spot.here.parts.stack_end + n } }
          → vec_capacity spot.callers ≤ vec_capacity new.callers → Stands l new size
      call_stands here_is capacity =
          stands_in l new size (running entered_frame frames) new_phase stands.memory_is
          (here_is
          ∙ moved l spot.here (frame_of spot.frame ∷ callers_of spot.callers.items) (entered_frame ∷ frames) spot.frame.at spot.here.parts.stack_end (spot.here.parts.stack_end + n)
          (here_in l spot size stands stage) (omega (arith, end_is, e))
          ∙ ap (λ (at : ℕ). record (context_of l.program (setting_in l) entered_frame frames) { at = at }) end_is) (
            record {
              within = callee_within ps has;
              at_is = refl;
              fits = omega (arith, fit_is);
              into_has = (does.body, (does.body_is, (call_is ps has).into_has));
              outermost = tt;
            },
            held_at l (frame_of spot.frame) (callers_of spot.callers.items) (spot.frame.next + 1) (held_in l spot size stands stage),
          )
          (idle_running new stage_is) (omega (arith, stands.callers_room, capacity))

-- The call of main, before turn 1.
module _ (l : Loaded) (loaded : IsLoaded l) (spot : Spot) (size : ℕ) (stage : spot.stage ≡ Before) (stands : Stands l spot size) where
  before_here : spot.here ≡ context_in l before
  before_here = stands.here_is ∙ ap (λ (s : Stage). context_in l (phase_of s spot.frame spot.callers.items)) stage

  no_callers : spot.callers.items ≡ []
  no_callers = subst (λ (s : Stage). AreIdle s spot.callers.items) stage stands.idle

  pub main_end : spot.here.parts.stack_end ≡ stack_end l.program (setting_in l) []
  main_end = ap (λ (c : Context). c.parts.stack_end) before_here

  next_main : (w : Work) → next l.program (setting_in l) (state_of spot w) ≡ called l.program (setting_in l) l.main [] None (state_of (record spot { stage = Before }) w)
  next_main w =
      subst (λ (s : Stage). next l.program (setting_in l) (state_of (record spot { stage = s }) w) ≡ called l.program (setting_in l) l.main [] None (state_of (record spot { stage = Before }) w))
      (sym stage) (ap (λ (o : Option ℕ). called l.program (setting_in l) (unwrap_or o 0) [] None (state_of (record spot { stage = Before }) w)) loaded.main_is.main_is)

  pub main_full : (w : Work) (n : ℕ) → n ≡ frame_size l.metrics.layout l.program l.main → l.stack < n → next l.program (setting_in l) (state_of spot w) ≡ StackIsFull n l.stack
  main_full w n e lt = next_main w ∙ called_full l l.main [] None (state_of (record spot { stage = Before }) w) n l.stack e (omega arith) lt (omega arith)

  module _ (n : ℕ) (e : n ≡ frame_size l.metrics.layout l.program l.main) (fits : n ≤ l.stack) where
    pub main_within : size ≡ memory_end l.program (setting_in l) → spot.here.parts.stack_end + n ≤ size
    main_within m =
        let frame : Frame = record { function = l.main; next = 0; at = 0; into = None } in
        let within : stack_end l.program (setting_in l) (frame ∷ []) ≤ memory_end l.program (setting_in l) = stack_within l loaded (frame ∷ []) (omega (arith, e, fits)) in
        omega (arith, within, e, m, main_end)

    abbrev main_frame : Frame
    main_frame = record { function = l.main; next = 0; at = stack_end l.program (setting_in l) []; into = None }

    module _ (new : Spot) (new_is : new ≡ entered_at l.main spot.here.parts.stack_end None n spot) where
      main_phase : phase_in new ≡ running main_frame []
      main_phase =
          ap (λ (x : Spot). phase_in x) new_is
          ∙ ap (λ (hs : List Held). running (record { function = l.main; next = 0; at = spot.here.parts.stack_end; into = None }) (callers_of hs)) no_callers
          ∙ ap (λ (at : ℕ). running (record { function = l.main; next = 0; at = at; into = None }) []) main_end

      pub main_goes : (w : Work) (memory : List ℕ) → memory ≡ spliced w.memory spot.here.parts.stack_end (replicate n 0)
          → next l.program (setting_in l) (state_of spot w) ≡ Goes (state_of new (work memory w.heap w.shown))
      main_goes w memory memory_is =
          next_main w
          ∙ called_goes l l.main [] None (state_of (record spot { stage = Before }) w) (omega (arith, e, fits))
          ∙ same_state (spliced w.memory (stack_end l.program (setting_in l) []) (replicate (frame_size l.metrics.layout l.program l.main) 0)) memory (running main_frame []) (phase_in new)
          (spot.turns + 1) new.turns w.heap.blocks w.shown
          (ap (λ (at : ℕ). spliced w.memory at (replicate (frame_size l.metrics.layout l.program l.main) 0)) (sym main_end)
          ∙ ap (λ (k : ℕ). spliced w.memory spot.here.parts.stack_end (replicate k 0)) (sym e) ∙ sym memory_is)
          (sym main_phase) (sym (ap (λ (x : Spot). x.turns) new_is))

      pub main_stands : Stands l new size
      main_stands =
          stands_in l new size (running main_frame []) main_phase stands.memory_is
          (ap (λ (x : Spot). x.here) new_is
          ∙ moved l spot.here [] (main_frame ∷ []) 0 spot.here.parts.stack_end (spot.here.parts.stack_end + n) before_here (omega (arith, main_end, e))
          ∙ ap (λ (at : ℕ). record (context_of l.program (setting_in l) main_frame []) { at = at }) main_end) (
            record {
              within = slice_get_within l.bodies.items l.main loaded.main_is.body loaded.main_is.body_is;
              at_is = refl;
              fits = omega (arith, e, fits);
              into_has = tt;
              outermost = refl;
            },
            tt,
          )
          (idle_running new (ap (λ (x : Spot). x.stage) new_is)) (subst (λ (x : Spot). l.stack < 16 * vec_capacity x.callers + 16) (sym new_is) stands.callers_room)
