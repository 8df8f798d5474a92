-- Each run of a valid program comes to an end: by the turns that are left, then by the frames, and then by the commands that
-- are left of the innermost one's function. A call counts a turn, and a jump backward leads to a label and a TURN.
use Rattle.std.proofs.Common.{◌≡◌, ◌<◌, ◌≤◌, inl, inr, ℕ, zero, suc, ◌+◌, ℤ, pos, List, [], ◌∷◌, length, refl, subst, arith, Option, Some, None, Result, Ok, Err, Bool, true, false}
use Rattle.std.specs.Prelude.{slice_get, if◌then◌else◌, nat_le, unwrap_or}
use Rattle.std.specs.Ordering.{int_eq}
use Rattle.std.proofs.lemmas.Bool.Decides.{nat_tests}
use Rattle.porch_types.specs.declared.shapes.Ty.{Ty}
use Rattle.porch_types.specs.declared.shapes.Ty.TheVariants.{Whole, Pointer, Array, Struct}
use Rattle.porch_types.specs.Leaves.{leaves_of}
use Rattle.porch_values.specs.declared.acts.Act.{Act}
use Rattle.porch_values.specs.Integers.{applied, converted, complemented}
use Rattle.porch_objects.specs.Store.{Value, number, null, pointer, past, indeterminate, left, reached_one, forgotten, variable_home}
use Rattle.porch_objects.specs.Pointers as pointers
use Rattle.porch_objects.specs.Meaning.{Environment, Ending, Ended, Met, Paused}
use Rattle.porch_flat.specs.declared.flat.Operand.{Operand}
use Rattle.porch_flat.specs.declared.whole.Comparison.{Comparison}
use Rattle.porch_flat.specs.declared.whole.Command.{Command}
use Rattle.porch_flat.specs.declared.whole.Function.{Function}
use Rattle.porch_flat.specs.declared.whole.Flat.{Flat}
use Rattle.porch_flat.specs.declared.whole.Sort.{Sort}
use Rattle.porch_flat.specs.whole.Form as form
use Rattle.porch_flat.specs.whole.Form.{Form, form_of, jump_of}
use Rattle.porch_flat.specs.whole.Places.{CHAR, commands_of, place_of_label, main_of, pointed, type_at}
use Rattle.porch_flat.specs.whole.Rules.{IsValid, leads_well}
use Rattle.porch_abstract.specs.Machine.{State, Frame, Phase, before, running, over, Next, Goes, Ends, Meets, with_phase, with_store, turned, put, determined, counted, resulted, received, returned}
use Rattle.porch_abstract.specs.whole.Machine.{operand_of, variable_of, shown, text_of, length_of, int_of, if_ok, all_determined, pointers_compare, compares, kind_in, var_type, pointee_in, forward, called, onward, at_label, subobject, compared, type_compared, argument_values, gives, does, next}
use Rattle.porch_abstract.specs.whole.Run.{is_paused, counts_turn, counts, run_to, then_on, RunsEnd}
use Rattle.porch_abstract.proofs.WholeLines.{Stands, Leads, label_at, leads, leads_in}

below : (n t : ℕ) → nat_le n t ≡ false → t < n
below n t h = grind (arith, nat_tests)

behind_all : (commands : List Command) (place : ℕ) → length commands ≤ place → slice_get commands place ≡ None
behind_all [] place h = refl
behind_all (c ∷ commands) zero h = absurd (omega (arith, h))
behind_all (c ∷ commands) (suc place) h = behind_all commands place (omega (arith, h))

module _ (flat : Flat) (under : Environment) (n : ℕ) where
  -- the run from a state has an end
  pub record IsOver (s : State) : Type 0 where
    pub last : State
    pub ending : Ending
    pub steps : ℕ
    pub ends : run_to flat under n steps s ≡ Some (last, ending)

  -- the run has an end behind a step that leads there
  abbrev HasEnd : Next → Type 0
  HasEnd (Goes to) = IsOver to
  HasEnd (Ends z to) = Unit {0}
  HasEnd (Meets a) = Unit {0}

  record IsOverBehind (s : State) (r : Next) : Type 0 where
    last : State
    ending : Ending
    steps : ℕ
    ends : then_on flat under s r (λ to. run_to flat under n steps to) ≡ Some (last, ending)

  over_behind : (s : State) (r : Next) → HasEnd r → IsOverBehind s r
  over_behind s (Goes to) h = record { last = h.last; ending = h.ending; steps = h.steps; ends = h.ends }
  over_behind s (Ends z to) h = record { last = to; ending = Ended z; steps = 0; ends = refl }
  over_behind s (Meets a) h = record { last = s; ending = Met a; steps = 0; ends = refl }

  over_if : (s : State) (b : Bool) → is_paused flat under n s ≡ b → (b ≡ false → HasEnd (next flat under s)) → IsOver s
  over_if s true is h = record { last = s; ending = Paused; steps = 1; ends = rw is refl }
  over_if s false is h =
      let o = over_behind s (next flat under s) (h refl) in record { last = o.last; ending = o.ending; steps = suc o.steps; ends = rw is o.ends }

  if_determined : (v : Value) (go : Value → Next) → ((x : Value) → HasEnd (go x)) → HasEnd (determined v go)
  if_determined (number z) go h = h (number z)
  if_determined null go h = h null
  if_determined (pointer home leaf) go h = h (pointer home leaf)
  if_determined (past home leaf until) go h = h (past home leaf until)
  if_determined indeterminate go h = tt

  if_all_determined : (vs : List Value) (go : List Value → Next) → ((xs : List Value) → HasEnd (go xs)) → HasEnd (all_determined vs go)
  if_all_determined [] go h = h []
  if_all_determined (v ∷ vs) go h = if_determined v _ (λ x. if_all_determined vs (λ xs. go (x ∷ xs)) (λ xs. h (x ∷ xs)))

  if_counted : (v : Value) (go : ℤ → Next) → ((z : ℤ) → HasEnd (go z)) → HasEnd (counted v go)
  if_counted (number z) go h = h z
  if_counted null go h = tt
  if_counted (pointer home leaf) go h = tt
  if_counted (past home leaf until) go h = tt
  if_counted indeterminate go h = tt

  if_resulted : (r : Result ℤ Act) (go : ℤ → Next) → ((z : ℤ) → HasEnd (go z)) → HasEnd (resulted r go)
  if_resulted (Ok z) go h = h z
  if_resulted (Err a) go h = tt

  if_done : {A : Type 0} (r : Result A Act) (go : A → Next) → ((x : A) → HasEnd (go x)) → HasEnd (if_ok r go)
  if_done (Ok x) go h = h x
  if_done (Err a) go h = tt

  either : (b : Bool) (x y : Next) → HasEnd x → HasEnd y → HasEnd (if b then x else y)
  either true x y h k = h
  either false x y h k = k

  abbrev in_frames : Frame → List Frame → State → State
  in_frames frame callers s = with_phase s (running frame callers)

  -- each jump of a function leads where it may
  abbrev JumpsWell : List Command → Type 0
  JumpsWell commands = (i : ℕ) (c : Command) → slice_get commands i ≡ Some c → (k : ℕ) → jump_of (form_of c) ≡ Some k → Leads commands i k

  -- so many turns are left at most, and with fewer there is an end
  module _ (m : ℕ) (fewer : (frame : Frame) (callers : List Frame) (s : State) → n + 1 ≤ s.turns + m → s.turns ≤ n → IsOver (in_frames frame callers s)) where
    -- a function of the program, called by these frames, which come to an end when it returns
    module _ (function : ℕ) (into : Option ℕ) (callers : List Frame) (popped : (frame : Frame) (v : Value) (s : State) → n ≤ s.turns + m → HasEnd (returned frame callers v s)) where
      abbrev commands : List Command
      commands = commands_of (slice_get flat.functions function)

      abbrev frame_at : ℕ → Frame
      frame_at place = record { function = function; next = place; into = into }

      abbrev state_at : ℕ → State → State
      state_at place s = in_frames (frame_at place) callers s

      abbrev led : ℕ → State → Form → Next
      led place s f = does flat under (frame_at place) callers f (state_at place s)

      -- a command that counts a turn
      turn_by : (place : ℕ) (s : State) (c : Command) (b : Bool) → slice_get commands place ≡ Some c → counts (Some c) ≡ true → nat_le n s.turns ≡ b
          → (s.turns < n → HasEnd (led place s (form_of c))) → IsOver (state_at place s)
      turn_by place s c true is turns used h = over_if (state_at place s) true (rw (is, turns, used) refl) (λ e. absurd (cc))
      turn_by place s c false is turns used h = over_if (state_at place s) false (rw (is, turns, used) refl) (λ e. rw is (h (below n s.turns used)))

      turns_on : (place : ℕ) (s : State) → n ≤ s.turns + m → s.turns < n → HasEnd (led place s form.turn)
      turns_on place s le less = fewer (frame_at (place + 1)) callers (turned s) (omega (arith, less, le)) (omega (arith, less))

      at_turn : (place : ℕ) (s : State) → Stands commands place form.turn → n ≤ s.turns + m → IsOver (state_at place s)
      at_turn place s there le =
          turn_by place s there.command (nat_le n s.turns) there.here (rw there.is refl) refl (λ less. rw there.is (turns_on place s le less))

      label_then_turn : (to k : ℕ) (s : State) → Stands commands to (form.label k) → Stands commands (to + 1) form.turn → n ≤ s.turns + m → IsOver (state_at to s)
      label_then_turn to k s there turn le =
          over_if (state_at to s) false (rw (there.here, there.is) refl) (λ e. rw (there.here, there.is) (at_turn (to + 1) s turn le))

      -- a command at a place, where there is an end from each later place on
      module _ (place : ℕ) (s : State) (le : n ≤ s.turns + m) (ahead : (to : ℕ) (s' : State) → place < to → s'.turns ≡ s.turns → IsOver (state_at to s')) where
        abbrev here : State
        here = state_at place s

        goes_on : (s' : State) → s'.turns ≡ s.turns → HasEnd (onward flat under (frame_at place) callers s')
        goes_on s' e = ahead (place + 1) s' (omega arith) e

        jumps : (k : ℕ) → Leads commands place k → HasEnd (at_label flat under (frame_at place) callers k here)
        jumps k way =
            let label = label_at commands k way.to way.found in
            rw way.found (elim way.way [
              | inl later ↦ ahead way.to here later refl
              | inr turn ↦ label_then_turn way.to label.0 here label.1 turn le
            ])

        compares_on : (ty : Option Ty) (c : Comparison) (x y : Value) (go : Bool → Next) → ((b : Bool) → HasEnd (go b)) → HasEnd (compared flat under (frame_at place) callers ty c x y here go)
        compares_on (Some (Pointer to)) c x y go h = if_done (pointers_compare flat.types to c here.store x y) go h
        compares_on (Some (Whole k)) c x y go h = if_counted x _ (λ a. if_counted y _ (λ b. h (compares c a b)))
        compares_on (Some (Array to count)) c x y go h = if_counted x _ (λ a. if_counted y _ (λ b. h (compares c a b)))
        compares_on (Some (Struct members)) c x y go h = if_counted x _ (λ a. if_counted y _ (λ b. h (compares c a b)))
        compares_on None c x y go h = if_counted x _ (λ a. if_counted y _ (λ b. h (compares c a b)))

        gives_back : (o : Option Operand) → HasEnd (gives flat under (frame_at place) callers o here)
        gives_back None = popped (frame_at place) indeterminate here le
        gives_back (Some o) = if_determined _ _ (λ v. popped (frame_at place) v here le)

        -- what counts no turn
        led_on : (f : Form) → counts_turn f ≡ false → ((k : ℕ) → jump_of f ≡ Some k → Leads commands place k) → HasEnd (led place s f)
        led_on (form.move v o) h g = if_determined (operand_of flat (var_type flat (frame_at place) v) o here) _ (λ x. goes_on (put v x here) refl)
        led_on (form.cast v w) h g =
            if_counted (variable_of w here) _ (λ x. if_resulted (converted (kind_in flat (frame_at place) v) under.widths x) _ (λ z. goes_on (put v (number z) here) refl))
        led_on (form.operator op v a b) h g =
            if_counted (operand_of flat None a here) _ (λ x. if_counted (operand_of flat None b here) _ (λ y.
            if_resulted (applied op (kind_in flat (frame_at place) v) under.widths x y) _ (λ z. goes_on (put v (number z) here) refl)))
        led_on (form.complement v o) h g =
            if_counted (operand_of flat None o here) _ (λ x. if_resulted (complemented (kind_in flat (frame_at place) v) under.widths x) _ (λ z. goes_on (put v (number z) here) refl))
        led_on (form.comparison c v a b) h g =
            compares_on (type_at flat (type_compared flat under (frame_at place) callers a b)) c (operand_of flat (type_compared flat under (frame_at place) callers a b) a here)
            (operand_of flat (type_compared flat under (frame_at place) callers a b) b here) _ (λ b. goes_on (put v (int_of b) here) refl)
        led_on (form.subobject v within leaf) h g = if_done (subobject flat under (frame_at place) callers within leaf here) _ (λ x. goes_on (put v x here) refl)
        led_on (form.step way v p o) h g =
            if_counted (operand_of flat None o here) _ (λ z.
            if_done (pointers.step flat.types (pointee_in flat (frame_at place) p) here.store (variable_of p here) (forward way z)) _ (λ x. goes_on (put v x here) refl))
        led_on (form.difference v p q) h g =
            if_done (pointers.difference flat.types (pointee_in flat (frame_at place) p) here.store (variable_of p here) (variable_of q here)) _ (λ z. goes_on (put v (number z) here) refl)
        led_on (form.load v p) h g = if_done (pointers.load here.store (variable_of p here)) _ (λ x. goes_on (put v x here) refl)
        led_on (form.store p o) h g =
            if_done (pointers.store here.store (variable_of p here) (operand_of flat (pointed (type_at flat (var_type flat (frame_at place) p))) o here)) _ (λ store. goes_on (with_store here store) refl)
        led_on (form.copy p q) h g =
            if_done (pointers.copy (leaves_of flat.types (pointee_in flat (frame_at place) p)) here.store (variable_of p here) (variable_of q here)) _ (λ store. goes_on (with_store here store) refl)
        led_on (form.kill v) h g = goes_on (with_store here (forgotten here.store (variable_home here.store v))) refl
        led_on (form.allocate zeros v o) h g =
            if_counted (operand_of flat None o here) _ (λ z.
            if_done (pointers.allocate flat.types (pointee_in flat (frame_at place) v) zeros z here.store) _
            (λ made. goes_on (put v made.address (with_store here made.store)) refl))
        led_on (form.free p) h g = if_done (pointers.release here.store (variable_of p here)) _ (λ store. goes_on (with_store here store) refl)
        led_on (form.show how v o) h g = if_counted (operand_of flat None o here) _ (λ z. goes_on (put v (length_of (text_of how z)) (shown here (text_of how z))) refl)
        led_on (form.text v p) h g =
            if_done (pointers.text flat.types CHAR here.store (variable_of p here)) _ (λ bytes. goes_on (put v (length_of bytes) (shown here bytes)) refl)
        led_on (form.label k) h g = goes_on here refl
        led_on (form.jump k) h g = jumps k (g k refl)
        led_on (form.branch o k) h g =
            if_counted (operand_of flat None o here) _ (λ z.
            either (int_eq z (pos 0)) (onward flat under (frame_at place) callers here) (at_label flat under (frame_at place) callers k here) (goes_on here refl) (jumps k (g k refl)))
        led_on form.turn h g = absurd (cc)
        led_on (form.call r f os) h g = absurd (cc)
        led_on (form.return o) h g = gives_back o
        led_on form.checkpoint h g = goes_on (with_store here (reached_one here.store)) refl
        led_on (form.restore vs) h g = goes_on here refl
        led_on (form.table k l) h g = goes_on here refl
        led_on (form.saved k l) h g = goes_on here refl
        led_on (form.push vs) h g = goes_on here refl

        -- what counts one
        turned_on : (f : Form) → counts_turn f ≡ true → s.turns < n → HasEnd (led place s f)
        turned_on form.turn h less = turns_on place s le less
        turned_on (form.call r f os) h less =
            if_all_determined (argument_values flat under (frame_at place) callers f os here) _
            (λ xs. fewer (record { function = f; next = 0; into = r }) (frame_at (place + 1) ∷ callers) (called flat f xs r (state_at (place + 1) s)) (omega (arith, less, le)) (omega (arith, less)))
        turned_on (form.move v o) h less = absurd (cc)
        turned_on (form.cast v w) h less = absurd (cc)
        turned_on (form.operator op v a b) h less = absurd (cc)
        turned_on (form.complement v o) h less = absurd (cc)
        turned_on (form.comparison c v a b) h less = absurd (cc)
        turned_on (form.subobject v within leaf) h less = absurd (cc)
        turned_on (form.step way v p o) h less = absurd (cc)
        turned_on (form.difference v p q) h less = absurd (cc)
        turned_on (form.load v p) h less = absurd (cc)
        turned_on (form.store p o) h less = absurd (cc)
        turned_on (form.copy p q) h less = absurd (cc)
        turned_on (form.kill v) h less = absurd (cc)
        turned_on (form.allocate zeros v o) h less = absurd (cc)
        turned_on (form.free p) h less = absurd (cc)
        turned_on (form.show how v o) h less = absurd (cc)
        turned_on (form.text v p) h less = absurd (cc)
        turned_on (form.label k) h less = absurd (cc)
        turned_on (form.jump k) h less = absurd (cc)
        turned_on (form.branch o k) h less = absurd (cc)
        turned_on (form.return o) h less = absurd (cc)
        turned_on form.checkpoint h less = absurd (cc)
        turned_on (form.restore vs) h less = absurd (cc)
        turned_on (form.table k l) h less = absurd (cc)
        turned_on (form.saved k l) h less = absurd (cc)
        turned_on (form.push vs) h less = absurd (cc)

        by_command : (c : Command) (b : Bool) → slice_get commands place ≡ Some c → counts (Some c) ≡ b → ((k : ℕ) → jump_of (form_of c) ≡ Some k → Leads commands place k) → IsOver here
        by_command c true is turns g = turn_by place s c (nat_le n s.turns) is turns refl (turned_on (form_of c) turns)
        by_command c false is turns g = over_if here false (rw (is, turns) refl) (λ e. rw is (led_on (form_of c) turns g))

        at_place : (o : Option Command) → slice_get commands place ≡ o → JumpsWell commands → IsOver here
        at_place None is well = over_if here false (rw is refl) (λ e. rw is (popped (frame_at place) indeterminate here le))
        at_place (Some c) is well = by_command c (counts (Some c)) is refl (well place c is)

      -- by the commands that are left
      module _ (well : JumpsWell commands) where
        in_frame : (k place : ℕ) (s : State) → length commands + 1 ≤ place + k → n ≤ s.turns + m → IsOver (state_at place s)
        in_frame zero place s long le = over_if (state_at place s) false (let none = behind_all commands place (omega (arith, long)) in rw none refl)
            (λ e. let none = behind_all commands place (omega (arith, long)) in rw none (popped (frame_at place) indeterminate (state_at place s) le))
        in_frame (suc k) place s long le = at_place place s le (λ to s' later e. in_frame k to s' (omega (arith, long, later)) (omega (arith, e, le))) (slice_get commands place) refl well

    received_over : (into : Option ℕ) (caller : Frame) (more : List Frame) (v : Value) (s : State) → ((s' : State) → s'.turns ≡ s.turns → IsOver (in_frames caller more s'))
        → IsOver (received into v (in_frames caller more s))
    received_over None caller more v s h = h s refl
    received_over (Some r) caller more v s h = h (put r v s) refl

    returned_last : (frame : Frame) (v : Value) (s : State) → n ≤ s.turns + m → HasEnd (returned frame [] v s)
    returned_last frame (number z) s le = tt
    returned_last frame null s le = tt
    returned_last frame (pointer home leaf) s le = tt
    returned_last frame (past home leaf until) s le = tt
    returned_last frame indeterminate s le = tt

    -- by the frames
    module _ (well : (function : ℕ) → JumpsWell (commands_of (slice_get flat.functions function))) where
      by_frames : (callers : List Frame) (frame : Frame) (s : State) → n ≤ s.turns + m → IsOver (in_frames frame callers s)
      by_frames [] frame s le =
          in_frame frame.function frame.into [] returned_last (well frame.function) (length (commands_of (slice_get flat.functions frame.function)) + 1) frame.next s (omega arith) le
      by_frames (caller ∷ more) frame s le =
          in_frame frame.function frame.into (caller ∷ more)
          (λ frame v s le. received_over frame.into caller more v (with_store s (left s.store)) (λ s' e. by_frames more caller s' (omega (arith, e, le))))
          (well frame.function) (length (commands_of (slice_get flat.functions frame.function)) + 1) frame.next s (omega arith) le

  module _ (well : (function : ℕ) → JumpsWell (commands_of (slice_get flat.functions function))) where
    -- by the turns that are left
    by_turns : (m : ℕ) (frame : Frame) (callers : List Frame) (s : State) → n ≤ s.turns + m → IsOver (in_frames frame callers s)
    by_turns zero frame callers s le = by_frames zero (λ frame callers s more less. absurd (omega (arith, more, less))) well callers frame s le
    by_turns (suc m) frame callers s le = by_frames (suc m) (λ frame callers s more less. by_turns m frame callers s (omega (arith, more))) well callers frame s le

    started : (s : State) (b : Bool) → nat_le n s.turns ≡ b → IsOver (with_phase s before)
    started s true is = over_if (with_phase s before) true (rw is refl) (λ e. absurd (cc))
    started s false is =
        let main : ℕ = unwrap_or (main_of flat) 0 in
        over_if (with_phase s before) false (rw is refl)
        (λ e. by_turns n (record { function = main; next = 0; into = None }) [] (called flat main [] None (with_phase s before)) (omega arith))

    by_phase : (phase : Phase) (s : State) → IsOver (with_phase s phase)
    by_phase before s = started s (nat_le n s.turns) refl
    by_phase (running frame callers) s = by_turns n frame callers s (omega arith)
    by_phase over s = over_if (with_phase s over) false refl (λ e. tt)

-- the jumps of each function of a valid program
jumps_of : (s : Sort) (flat : Flat) → IsValid s flat → (function : ℕ) (o : Option Function) → slice_get flat.functions function ≡ o
    → (i : ℕ) (c : Command) → slice_get (commands_of o) i ≡ Some c → (k : ℕ) → jump_of (form_of c) ≡ Some k → Leads (commands_of o) i k
jumps_of s flat valid function None is i c h k g = absurd (cc)
jumps_of s flat valid function (Some f) is i c h k g =
    let well = leads_in s flat valid function f i c is h in
    leads f i k (place_of_label f.commands k) refl (subst (λ o. leads_well f i o ≡ true) g well)

pub each_run_ends : RunsEnd
each_run_ends s flat under n from valid =
    let o = by_phase flat under n (λ function. jumps_of s flat valid function (slice_get flat.functions function) refl) from.phase from in
    (o.last, (o.ending, record { steps = o.steps; ends = o.ends }))
