-- Runs of the plain program and of the rewritten one, side by side.
use Rattle.std.proofs.Common.{◌≡◌, ◌<◌, ℕ, zero, suc, ◌+◌, pos, List, [], ◌∷◌, ◌++◌, length, drop, refl, sym, ap, ◌∙◌, subst, arith, Option, Some, None, Bool, true, false}
use Rattle.std.specs.Prelude.{slice_get, if◌then◌else◌, unwrap_or, nat_le, ◌&&◌}
use Rattle.std.specs.Option.{option_map}
use Rattle.porch_objects.specs.Store.{Value, number, null, pointer, past, indeterminate, entered}
use Rattle.porch_objects.specs.Meaning.{Environment, Mark, Meaning, Ending, Ended, Met, Paused}
use Rattle.porch_types.specs.Leaves.{leaves_of}
use Rattle.porch_flat.specs.declared.whole.Command.{Command}
use Rattle.porch_flat.specs.declared.whole.Function.{Function}
use Rattle.porch_flat.specs.declared.whole.Flat.{Flat}
use Rattle.porch_flat.specs.declared.whole.Sort.TheVariants as sort
use Rattle.porch_flat.specs.whole.Rules.{IsValid}
use Rattle.porch_flat.specs.whole.Form as form
use Rattle.porch_flat.specs.whole.Form.{Form, form_of}
use Rattle.porch_flat.specs.whole.Places.{commands_of, main_of, place_of_label}
use Rattle.porch_flat.specs.whole.Rewritten.{reaches}
use Rattle.porch_abstract.specs.Machine.{State, Frame, Phase, before, running, over, Next, Goes, Ends, Meets, with_phase, variables_with}
use Rattle.porch_abstract.specs.Run.{if_goes}
use Rattle.porch_abstract.specs.whole.Machine.{begin, code_of, operand_of, pointee_in, onward, does, after, called, next}
use Rattle.porch_abstract.specs.whole.Run.{allocation_of, allocated_where_made, marks_at, marks_of, counts_turn, counts, is_paused, run_to, then_on, observed, marks_to, Means, IsOneRun, RunsEnd}
use Rattle.porch_rewrite.specs.Laws.{HasRoom}
use Rattle.porch_rewrite.specs.Rewriting.{FIRST_LABEL, saving_commands, rewritten_function, rewritten}
use Rattle.porch_rewrite.proofs.Arriving.{is_silent, AreSilent, drop_next, drop_here, drop_none, Fits, saving, behind, arrives, jumps_there, no_jump}
use Rattle.porch_rewrite.proofs.SameMain.{main_same}
use Rattle.porch_rewrite.proofs.Steps.{got, FrameFits, left_alone, rebuilt, CallersFit, no_callers, PhaseFits, fits_before, fits_running, fits_over, Follows, Both, both_do, ends_both, plain_operand, same_pointee, entry, same_vars}

-- silent commands go on, count no turn and make no mark
silent_on : (flat : Flat) (under : Environment) (frame : Frame) (callers : List Frame) (s : State) (f : Form) → is_silent f ≡ true → does flat under frame callers f s ≡ onward flat under frame callers s
silent_on flat under frame callers s (form.label n) h = refl
silent_on flat under frame callers s (form.restore vs) h = refl
silent_on flat under frame callers s (form.table k n) h = refl
silent_on flat under frame callers s (form.saved k n) h = refl
silent_on flat under frame callers s (form.push vs) h = refl
silent_on flat under frame callers s (form.move v o) h = absurd (cc)
silent_on flat under frame callers s (form.cast v w) h = absurd (cc)
silent_on flat under frame callers s (form.operator op v a b) h = absurd (cc)
silent_on flat under frame callers s (form.complement v o) h = absurd (cc)
silent_on flat under frame callers s (form.comparison c v a b) h = absurd (cc)
silent_on flat under frame callers s (form.subobject v within leaf) h = absurd (cc)
silent_on flat under frame callers s (form.step way v p o) h = absurd (cc)
silent_on flat under frame callers s (form.difference v p q) h = absurd (cc)
silent_on flat under frame callers s (form.load v p) h = absurd (cc)
silent_on flat under frame callers s (form.store p o) h = absurd (cc)
silent_on flat under frame callers s (form.copy p q) h = absurd (cc)
silent_on flat under frame callers s (form.kill v) h = absurd (cc)
silent_on flat under frame callers s (form.allocate zeros v o) h = absurd (cc)
silent_on flat under frame callers s (form.free p) h = absurd (cc)
silent_on flat under frame callers s (form.show how v o) h = absurd (cc)
silent_on flat under frame callers s (form.text v p) h = absurd (cc)
silent_on flat under frame callers s (form.jump n) h = absurd (cc)
silent_on flat under frame callers s (form.branch o n) h = absurd (cc)
silent_on flat under frame callers s form.turn h = absurd (cc)
silent_on flat under frame callers s (form.call r k os) h = absurd (cc)
silent_on flat under frame callers s (form.return o) h = absurd (cc)
silent_on flat under frame callers s form.checkpoint h = absurd (cc)

silent_uncounted : (f : Form) → is_silent f ≡ true → counts_turn f ≡ false
silent_uncounted (form.label n) h = refl
silent_uncounted (form.restore vs) h = refl
silent_uncounted (form.table k n) h = refl
silent_uncounted (form.saved k n) h = refl
silent_uncounted (form.push vs) h = refl
silent_uncounted (form.move v o) h = absurd (cc)
silent_uncounted (form.cast v w) h = absurd (cc)
silent_uncounted (form.operator op v a b) h = absurd (cc)
silent_uncounted (form.complement v o) h = absurd (cc)
silent_uncounted (form.comparison c v a b) h = absurd (cc)
silent_uncounted (form.subobject v within leaf) h = absurd (cc)
silent_uncounted (form.step way v p o) h = absurd (cc)
silent_uncounted (form.difference v p q) h = absurd (cc)
silent_uncounted (form.load v p) h = absurd (cc)
silent_uncounted (form.store p o) h = absurd (cc)
silent_uncounted (form.copy p q) h = absurd (cc)
silent_uncounted (form.kill v) h = absurd (cc)
silent_uncounted (form.allocate zeros v o) h = absurd (cc)
silent_uncounted (form.free p) h = absurd (cc)
silent_uncounted (form.show how v o) h = absurd (cc)
silent_uncounted (form.text v p) h = absurd (cc)
silent_uncounted (form.jump n) h = absurd (cc)
silent_uncounted (form.branch o n) h = absurd (cc)
silent_uncounted form.turn h = absurd (cc)
silent_uncounted (form.call r k os) h = absurd (cc)
silent_uncounted (form.return o) h = absurd (cc)
silent_uncounted form.checkpoint h = absurd (cc)

silent_unmarked : (flat : Flat) (s : State) (frame : Frame) (f : Form) → is_silent f ≡ true → marks_at flat s frame f ≡ []
silent_unmarked flat s frame (form.label n) h = refl
silent_unmarked flat s frame (form.restore vs) h = refl
silent_unmarked flat s frame (form.table k n) h = refl
silent_unmarked flat s frame (form.saved k n) h = refl
silent_unmarked flat s frame (form.push vs) h = refl
silent_unmarked flat s frame (form.move v o) h = refl
silent_unmarked flat s frame (form.cast v w) h = refl
silent_unmarked flat s frame (form.operator op v a b) h = refl
silent_unmarked flat s frame (form.complement v o) h = refl
silent_unmarked flat s frame (form.comparison c v a b) h = refl
silent_unmarked flat s frame (form.subobject v within leaf) h = refl
silent_unmarked flat s frame (form.step way v p o) h = refl
silent_unmarked flat s frame (form.difference v p q) h = refl
silent_unmarked flat s frame (form.load v p) h = refl
silent_unmarked flat s frame (form.store p o) h = refl
silent_unmarked flat s frame (form.copy p q) h = refl
silent_unmarked flat s frame (form.kill v) h = refl
silent_unmarked flat s frame (form.allocate zeros v o) h = absurd (cc)
silent_unmarked flat s frame (form.free p) h = absurd (cc)
silent_unmarked flat s frame (form.show how v o) h = refl
silent_unmarked flat s frame (form.text v p) h = refl
silent_unmarked flat s frame (form.jump n) h = refl
silent_unmarked flat s frame (form.branch o n) h = refl
silent_unmarked flat s frame form.turn h = refl
silent_unmarked flat s frame (form.call r k os) h = refl
silent_unmarked flat s frame (form.return o) h = refl
silent_unmarked flat s frame form.checkpoint h = absurd (cc)

nothing_added : (marks : List Mark) → marks ++ [] ≡ marks
nothing_added [] = refl
nothing_added (m ∷ marks) = ap (λ l. m ∷ l) (nothing_added marks)

module _ (flat : Flat) (under : Environment) (n : ℕ) where
  abbrev made : Flat
  made = rewritten flat

  abbrev reaching : ℕ → Bool
  reaching = reaches flat

  abbrev told_of : Flat → State → Option Command → List Mark → List Mark
  told_of program s command marks = marks ++ marks_of program s command

  abbrev sees : Flat → ℕ → State → List Mark → List Mark
  sees program k s marks = observed program under n (told_of program) k s marks

  abbrev frame_at : ℕ → Option ℕ → ℕ → Frame
  frame_at function into place = record { function = function; next = place; into = into }

  -- silent steps

  -- one step is the same as none
  record Quiet (from to : State) : Type 0 where
    run : (k : ℕ) → run_to made under n (suc k) from ≡ run_to made under n k to
    marks : (k : ℕ) (so_far : List Mark) → sees made (suc k) from so_far ≡ sees made k to so_far

  one_quiet : (function : ℕ) (into : Option ℕ) (place : ℕ) (callers : List Frame) (s : State) (c : Command) → slice_get (code_of made (frame_at function into place)) place ≡ Some c → is_silent (form_of c) ≡ true
      → Quiet (with_phase s (running (frame_at function into place) callers)) (with_phase s (running (frame_at function into (place + 1)) callers))
  one_quiet function into place callers s c here quiet =
      let go = silent_on made under (frame_at function into place) callers (with_phase s (running (frame_at function into place) callers)) (form_of c) quiet in
      let uncounted = silent_uncounted (form_of c) quiet in
      let unmarked = silent_unmarked made (with_phase s (running (frame_at function into place) callers)) (frame_at function into place) (form_of c) quiet in
      record {
        run = λ k. rw (here, uncounted, go) refl;
        marks = λ k so_far. rw (here, uncounted, go, unmarked, nothing_added so_far) refl;
      }

  -- so many steps are the same as none
  pub record Still (m : ℕ) (from to : State) : Type 0 where
    run : (k : ℕ) → run_to made under n (m + k) from ≡ run_to made under n k to
    marks : (k : ℕ) (so_far : List Mark) → sees made (m + k) from so_far ≡ sees made k to so_far

  still_none : (s : State) → Still 0 s s
  still_none s = record { run = λ k. let same : 0 + k ≡ k = omega arith in rw same refl; marks = λ k so_far. let same : 0 + k ≡ k = omega arith in rw same refl }

  still_more : (m : ℕ) (from between to : State) → Quiet from between → Still m between to → Still (suc m) from to
  still_more m from between to one more = record {
    run = λ k. let same : suc m + k ≡ suc (m + k) = omega arith in rw same (one.run (m + k) ∙ more.run k);
    marks = λ k so_far. let same : suc m + k ≡ suc (m + k) = omega arith in rw same (one.marks (m + k) so_far ∙ more.marks k so_far);
  }

  abbrev state_at : ℕ → Option ℕ → ℕ → List Frame → State → State
  state_at function into place callers s = with_phase s (running (frame_at function into place) callers)

  still_through : (function : ℕ) (into : Option ℕ) (callers : List Frame) (s : State) (code : List Command) → commands_of (slice_get made.functions function) ≡ code
      → (silent rest : List Command) (place : ℕ) → AreSilent silent → drop place code ≡ silent ++ rest
      → Still (length silent) (state_at function into place callers s) (state_at function into (place + length silent) callers s)
  still_through function into callers s code is [] rest place quiet at = let none : place + 0 ≡ place = omega arith in rw none (still_none (state_at function into place callers s))
  still_through function into callers s code is (c ∷ silent) rest place quiet at =
      let here : slice_get (commands_of (slice_get made.functions function)) place ≡ Some c = rw is (drop_here code place c (silent ++ rest) at) in
      let same : place + suc (length silent) ≡ place + 1 + length silent = omega arith in
      rw same (still_more (length silent) (state_at function into place callers s) (state_at function into (place + 1) callers s) (state_at function into (place + 1 + length silent) callers s)
      (one_quiet function into place callers s c here quiet.0)
      (still_through function into callers s code is silent rest (place + 1) quiet.1 (drop_next code place c (silent ++ rest) at)))

  place_through : (code silent rest : List Command) (place : ℕ) → drop place code ≡ silent ++ rest → drop (place + length silent) code ≡ rest
  place_through code [] rest place at = let none : place + 0 ≡ place = omega arith in rw none at
  place_through code (c ∷ silent) rest place at =
      let same : place + suc (length silent) ≡ place + 1 + length silent = omega arith in
      rw same (place_through code silent rest (place + 1) (drop_next code place c (silent ++ rest) at))

  -- where a frame gets to, silently: to the same command
  record Ready (function : ℕ) (into : Option ℕ) (next there : ℕ) : Type 0 where
    count : ℕ
    still : (callers : List Frame) (s : State) → Still count (state_at function into there callers s) (state_at function into (there + count) callers s)
    here : slice_get (commands_of (slice_get made.functions function)) (there + count) ≡ slice_get (commands_of (slice_get flat.functions function)) next
    onward : (c : Command) → slice_get (commands_of (slice_get flat.functions function)) next ≡ Some c → FrameFits flat (frame_at function into (next + 1)) (frame_at function into (there + count + 1))

  head_of : {X : Type 0} (xs : List X) (i : ℕ) (rest : List X) → drop i xs ≡ rest → slice_get xs i ≡ slice_get rest 0
  head_of xs i [] h = drop_none xs i h
  head_of xs i (x ∷ rest) h = drop_here xs i x rest h

  code_alone : (function : ℕ) → reaching function ≡ false → commands_of (slice_get made.functions function) ≡ commands_of (slice_get flat.functions function)
  code_alone function is = ap commands_of (got flat function) ∙ by_function (slice_get flat.functions function)
    where
      by_function : (o : Option Function) → commands_of (option_map (rewritten_function reaching function) o) ≡ commands_of o
      by_function None = refl
      by_function (Some f) = rw is refl

  code_saving : (function : ℕ) (f : Function) → reaching function ≡ true → slice_get flat.functions function ≡ Some f → commands_of (slice_get made.functions function) ≡ saving_commands reaching f
  code_saving function f is at = ap commands_of (got flat function ∙ ap (λ o. option_map (rewritten_function reaching function) o) at) ∙ by_function
    where
      by_function : commands_of (option_map (rewritten_function reaching function) (Some f)) ≡ saving_commands reaching f
      by_function = rw is refl

  ready_alone : (function : ℕ) (into : Option ℕ) (next : ℕ) → reaching function ≡ false → Ready function into next next
  ready_alone function into next is =
      let none : next + 0 ≡ next = omega arith in
      record {
        count = 0;
        still = λ callers s. rw none (still_none (state_at function into next callers s));
        here = rw (none, code_alone function is) refl;
        onward = λ c at. rw none (left_alone (frame_at function into (next + 1)) is);
      }

  ready_saving : (function : ℕ) (into : Option ℕ) (next there : ℕ) (f : Function) → reaching function ≡ true → slice_get flat.functions function ≡ Some f → Fits reaching f next there → Ready function into next there
  ready_saving function into next there f is at fits =
      let way = arrives reaching f next there fits in
      let code = code_saving function f is at in
      let place : drop (there + length way.silent) (saving_commands reaching f) ≡ way.rest = place_through (saving_commands reaching f) way.silent way.rest there way.whole in
      let own : commands_of (slice_get flat.functions function) ≡ f.commands = rw at refl in
      record {
        count = length way.silent;
        still = λ callers s. still_through function into callers s (saving_commands reaching f) code way.silent way.rest there way.quiet way.whole;
        here = rw (code, own) (head_of (saving_commands reaching f) (there + length way.silent) way.rest place ∙ way.here);
        onward = λ c h.
            let mine : slice_get f.commands next ≡ Some c = subst (λ (cs : List Command). slice_get cs next ≡ Some c) own h in
            rebuilt function into (next + 1) (there + length way.silent + 1) f is at (saving (way.onward c mine (there + length way.silent) place));
      }

  -- where a jump leads
  module _ (function : ℕ) (into : Option ℕ) (label : ℕ) (less : label < FIRST_LABEL) where
    abbrev target : List Command → ℕ
    target commands = unwrap_or (place_of_label commands label) (length commands)

    jump_alone : reaching function ≡ false → FrameFits flat (frame_at function into (target (commands_of (slice_get flat.functions function)))) (frame_at function into (target (commands_of (slice_get made.functions function))))
    jump_alone is = rw (code_alone function is) (left_alone (frame_at function into (target (commands_of (slice_get flat.functions function)))) is)

    behind_all : {X : Type 0} (xs : List X) → drop (length xs) xs ≡ []
    behind_all [] = refl
    behind_all (x ∷ xs) = behind_all xs

    jump_by : (f : Function) → reaching function ≡ true → slice_get flat.functions function ≡ Some f → (o : Option ℕ) → place_of_label f.commands label ≡ o
        → FrameFits flat (frame_at function into (unwrap_or o (length f.commands))) (frame_at function into (target (saving_commands reaching f)))
    jump_by f is at None found =
        let gone = no_jump reaching f label less found in
        rw gone (rebuilt function into (length f.commands) (length (saving_commands reaching f)) f is at (behind (behind_all f.commands) (behind_all (saving_commands reaching f))))
    jump_by f is at (Some to) found =
        let there = jumps_there reaching f label less to found in
        rw there.1.0 (rebuilt function into to there.0 f is at (saving there.1.1))

    jump_saving : (f : Function) → reaching function ≡ true → slice_get flat.functions function ≡ Some f
        → FrameFits flat (frame_at function into (target (commands_of (slice_get flat.functions function)))) (frame_at function into (target (commands_of (slice_get made.functions function))))
    jump_saving f is at =
        let code = code_saving function f is at in
        let own : commands_of (slice_get flat.functions function) ≡ f.commands = rw at refl in
        rw (code, own) (jump_by f is at (place_of_label f.commands label) refl)

  -- two frames, by their places
  record Pair (frame frame' : Frame) : Type 0 where
    function : ℕ
    into : Option ℕ
    place : ℕ
    there : ℕ
    is : frame ≡ frame_at function into place
    is' : frame' ≡ frame_at function into there
    ready : Ready function into place there
    jumps : (label : ℕ) (less : label < FIRST_LABEL) → FrameFits flat (frame_at function into (target function into label less (commands_of (slice_get flat.functions function)))) (frame_at function into (target function into label less (commands_of (slice_get made.functions function))))

  pair_of : (frame frame' : Frame) → FrameFits flat frame frame' → Pair frame frame'
  pair_of frame frame' (left_alone both alone) = record {
    function = both.function;
    into = both.into;
    place = both.next;
    there = both.next;
    is = refl;
    is' = refl;
    ready = ready_alone both.function both.into both.next alone;
    jumps = λ label less. jump_alone both.function both.into label less alone;
  }
  pair_of frame frame' (rebuilt function into place there f reached at fits) = record {
    function = function;
    into = into;
    place = place;
    there = there;
    is = refl;
    is' = refl;
    ready = ready_saving function into place there f reached at fits;
    jumps = λ label less. jump_saving function into label less f reached at;
  }

  allocation_same : (zeros : Bool) (ty : ℕ) (v : Value) (s : State) (phase : Phase) → allocation_of made zeros ty v (with_phase s phase) ≡ allocation_of flat zeros ty v s
  allocation_same zeros ty (number z) s phase = refl
  allocation_same zeros ty null s phase = refl
  allocation_same zeros ty (pointer home leaf) s phase = refl
  allocation_same zeros ty (past home leaf until) s phase = refl
  allocation_same zeros ty indeterminate s phase = refl

  module _ (room : HasRoom flat) where
    -- the rewritten program's run ends likewise, with the same marks
    record Simulated (k : ℕ) (s t to : State) (e : Ending) : Type 0 where
      steps : ℕ
      last : State
      ends : run_to made under n steps t ≡ Some (last, e)
      output : last.output ≡ to.output
      turns : last.turns ≡ to.turns
      marks : (so_far : List Mark) → sees made steps t so_far ≡ sees flat k s so_far

    record SimulatedBehind (k : ℕ) (t to : State) (r r' : Next) (e : Ending) : Type 0 where
      steps : ℕ
      last : State
      ends : then_on made under t r' (λ x. run_to made under n steps x) ≡ Some (last, e)
      output : last.output ≡ to.output
      turns : last.turns ≡ to.turns
      marks : (so_far : List Mark) → if_goes r' so_far (λ x. sees made steps x so_far) ≡ if_goes r so_far (λ x. sees flat k x so_far)

    abbrev Simulates : ℕ → State → Ending → Type 0
    Simulates k to e = (x y : State) → Follows flat x y → run_to flat under n k x ≡ Some (to, e) → Simulated k x y to e

    same_some : (a b : State × Ending) → Some a ≡ Some b → a ≡ b
    same_some a b h = cc

    same_pair : (a b : State) (e f : Ending) (r : Option (State × Ending)) → r ≡ Some (a, e) → r ≡ Some (b, f) → (a ≡ b) × (e ≡ f)
    same_pair a b e f r h g =
        let p = same_some (a, e) (b, f) (sym h ∙ g) in (ap (λ (x : State × Ending). x.0) p, ap (λ (x : State × Ending). x.1) p)

    behind_both : (k : ℕ) (s t to : State) (e : Ending) (r r' : Next) → t.output ≡ s.output → t.turns ≡ s.turns → Both flat r r' → Simulates k to e
        → then_on flat under s r (λ x. run_to flat under n k x) ≡ Some (to, e) → SimulatedBehind k t to r r' e
    behind_both k s t to e (Goes x) (Goes y) output turns follows more h =
        let rest = more x y follows h in
        record { steps = rest.steps; last = rest.last; ends = rest.ends; output = rest.output; turns = rest.turns; marks = rest.marks }
    behind_both k s t to e (Ends z x) (Ends z' y) output turns follows more h =
        let same = same_pair x to (Ended z) e (then_on flat under s (Ends z x) (λ x. run_to flat under n k x)) refl h in
        let state = follows.1.is in
        record {
          steps = 0;
          last = y;
          ends = ap (λ f. Some (y, f)) (ap (λ z. Ended z) (sym follows.0) ∙ same.1);
          output = ap (λ (q : State). q.output) state ∙ ap (λ (q : State). q.output) same.0;
          turns = ap (λ (q : State). q.turns) state ∙ ap (λ (q : State). q.turns) same.0;
          marks = λ so_far. refl;
        }
    behind_both k s t to e (Meets a) (Meets b) output turns follows more h =
        let same = same_pair s to (Met a) e (then_on flat under s (Meets a) (λ x. run_to flat under n k x)) refl h in
        record {
          steps = 0;
          last = t;
          ends = ap (λ f. Some (t, f)) (ap (λ a. Met a) (sym follows) ∙ same.1);
          output = output ∙ ap (λ (q : State). q.output) same.0;
          turns = turns ∙ ap (λ (q : State). q.turns) same.0;
          marks = λ so_far. refl;
        }
    behind_both k s t to e (Goes x) (Ends z y) output turns follows more h = elim follows [ ]
    behind_both k s t to e (Goes x) (Meets b) output turns follows more h = elim follows [ ]
    behind_both k s t to e (Ends z x) (Goes y) output turns follows more h = elim follows [ ]
    behind_both k s t to e (Ends z x) (Meets b) output turns follows more h = elim follows [ ]
    behind_both k s t to e (Meets a) (Goes y) output turns follows more h = elim follows [ ]
    behind_both k s t to e (Meets a) (Ends z y) output turns follows more h = elim follows [ ]

    -- two frames that stand at the same command
    module _ (function : ℕ) (into : Option ℕ) (place there : ℕ) (callers callers' : List Frame) (fits : CallersFit flat callers callers') (s0 : State)
        (here : slice_get (commands_of (slice_get made.functions function)) there ≡ slice_get (commands_of (slice_get flat.functions function)) place)
        (onward : (c : Command) → slice_get (commands_of (slice_get flat.functions function)) place ≡ Some c → FrameFits flat (frame_at function into (place + 1)) (frame_at function into (there + 1)))
        (jumps : (label : ℕ) (less : label < FIRST_LABEL) → FrameFits flat (frame_at function into (target function into label less (commands_of (slice_get flat.functions function)))) (frame_at function into (target function into label less (commands_of (slice_get made.functions function))))) where
      abbrev s : State
      s = state_at function into place callers s0

      abbrev t : State
      t = state_at function into there callers' s0

      abbrev command_here : Option Command
      command_here = slice_get (commands_of (slice_get flat.functions function)) place

      both_by : (o : Option Command) → command_here ≡ o → Both flat (after flat under (frame_at function into place) callers o s) (after made under (frame_at function into there) callers' o t)
      both_by None at = ends_both flat under function into place there callers callers' fits s
      both_by (Some c) at =
          both_do flat under function into place there callers callers' fits (onward c at) s (form_of c) (λ label named. jumps label (room function place label c at named))

      marks_by : (f : Form) → FrameFits flat (frame_at function into (place + 1)) (frame_at function into (there + 1)) → marks_at made t (frame_at function into there) f ≡ marks_at flat s (frame_at function into place) f
      marks_by form.checkpoint fit = refl
      marks_by (form.allocate zeros v o) fit =
          let value = sym (plain_operand flat under function into place there callers callers' fits fit s o) in
          let ty = sym (same_pointee flat under function into place there callers callers' fits v) in
          ap (λ x. allocated_where_made x (leaves_of flat.types (pointee_in made (frame_at function into there) v)) (allocation_of made zeros (pointee_in made (frame_at function into there) v) x t)) value
          ∙ ap (λ ty. allocated_where_made (operand_of flat None o s) (leaves_of flat.types ty) (allocation_of made zeros ty (operand_of flat None o s) t)) ty
          ∙ ap (λ made_it. allocated_where_made (operand_of flat None o s) (leaves_of flat.types (pointee_in flat (frame_at function into place) v)) made_it)
          (allocation_same zeros (pointee_in flat (frame_at function into place) v) (operand_of flat None o s) s (running (frame_at function into there) callers'))
      marks_by (form.free p) fit = refl
      marks_by (form.move v o) fit = refl
      marks_by (form.cast v w) fit = refl
      marks_by (form.operator op v a b) fit = refl
      marks_by (form.complement v o) fit = refl
      marks_by (form.comparison c v a b) fit = refl
      marks_by (form.subobject v within leaf) fit = refl
      marks_by (form.step way v p o) fit = refl
      marks_by (form.difference v p q) fit = refl
      marks_by (form.load v p) fit = refl
      marks_by (form.store p o) fit = refl
      marks_by (form.copy p q) fit = refl
      marks_by (form.kill v) fit = refl
      marks_by (form.show how v o) fit = refl
      marks_by (form.text v p) fit = refl
      marks_by (form.label k) fit = refl
      marks_by (form.jump k) fit = refl
      marks_by (form.branch o k) fit = refl
      marks_by form.turn fit = refl
      marks_by (form.call r k os) fit = refl
      marks_by (form.return o) fit = refl
      marks_by (form.restore vs) fit = refl
      marks_by (form.table k l) fit = refl
      marks_by (form.saved k l) fit = refl
      marks_by (form.push vs) fit = refl

      same_marks : (o : Option Command) → command_here ≡ o → marks_of made t o ≡ marks_of flat s o
      same_marks None at = refl
      same_marks (Some c) at = marks_by (form_of c) (onward c at)

      same_pause : is_paused made under n t ≡ is_paused flat under n s
      same_pause = ap (λ o. counts o && nat_le n s0.turns) here

      simulated_here : (k : ℕ) (to : State) (e : Ending) (b : Bool) → is_paused flat under n s ≡ b → Simulates k to e → run_to flat under n (suc k) s ≡ Some (to, e) → Simulated (suc k) s t to e
      simulated_here k to e true is more h =
          let same = same_pair s to Paused e (run_to flat under n (suc k) s) (rw is refl) h in
          let paused : is_paused made under n t ≡ true = same_pause ∙ is in
          record {
            steps = 1;
            last = t;
            ends = rw paused (ap (λ f. Some (t, f)) same.1);
            output = ap (λ (q : State). q.output) same.0;
            turns = ap (λ (q : State). q.turns) same.0;
            marks = λ so_far. rw (paused, is) refl;
          }
      simulated_here k to e false is more h =
          let went = subst (λ b. (if b then Some (s, Paused) else then_on flat under s (next flat under s) (λ x. run_to flat under n k x)) ≡ Some (to, e)) is h in
          let both : Both flat (next flat under s) (next made under t) = subst (λ o. Both flat (next flat under s) (after made under (frame_at function into there) callers' o t)) (sym here) (both_by command_here refl) in
          let rest = behind_both k s t to e (next flat under s) (next made under t) refl refl both more went in
          let paused : is_paused made under n t ≡ false = same_pause ∙ is in
          let mark : marks_of made t (slice_get (commands_of (slice_get made.functions function)) there) ≡ marks_of flat s command_here = ap (λ o. marks_of made t o) here ∙ same_marks command_here refl in
          record {
            steps = suc rest.steps;
            last = rest.last;
            ends = ap (λ b. if b then Some (t, Paused) else then_on made under t (next made under t) (λ x. run_to made under n rest.steps x)) paused ∙ rest.ends;
            output = rest.output;
            turns = rest.turns;
            marks = λ so_far.
                ap (λ b. if b then so_far else if_goes (next made under t) (so_far ++ marks_of made t (slice_get (commands_of (slice_get made.functions function)) there)) (λ x. sees made rest.steps x (so_far ++ marks_of made t (slice_get (commands_of (slice_get made.functions function)) there)))) paused
                ∙ ap (λ (l : List Mark). if_goes (next made under t) (so_far ++ l) (λ x. sees made rest.steps x (so_far ++ l))) mark
                ∙ rest.marks (so_far ++ marks_of flat s command_here)
                ∙ sym (ap (λ b. if b then so_far else if_goes (next flat under s) (so_far ++ marks_of flat s command_here) (λ x. sees flat k x (so_far ++ marks_of flat s command_here))) is);
          }

    -- behind steps that do nothing
    simulated_still : (m k : ℕ) (s t0 t to : State) (e : Ending) → Still m t0 t → Simulated k s t to e → Simulated k s t0 to e
    simulated_still m k s t0 t to e still rest = record {
      steps = m + rest.steps;
      last = rest.last;
      ends = still.run rest.steps ∙ rest.ends;
      output = rest.output;
      turns = rest.turns;
      marks = λ so_far. still.marks rest.steps so_far ∙ rest.marks so_far;
    }

    simulated_running : (k : ℕ) (frame frame' : Frame) (callers callers' : List Frame) (s0 to : State) (e : Ending) → FrameFits flat frame frame' → CallersFit flat callers callers' → Simulates k to e
        → run_to flat under n (suc k) (with_phase s0 (running frame callers)) ≡ Some (to, e) → Simulated (suc k) (with_phase s0 (running frame callers)) (with_phase s0 (running frame' callers')) to e
    simulated_running k frame frame' callers callers' s0 to e fit fits more h =
        let p = pair_of frame frame' fit in
        let ready = p.ready in
        let went : run_to flat under n (suc k) (state_at p.function p.into p.place callers s0) ≡ Some (to, e) =
        subst (λ f. run_to flat under n (suc k) (with_phase s0 (running f callers)) ≡ Some (to, e)) p.is h in
        let there : Simulated (suc k) (state_at p.function p.into p.place callers s0) (state_at p.function p.into (p.there + ready.count) callers' s0) to e =
        simulated_here p.function p.into p.place (p.there + ready.count) callers callers' fits s0 ready.here ready.onward p.jumps k to e
        (is_paused flat under n (state_at p.function p.into p.place callers s0)) refl more went in
        let whole : Simulated (suc k) (state_at p.function p.into p.place callers s0) (state_at p.function p.into p.there callers' s0) to e =
        simulated_still ready.count (suc k) (state_at p.function p.into p.place callers s0) (state_at p.function p.into p.there callers' s0) (state_at p.function p.into (p.there + ready.count) callers' s0) to e
        (ready.still callers' s0) there in
        subst (λ f. Simulated (suc k) (with_phase s0 (running f callers)) (with_phase s0 (running frame' callers')) to e) (sym p.is)
        (subst (λ f. Simulated (suc k) (state_at p.function p.into p.place callers s0) (with_phase s0 (running f callers')) to e) (sym p.is') whole)

    -- before turn 1

    started : (s0 : State) → Follows flat (called flat (unwrap_or (main_of flat) 0) [] None (with_phase s0 before)) (called made (unwrap_or (main_of made) 0) [] None (with_phase s0 before))
    started s0 =
        let main : ℕ = unwrap_or (main_of flat) 0 in
        subst (λ o. Follows flat (called flat main [] None (with_phase s0 before)) (called made (unwrap_or o 0) [] None (with_phase s0 before))) (sym (main_same flat))
        (entered_alike main)
      where
        entered_alike : (main : ℕ) → Follows flat (called flat main [] None (with_phase s0 before)) (called made main [] None (with_phase s0 before))
        entered_alike main =
            subst (λ vars. Follows flat (called flat main [] None (with_phase s0 before))
            (record {
              phase = running (frame_at main None 0) [];
              store = entered s0.store (variables_with flat.types vars []);
              output = s0.output;
              turns = s0.turns + 1;
              taken = s0.taken;
            })) (same_vars flat main)
            (record { phase = fits_running (frame_at main None 0) (frame_at main None 0) [] [] (entry flat main None) no_callers; is = refl })

    simulated_before : (k : ℕ) (s0 to : State) (e : Ending) (b : Bool) → nat_le n s0.turns ≡ b → Simulates k to e → run_to flat under n (suc k) (with_phase s0 before) ≡ Some (to, e)
        → Simulated (suc k) (with_phase s0 before) (with_phase s0 before) to e
    simulated_before k s0 to e true is more h =
        let same = same_pair (with_phase s0 before) to Paused e (run_to flat under n (suc k) (with_phase s0 before)) (rw is refl) h in
        record {
          steps = 1;
          last = with_phase s0 before;
          ends = rw is (ap (λ f. Some (with_phase s0 before, f)) same.1);
          output = ap (λ (q : State). q.output) same.0;
          turns = ap (λ (q : State). q.turns) same.0;
          marks = λ so_far. rw is refl;
        }
    simulated_before k s0 to e false is more h =
        let x : State = called flat (unwrap_or (main_of flat) 0) [] None (with_phase s0 before) in
        let y : State = called made (unwrap_or (main_of made) 0) [] None (with_phase s0 before) in
        let went : run_to flat under n k x ≡ Some (to, e) = subst (λ b. (if b then Some (with_phase s0 before, Paused) else run_to flat under n k x) ≡ Some (to, e)) is h in
        let rest = more x y (started s0) went in
        record {
          steps = suc rest.steps;
          last = rest.last;
          ends = ap (λ b. if b then Some (with_phase s0 before, Paused) else run_to made under n rest.steps y) is ∙ rest.ends;
          output = rest.output;
          turns = rest.turns;
          marks = λ so_far.
              ap (λ b. if b then so_far else sees made rest.steps y (so_far ++ [])) is ∙ rest.marks (so_far ++ []) ∙ sym (ap (λ b. if b then so_far else sees flat k x (so_far ++ [])) is);
        }

    simulated_over : (k : ℕ) (s0 to : State) (e : Ending) → run_to flat under n (suc k) (with_phase s0 over) ≡ Some (to, e) → Simulated (suc k) (with_phase s0 over) (with_phase s0 over) to e
    simulated_over k s0 to e h =
        let same = same_pair (with_phase s0 over) to (Ended (pos 0)) e (run_to flat under n (suc k) (with_phase s0 over)) refl h in
        record {
          steps = 1;
          last = with_phase s0 over;
          ends = ap (λ f. Some (with_phase s0 over, f)) same.1;
          output = ap (λ (q : State). q.output) same.0;
          turns = ap (λ (q : State). q.turns) same.0;
          marks = λ so_far. refl;
        }

    simulated_phase : (k : ℕ) (p p' : Phase) (s0 to : State) (e : Ending) → PhaseFits flat p p' → Simulates k to e → run_to flat under n (suc k) (with_phase s0 p) ≡ Some (to, e)
        → Simulated (suc k) (with_phase s0 p) (with_phase s0 p') to e
    simulated_phase k p p' s0 to e fits_before more h = simulated_before k s0 to e (nat_le n s0.turns) refl more h
    simulated_phase k p p' s0 to e (fits_running frame frame' callers callers' fit fits) more h = simulated_running k frame frame' callers callers' s0 to e fit fits more h
    simulated_phase k p p' s0 to e fits_over more h = simulated_over k s0 to e h

    simulated : (k : ℕ) (to : State) (e : Ending) → Simulates k to e
    simulated zero to e x y follows h = absurd (nothing_ends x to e h)
      where
        nothing_ends : (x to : State) (e : Ending) → run_to flat under n 0 x ≡ Some (to, e) → ⊥
        nothing_ends x to e h = elim (no_some (to, e) h) [ ]
          where
            no_some : (p : State × Ending) → run_to flat under n 0 x ≡ Some p → ⊥
            no_some p h = absurd (cc)
    simulated (suc k) to e x y follows h =
        subst (λ z. Simulated (suc k) x z to e) (sym follows.is) (simulated_phase k x.phase y.phase x to e follows.phase (simulated k to e) h)

    -- what the plain program means, the rewritten one means
    pub means_made : (m : Meaning) → Means flat under n m → Means made under n m
    means_made m means =
        let run = simulated means.steps means.last m.ending (begin flat) (begin made) (record { phase = fits_before; is = refl }) means.ends in
        record {
          steps = run.steps;
          last = run.last;
          ends = run.ends;
          output_is = means.output_is ∙ sym run.output;
          turns_are = means.turns_are ∙ sym run.turns;
          marks_are = means.marks_are ∙ sym (run.marks []);
        }

-- and nothing else, as the plain program has a meaning and the rewritten one has only one
pub means_plain : RunsEnd → ((flat : Flat) (under : Environment) (n : ℕ) → IsOneRun flat under n) → (flat : Flat) (under : Environment) (n : ℕ) (m : Meaning) → IsValid sort.Plain flat → HasRoom flat
    → Means (rewritten flat) under n m → Means flat under n m
means_plain ends one flat under n m valid room means =
    let run = ends sort.Plain flat under n (begin flat) valid in
    let own : Meaning = record { output = run.0.output; marks = marks_to flat under n run.1.1.steps (begin flat); turns = run.0.turns; ending = run.1.0 } in
    let plain : Means flat under n own = record { steps = run.1.1.steps; last = run.0; ends = run.1.1.ends; output_is = refl; turns_are = refl; marks_are = refl } in
    subst (λ m. Means flat under n m) ((one (rewritten flat) under n).meaning own m (means_made flat under n room own plain) means) plain
