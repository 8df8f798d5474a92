-- Runs of a flat program from a state, with the marks so far: what a run comes to from there, it comes to from here.
use Rattle.std.proofs.Common.{◌≡◌, ℕ, suc, List, [], ◌++◌, Bool, true, false, refl, sym, ap, ◌∙◌, append-nil, Option, Some}
use Rattle.std.specs.Prelude.{if◌then◌else◌}
use Rattle.porch_values.specs.declared.acts.Act.{Act}
use Rattle.porch_objects.specs.Meaning.{Environment, Mark, Ending, Met, Paused}
use Rattle.porch_flat.specs.declared.whole.Command.{Command}
use Rattle.porch_flat.specs.declared.whole.Flat.{Flat}
use Rattle.porch_abstract.specs.Machine.{State, Next, Goes, Meets}
use Rattle.porch_abstract.specs.Run.{if_goes}
use Rattle.porch_abstract.specs.whole.Machine.{begin, next}
use Rattle.porch_abstract.specs.whole.Run.{marks_of, command_in, is_paused, run_to, then_on, observed, Means}

module _ (flat : Flat) (under : Environment) (n : ℕ) where
  abbrev see : State → Option Command → List Mark → List Mark
  see s command marks = marks ++ marks_of flat s command

  -- The run from a state ends there, and with the marks before it there are these.
  pub record RunsTo (from : State) (before : List Mark) (to : State) (e : Ending) (marks : List Mark) : Type 0 where
    pub steps : ℕ
    pub ends : run_to flat under n steps from ≡ Some (to, e)
    pub told : observed flat under n see steps from before ≡ marks

  abbrev pub GoesOn : (here : State) → (before : List Mark) → (there : State) → (behind : List Mark) → Type 0
  GoesOn here before there behind =
      (to : State) (e : Ending) (marks : List Mark) → RunsTo there behind to e marks → RunsTo here before to e marks

  pub stays : (here : State) (before : List Mark) → GoesOn here before here before
  stays here before to e marks r = r

  pub chain : (a b c : State) (x y z : List Mark) → GoesOn a x b y → GoesOn b y c z → GoesOn a x c z
  chain a b c x y z f g to e marks r = f to e marks (g to e marks r)

  by_goes : {A : Type 0} (b : Bool) (x : Next) (there : State) (stop : A) (go : Next → A) → b ≡ false → x ≡ Goes there
      → (if b then stop else go x) ≡ go (Goes there)
  by_goes b x there stop go p q = rw (p, q) refl

  by_pause : {A : Type 0} (b : Bool) (stop more : A) → b ≡ true → (if b then stop else more) ≡ stop
  by_pause b stop more p = rw p refl

  -- the marks of the command that is taken in a state
  abbrev pub marks_here : State → List Mark
  marks_here s = marks_of flat s (command_in flat under s.phase)

  pub step_goes : (here there : State) (before : List Mark) → is_paused flat under n here ≡ false → next flat under here ≡ Goes there
      → GoesOn here before there (before ++ marks_here here)
  step_goes here there before p q to e marks r =
      record {
        steps = suc r.steps;
        ends =
            by_goes (is_paused flat under n here) (next flat under here) there (Some (here, Paused))
            (λ x. then_on flat under here x (λ to. run_to flat under n r.steps to)) p q
            ∙ r.ends;
        told =
            by_goes (is_paused flat under n here) (next flat under here) there before
            (λ x. if_goes x (before ++ marks_here here) (λ to. observed flat under n see r.steps to (before ++ marks_here here))) p q
            ∙ r.told;
      }

  -- a step that tells nothing
  pub step_quietly : (here there : State) (before : List Mark) → is_paused flat under n here ≡ false → next flat under here ≡ Goes there
      → marks_here here ≡ [] → GoesOn here before there before
  step_quietly here there before p q silent =
      let same : before ++ marks_here here ≡ before = ap (λ more. before ++ more) silent ∙ append-nil before in
      rw same at (step_goes here there before p q)

  by_meets : {A : Type 0} (b : Bool) (x : Next) (a : Act) (stop : A) (go : Next → A) → b ≡ false → x ≡ Meets a
      → (if b then stop else go x) ≡ go (Meets a)
  by_meets b x a stop go p q = rw (p, q) refl

  -- an act ends the run
  pub step_meets : (here : State) (before : List Mark) (a : Act) → is_paused flat under n here ≡ false → next flat under here ≡ Meets a
      → marks_here here ≡ [] → RunsTo here before here (Met a) before
  step_meets here before a p q silent =
      record {
        steps = 1;
        ends =
            by_meets (is_paused flat under n here) (next flat under here) a (Some (here, Paused))
            (λ x. then_on flat under here x (λ to. run_to flat under n 0 to)) p q;
        told =
            by_meets (is_paused flat under n here) (next flat under here) a before
            (λ x. if_goes x (before ++ marks_here here) (λ to. observed flat under n see 0 to (before ++ marks_here here))) p q
            ∙ ap (λ more. before ++ more) silent ∙ append-nil before;
      }

  -- one turn too many would begin
  pub step_pauses : (here : State) (before : List Mark) → is_paused flat under n here ≡ true → RunsTo here before here Paused before
  step_pauses here before p =
      record {
        steps = 1;
        ends = by_pause (is_paused flat under n here) (Some (here, Paused)) (then_on flat under here (next flat under here) (λ to. run_to flat under n 0 to)) p;
        told =
            by_pause (is_paused flat under n here) before
            (if_goes (next flat under here) (before ++ marks_here here) (λ to. observed flat under n see 0 to (before ++ marks_here here))) p;
      }

  -- the run of the whole program is its meaning
  pub means : (last : State) (e : Ending) (marks : List Mark) → RunsTo (begin flat) [] last e marks
      → Means flat under n (record { output = last.output; marks = marks; turns = last.turns; ending = e })
  means last e marks r =
      record { steps = r.steps; last = last; ends = r.ends; output_is = refl; turns_are = refl; marks_are = sym r.told }
