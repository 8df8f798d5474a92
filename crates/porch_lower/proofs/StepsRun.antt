-- Runs of the flat machine, step by step: what a run comes to from there, it comes to from here.
use Rattle.std.proofs.Common.{◌≡◌, ℕ, suc, List, Bool, true, false, refl, ◌∙◌, Option, Some}
use Rattle.std.specs.Prelude.{if◌then◌else◌, ℤ}
use Rattle.porch_values.specs.declared.acts.Act.{Act}
use Rattle.porch_objects.specs.Meaning.{Environment, Ending, Ended, Met, Paused}
use Rattle.porch_flat.specs.declared.flat.Flat.{Flat}
use Rattle.porch_abstract.specs.Machine.{State, Next, Goes, Ends, Meets, next}
use Rattle.porch_abstract.specs.Run.{is_paused, run_to, then_on}

module _ (flat : Flat) (under : Environment) (n : ℕ) where
  pub GoesOn : State → State → Type 0
  GoesOn here there = (k : ℕ) (to : State) (e : Ending) → run_to flat under n k there ≡ Some (to, e) → (m : ℕ) × (run_to flat under n m here ≡ Some (to, e))

  -- the run from a state ends with this output and these turns
  pub record EndsWith (here : State) (output : List ℕ) (turns : ℕ) (e : Ending) : Type 0 where
    pub steps : ℕ
    pub last : State
    pub ends : run_to flat under n steps here ≡ Some (last, e)
    pub output_is : last.output ≡ output
    pub turns_are : last.turns ≡ turns

  by_goes : (b : Bool) (x : Next) (s there : State) (more : State → Option (State × Ending)) → b ≡ false → x ≡ Goes there → (if b then Some (s, Paused) else then_on flat under s x more) ≡ more there
  by_goes b x s there more p q = rw (p, q) refl

  by_ends : (b : Bool) (x : Next) (s there : State) (z : ℤ) (more : State → Option (State × Ending)) → b ≡ false → x ≡ Ends z there → (if b then Some (s, Paused) else then_on flat under s x more) ≡ Some (there, Ended z)
  by_ends b x s there z more p q = rw (p, q) refl

  by_meets : (b : Bool) (x : Next) (s : State) (a : Act) (more : State → Option (State × Ending)) → b ≡ false → x ≡ Meets a → (if b then Some (s, Paused) else then_on flat under s x more) ≡ Some (s, Met a)
  by_meets b x s a more p q = rw (p, q) refl

  by_over : (b : Bool) (s : State) (more : Option (State × Ending)) → b ≡ true → (if b then Some (s, Paused) else more) ≡ Some (s, Paused)
  by_over b s more p = rw p refl

  pub stays : (s : State) → GoesOn s s
  unfolding GoesOn
  stays s k to e r = (k, r)

  pub chain : (r s t : State) → GoesOn r s → GoesOn s t → GoesOn r t
  unfolding GoesOn
  chain r s t f g k to e h = let m = g k to e h in f m.0 to e m.1

  pub step_goes : (here there : State) → is_paused flat under n here ≡ false → next flat under here ≡ Goes there → GoesOn here there
  unfolding GoesOn
  step_goes here there p q k to e r = (suc k, by_goes (is_paused flat under n here) (next flat under here) here there (λ to. run_to flat under n k to) p q ∙ r)

  pub step_ends : (here there : State) (z : ℤ) → is_paused flat under n here ≡ false → next flat under here ≡ Ends z there → EndsWith here there.output there.turns (Ended z)
  step_ends here there z p q = record {
    steps = 1;
    last = there;
    ends = by_ends (is_paused flat under n here) (next flat under here) here there z (λ to. run_to flat under n 0 to) p q;
    output_is = refl;
    turns_are = refl;
  }

  pub step_meets : (here : State) (a : Act) → is_paused flat under n here ≡ false → next flat under here ≡ Meets a → EndsWith here here.output here.turns (Met a)
  step_meets here a p q = record {
    steps = 1;
    last = here;
    ends = by_meets (is_paused flat under n here) (next flat under here) here a (λ to. run_to flat under n 0 to) p q;
    output_is = refl;
    turns_are = refl;
  }

  pub step_over : (here : State) → is_paused flat under n here ≡ true → EndsWith here here.output here.turns Paused
  step_over here p = record {
    steps = 1;
    last = here;
    ends = by_over (is_paused flat under n here) here (then_on flat under here (next flat under here) (λ to. run_to flat under n 0 to)) p;
    output_is = refl;
    turns_are = refl;
  }

  -- an end there is an end from here
  pub comes : (here there : State) (output : List ℕ) (turns : ℕ) (e : Ending) → GoesOn here there → EndsWith there output turns e → EndsWith here output turns e
  unfolding GoesOn
  comes here there output turns e f r =
      let m = f r.steps r.last e r.ends in
      record { steps = m.0; last = r.last; ends = m.1; output_is = r.output_is; turns_are = r.turns_are }
