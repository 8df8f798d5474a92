-- A run has one end, and tells one list.
use Rattle.std.proofs.Common.{◌≡◌, ℕ, zero, suc, ◌+◌, Bool, true, false, List, [], ◌++◌, refl, sym, ap, ◌∙◌, arith, add_comm, Option, Some}
use Rattle.std.specs.Prelude.{if◌then◌else◌}
use Rattle.porch_objects.specs.Meaning.{Environment, Mark, Meaning, Ending, Paused}
use Rattle.porch_flat.specs.declared.whole.Command.{Command}
use Rattle.porch_flat.specs.declared.whole.Flat.{Flat}
use Rattle.porch_abstract.specs.Machine.{State, Next, Goes, Ends, Meets}
use Rattle.porch_abstract.specs.whole.Machine.{begin, next}
use Rattle.porch_abstract.specs.Run.{if_goes}
use Rattle.porch_abstract.specs.whole.Run.{command_in, is_paused, run_to, then_on, observed, told, marks_of, marks_to, Means, IsOneRun, TellsNothing}

same_some : (a b : State × Ending) → Some a ≡ Some b → a ≡ b
same_some a b h = cc

same_end : (r r' : Option (State × Ending)) (to to' : State) (e e' : Ending) → r ≡ r' → r ≡ Some (to, e) → r' ≡ Some (to', e') → (to ≡ to') × (e ≡ e')
same_end r r' to to' e e' h f g =
    let p = same_some (to, e) (to', e') (sym f ∙ h ∙ g) in
    (ap (λ (x : State × Ending). x.0) p, ap (λ (x : State × Ending). x.1) p)

meaning_by : List ℕ → List Mark → ℕ → Ending → Meaning
meaning_by output marks turns ending = record { output = output; marks = marks; turns = turns; ending = ending }

same_meaning : (m m' : Meaning) (to to' : State) (a b : List Mark) → (to ≡ to') × (m.ending ≡ m'.ending) → m.output ≡ to.output → m'.output ≡ to'.output → m.turns ≡ to.turns → m'.turns ≡ to'.turns
    → m.marks ≡ a → m'.marks ≡ b → a ≡ b → m ≡ m'
unfolding meaning_by
same_meaning m m' to to' a b s oa ob ta tb ma mb same =
    ap (λ (o : List ℕ). meaning_by o m.marks m.turns m.ending) (oa ∙ ap (λ (x : State). x.output) s.0 ∙ sym ob)
    ∙ ap (λ (k : List Mark). meaning_by m'.output k m.turns m.ending) (ma ∙ same ∙ sym mb)
    ∙ ap (λ (t : ℕ). meaning_by m'.output m'.marks t m.ending) (ta ∙ ap (λ (x : State). x.turns) s.0 ∙ sym tb)
    ∙ ap (λ (e : Ending). meaning_by m'.output m'.marks m'.turns e) s.1

module _ (flat : Flat) (under : Environment) (n : ℕ) where
  longer_then : (k more : ℕ) (from to : State) (e : Ending) (r : Next) → ((s : State) → run_to flat under n k s ≡ Some (to, e) → run_to flat under n (k + more) s ≡ Some (to, e))
      → then_on flat under from r (λ s. run_to flat under n k s) ≡ Some (to, e) → then_on flat under from r (λ s. run_to flat under n (k + more) s) ≡ Some (to, e)
  longer_then k more from to e (Goes s) f h = f s h
  longer_then k more from to e (Ends z s) f h = h
  longer_then k more from to e (Meets a) f h = h

  longer_if : (b : Bool) (p q r : Option (State × Ending)) → (q ≡ r → p ≡ r) → (paused : Option (State × Ending)) → (if b then paused else q) ≡ r → (if b then paused else p) ≡ r
  longer_if true p q r f paused h = h
  longer_if false p q r f paused h = f h

  pub longer : (k more : ℕ) (from to : State) (e : Ending) → run_to flat under n k from ≡ Some (to, e) → run_to flat under n (k + more) from ≡ Some (to, e)
  longer zero more from to e h = cc
  longer (suc k) more from to e h =
      let same : suc k + more ≡ suc (k + more) = omega arith in
      rw same (longer_if (is_paused flat under n from) (then_on flat under from (next flat under from) (λ s. run_to flat under n (k + more) s))
      (then_on flat under from (next flat under from) (λ s. run_to flat under n k s)) (Some (to, e))
      (longer_then k more from to e (next flat under from) (λ s. longer k more s to e)) (Some (from, Paused)) h)

  pub one : (k l : ℕ) (from to to' : State) (e e' : Ending) → run_to flat under n k from ≡ Some (to, e) → run_to flat under n l from ≡ Some (to', e') → (to ≡ to') × (e ≡ e')
  one k l from to to' e e' h g =
      same_end (run_to flat under n (k + l) from) (run_to flat under n (l + k) from) to to' e e' (ap (λ m. run_to flat under n m from) (add_comm k l)) (longer k l from to e h) (longer l k from to' e' g)

  module _ (see : State → Option Command → List Mark → List Mark) where
    observed_then : (k more : ℕ) (from to : State) (e : Ending) (r : Next) (marks : List Mark)
        → ((s : State) → run_to flat under n k s ≡ Some (to, e) → observed flat under n see (k + more) s marks ≡ observed flat under n see k s marks)
        → then_on flat under from r (λ s. run_to flat under n k s) ≡ Some (to, e)
        → if_goes r marks (λ s. observed flat under n see (k + more) s marks) ≡ if_goes r marks (λ s. observed flat under n see k s marks)
    observed_then k more from to e (Goes s) marks f h = f s h
    observed_then k more from to e (Ends z s) marks f h = refl
    observed_then k more from to e (Meets a) marks f h = refl

    observed_if : (b : Bool) (paused r q : Option (State × Ending)) (so_far more less : List Mark) → (q ≡ r → more ≡ less) → (if b then paused else q) ≡ r
        → (if b then so_far else more) ≡ (if b then so_far else less)
    observed_if true paused r q so_far more less f h = refl
    observed_if false paused r q so_far more less f h = f h

    -- Nothing is seen behind the end of a run.
    observed_longer : (k more : ℕ) (from to : State) (e : Ending) (marks : List Mark) → run_to flat under n k from ≡ Some (to, e)
        → observed flat under n see (k + more) from marks ≡ observed flat under n see k from marks
    observed_longer zero more from to e marks h = cc
    observed_longer (suc k) more from to e marks h =
        let same : suc k + more ≡ suc (k + more) = omega arith in
        let next_marks : List Mark = see from (command_in flat under from.phase) marks in
        rw same (observed_if (is_paused flat under n from) (Some (from, Paused)) (Some (to, e)) (then_on flat under from (next flat under from) (λ s. run_to flat under n k s)) marks
        (if_goes (next flat under from) next_marks (λ s. observed flat under n see (k + more) s next_marks)) (if_goes (next flat under from) next_marks (λ s. observed flat under n see k s next_marks))
        (observed_then k more from to e (next flat under from) next_marks (λ s. observed_longer k more s to e next_marks)) h)

  pub told_longer : (tells : State → Option Command → List Mark) (k more : ℕ) (from to : State) (e : Ending) → run_to flat under n k from ≡ Some (to, e)
      → told flat under n tells (k + more) from ≡ told flat under n tells k from
  told_longer tells k more from to e h = observed_longer (λ s command marks. marks ++ tells s command) k more from to e [] h

  -- two counts of steps that reach the end tell one list
  told_once : (tells : State → Option Command → List Mark) (k l : ℕ) (from to to' : State) (e e' : Ending) → run_to flat under n k from ≡ Some (to, e) → run_to flat under n l from ≡ Some (to', e')
      → told flat under n tells k from ≡ told flat under n tells l from
  told_once tells k l from to to' e e' h g =
      sym (told_longer tells k l from to e h) ∙ ap (λ m. told flat under n tells m from) (add_comm k l) ∙ told_longer tells l k from to' e' g

  meaning : (m m' : Meaning) → Means flat under n m → Means flat under n m' → m ≡ m'
  meaning m m' p q =
      same_meaning m m' p.last q.last (marks_to flat under n p.steps (begin flat)) (marks_to flat under n q.steps (begin flat))
      (one p.steps q.steps (begin flat) p.last q.last m.ending m'.ending p.ends q.ends)
      p.output_is q.output_is p.turns_are q.turns_are p.marks_are q.marks_are
      (told_once (marks_of flat) p.steps q.steps (begin flat) p.last q.last m.ending m'.ending p.ends q.ends)

  pub one_run : IsOneRun flat under n
  one_run = record { longer = longer; one = one; told_longer = told_longer; meaning = meaning }

nothing_more : (marks more : List Mark) → marks ≡ [] → more ≡ [] → marks ++ more ≡ []
nothing_more marks more h g = rw (h, g) refl

nothing_if : (b : Bool) (so_far more : List Mark) → so_far ≡ [] → more ≡ [] → (if b then so_far else more) ≡ []
nothing_if true so_far more h g = h
nothing_if false so_far more h g = g

nothing_then : (r : Next) (marks : List Mark) (go : State → List Mark) → marks ≡ [] → ((s : State) → go s ≡ []) → if_goes r marks go ≡ []
nothing_then (Goes s) marks go h g = g s
nothing_then (Ends z s) marks go h g = h
nothing_then (Meets a) marks go h g = h

nothing_observed : (flat : Flat) (under : Environment) (n k : ℕ) (tells : State → Option Command → List Mark) (s : State) (marks : List Mark)
    → ((s : State) (command : Option Command) → tells s command ≡ []) → marks ≡ [] → observed flat under n (λ s command marks. marks ++ tells s command) k s marks ≡ []
nothing_observed flat under n zero tells s marks silent h = h
nothing_observed flat under n (suc k) tells s marks silent h =
    let more : List Mark = marks ++ tells s (command_in flat under s.phase) in
    let none : more ≡ [] = nothing_more marks (tells s (command_in flat under s.phase)) h (silent s (command_in flat under s.phase)) in
    nothing_if (is_paused flat under n s) marks (if_goes (next flat under s) more (λ to. observed flat under n (λ s command marks. marks ++ tells s command) k to more)) h
    (nothing_then (next flat under s) more (λ to. observed flat under n (λ s command marks. marks ++ tells s command) k to more) none (λ to. nothing_observed flat under n k tells to more silent none))

pub tells_nothing : TellsNothing
tells_nothing flat under n k tells s silent = nothing_observed flat under n k tells s [] silent refl
