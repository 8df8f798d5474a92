-- How a flat run follows an evaluation of the source: where that goes on the run arrives there, and where it ends the run
-- ends alike.
use Rattle.std.proofs.Common.{◌≡◌, ℕ, List, Bool, true, false, refl}
use Rattle.std.specs.Prelude.{Result, Ok, Err}
use Rattle.porch_values.specs.declared.acts.Act.{Act}
use Rattle.porch_objects.specs.Store.{Value}
use Rattle.porch_objects.specs.Meaning.{Environment, Mark, Progress, Ending, Met, Paused}
use Rattle.porch_flat.specs.declared.whole.Flat.{Flat}
use Rattle.porch_abstract.specs.Machine.{State}
use Rattle.porch_mean.specs.Outcome.{Outcome, Went, Left, Undefined, Stopped, and_then, with_result, either}
use Rattle.porch_lowered.proofs.Runs.{RunsTo, GoesOn}

module _ (flat : Flat) (under : Environment) (n : ℕ) where
  -- the run from a state ends as the source does, which has come so far
  pub record EndsIn (here : State) (before : List Mark) (e : Ending) (s : Progress) : Type 0 where
    pub last : State
    pub runs : RunsTo flat under n here before last e s.marks
    pub output : last.output ≡ s.output
    pub turns : last.turns ≡ s.turns

  -- The run follows: `arrives` says what holds where the evaluation goes on with a value.
  abbrev pub Follows : Outcome → (here : State) → (before : List Mark) → (arrives : Value → Progress → Type 0) → Type 0
  Follows (Went v s) here before arrives = arrives v s
  Follows (Left how s) here before arrives = ⊥
  Follows (Undefined a s) here before arrives = EndsIn here before (Met a) s
  Follows (Stopped s) here before arrives = EndsIn here before Paused s

  pub ends_from : (here there : State) (before behind : List Mark) (e : Ending) (s : Progress) → GoesOn flat under n here before there behind
      → EndsIn there behind e s → EndsIn here before e s
  ends_from here there before behind e s on x =
      record { last = x.last; runs = on x.last e s.marks x.runs; output = x.output; turns = x.turns }

  -- what follows from there, follows from here
  pub follows_from : (o : Outcome) (here there : State) (before behind : List Mark) (near far : Value → Progress → Type 0)
      → GoesOn flat under n here before there behind → ((v : Value) (s : Progress) → far v s → near v s)
      → Follows o there behind far → Follows o here before near
  follows_from (Went v s) here there before behind near far on to x = to v s x
  follows_from (Left how s) here there before behind near far on to x = x
  follows_from (Undefined a s) here there before behind near far on to x = ends_from here there before behind (Met a) s on x
  follows_from (Stopped s) here there before behind near far on to x = ends_from here there before behind Paused s on x

  -- one evaluation, and then another
  pub follows_then : (o : Outcome) (go : Value → Progress → Outcome) (here : State) (before : List Mark) (first second : Value → Progress → Type 0)
      → Follows o here before first → ((v : Value) (s : Progress) → first v s → Follows (go v s) here before second)
      → Follows (and_then o go) here before second
  follows_then (Went v s) go here before first second x k = k v s x
  follows_then (Left how s) go here before first second x k = x
  follows_then (Undefined a s) go here before first second x k = x
  follows_then (Stopped s) go here before first second x k = x

  -- the same, where it is known what the first came to
  pub follows_then_is : (o : Outcome) (go : Value → Progress → Outcome) (here : State) (before : List Mark) (first second : Value → Progress → Type 0)
      → Follows o here before first → ((v : Value) (s : Progress) → o ≡ Went v s → first v s → Follows (go v s) here before second)
      → Follows (and_then o go) here before second
  follows_then_is (Went v s) go here before first second x k = k v s refl x
  follows_then_is (Left how s) go here before first second x k = x
  follows_then_is (Undefined a s) go here before first second x k = x
  follows_then_is (Stopped s) go here before first second x k = x

  -- what is known where it goes on, with what it came to
  pub follows_is : (o : Outcome) (here : State) (before : List Mark) (first second : Value → Progress → Type 0)
      → Follows o here before first → ((v : Value) (s : Progress) → o ≡ Went v s → first v s → second v s)
      → Follows o here before second
  follows_is (Went v s) here before first second x k = k v s refl x
  follows_is (Left how s) here before first second x k = x
  follows_is (Undefined a s) here before first second x k = x
  follows_is (Stopped s) here before first second x k = x

  -- what a result leads to
  pub follows_with : (r : Result Value Act) (s : Progress) (go : Value → Progress → Outcome) (here : State) (before : List Mark) (first second : Value → Progress → Type 0)
      → Follows (with_result r s (λ v s. Went v s)) here before first → ((v : Value) → first v s → Follows (go v s) here before second)
      → Follows (with_result r s go) here before second
  follows_with (Ok v) s go here before first second x k = k v x
  follows_with (Err a) s go here before first second x k = x

  -- one of two ways
  pub follows_either : (b : Bool) (go went : Progress → Outcome) (s : Progress) (here : State) (before : List Mark) (arrives : Value → Progress → Type 0)
      → (b ≡ true → Follows (go s) here before arrives) → (b ≡ false → Follows (went s) here before arrives)
      → Follows (either b go went s) here before arrives
  follows_either true go went s here before arrives x y = x refl
  follows_either false go went s here before arrives x y = y refl

  -- a result: an act ends the run
  pub follows_result : {A : Type 0} (r : Result A Act) (s : Progress) (go : A → Progress → Outcome) (here : State) (before : List Mark) (arrives : Value → Progress → Type 0)
      → ((x : A) → r ≡ Ok x → Follows (go x s) here before arrives) → ((a : Act) → r ≡ Err a → EndsIn here before (Met a) s)
      → Follows (with_result r s go) here before arrives
  follows_result (Ok x) s go here before arrives k m = k x refl
  follows_result (Err a) s go here before arrives k m = m a refl
