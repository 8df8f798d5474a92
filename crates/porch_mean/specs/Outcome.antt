-- How the evaluation of an expression or a statement comes out, and how evaluations follow one another.
use Rattle.std.specs.Prelude.{ℕ, ℤ, pos, nat_le, Bool, true, false, not, List, [], ◌∷◌, Result, Ok, Err}
use Rattle.std.specs.Ordering.{int_eq}
use Rattle.porch_values.specs.declared.acts.Act.{Act}
use Rattle.porch_values.specs.declared.acts.Act.TheVariants.{Indeterminate}
use Rattle.porch_objects.specs.Store.{Value, number, null, pointer, past, indeterminate, seen}
use Rattle.porch_objects.specs.Meaning.{Progress, with_turn}

-- how a statement is left before its end
pub data Leaving : Type 0 where
  -- by break
  broke : Leaving
  -- by continue
  went_round : Leaving
  -- by return: with a value, or with `indeterminate` where none is given
  gave : Value → Leaving

pub data Outcome : Type 0 where
  -- It is over. An expression has its value; one without a value, and a statement, has `indeterminate`.
  Went : (v : Value) → (s : Progress) → Outcome
  -- a statement was left before its end
  Left : (how : Leaving) → (s : Progress) → Outcome
  -- an undefined act was met
  Undefined : (a : Act) → (s : Progress) → Outcome
  -- one more turn would begin, and all that are allowed were counted
  Stopped : (s : Progress) → Outcome

-- a call: the function's number, the values of its arguments, and how far the run has come
abbrev pub Calls : Type 0
Calls = (function : ℕ) → List Value → Progress → Outcome

-- something is over, and has no value
abbrev pub done : Progress → Outcome
done s = Went indeterminate s

-- what follows where an evaluation goes on
abbrev pub and_then : Outcome → (Value → Progress → Outcome) → Outcome
and_then (Went v s) go = go v s
and_then (Left how s) go = Left how s
and_then (Undefined a s) go = Undefined a s
and_then (Stopped s) go = Stopped s

-- what follows a result; an undefined act ends the run
abbrev pub with_result : {A : Type 0} → Result A Act → Progress → (A → Progress → Outcome) → Outcome
with_result (Ok x) s go = go x s
with_result (Err a) s go = Undefined a s

-- one of two ways to go on
abbrev pub either : Bool → (Progress → Outcome) → (Progress → Outcome) → Progress → Outcome
either true first second s = first s
either false first second s = second s

-- How a value is used. It may have been held while something else was evaluated: a pointer to an object that has ended
-- since, or a shared end over a checkpoint(), is indeterminate by now.

abbrev pub with_determinate : Value → Progress → (Value → Progress → Outcome) → Outcome
with_determinate indeterminate s go = Undefined Indeterminate s
with_determinate v s go = go v s

-- A value is used: Indeterminate where it has none by now.
abbrev pub use_value : Value → Progress → (Value → Progress → Outcome) → Outcome
use_value v s go = with_determinate (seen s.store v) s go

-- a number; in a typed program an integer's value is one, or there is none
abbrev pub with_number : Value → Progress → (ℤ → Progress → Outcome) → Outcome
with_number (number z) s go = go z s
with_number _ s go = Undefined Indeterminate s

abbrev pub use_number : Value → Progress → (ℤ → Progress → Outcome) → Outcome
use_number v s go = with_number (seen s.store v) s go

-- a number other than 0 is true, and so is a pointer other than null
abbrev pub with_truth : Value → Progress → (Bool → Progress → Outcome) → Outcome
with_truth (number z) s go = go (not (int_eq z (pos 0))) s
with_truth null s go = go false s
with_truth (pointer home leaf) s go = go true s
with_truth (past home leaf until) s go = go true s
with_truth indeterminate s go = Undefined Indeterminate s

-- A condition uses its value.
abbrev pub use_truth : Value → Progress → (Bool → Progress → Outcome) → Outcome
use_truth v s go = with_truth (seen s.store v) s go

-- several values, in order
abbrev pub use_all : List Value → Progress → (List Value → Progress → Outcome) → Outcome
use_all [] s go = go [] s
use_all (v ∷ vs) s go = use_value v s (λ x s. use_all vs s (λ xs s. go (x ∷ xs) s))

-- Turns. Each call and each start of a loop's body counts one; before one too many the run stops.

abbrev pub unless_paused : (n : ℕ) → Progress → (Progress → Outcome) → Outcome
unless_paused n s go = either (nat_le n s.turns) (λ s. Stopped s) go s

abbrev pub count_turn : (n : ℕ) → Progress → (Progress → Outcome) → Outcome
count_turn n s go = unless_paused n s (λ s. go (with_turn s))
