-- What a program means: calls by number, and the run of `main`.
use Rattle.std.specs.Prelude.{ℕ, zero, suc, pos, nat_eq, Bool, true, [], map, slice_get, Option, Some, None}
use Rattle.porch_values.specs.declared.acts.Act.TheVariants.{Indeterminate}
use Rattle.porch_objects.specs.Store.{Value, number, indeterminate, entered, left}
use Rattle.porch_objects.specs.Meaning.{Environment, Progress, beginning, with_store, with_turn, Meaning, Ending, Ended, Met, Paused}
use Rattle.porch_typed.specs.Mirror.{Function, Program}
use Rattle.porch_mean.specs.Outcome.{gave, Outcome, Went, Left, Undefined, Stopped, Calls, use_all, unless_paused}
use Rattle.porch_mean.specs.Initial.{global_object, variables_with}
use Rattle.porch_mean.specs.Statement.{acts}

-- what a call gives: without a value the call of main gives 0
abbrev pub value_given : (of_main : Bool) → Value → Value
value_given true indeterminate = number (pos 0)
value_given of_main v = v

-- the call's variables end with it
abbrev pub leave_call : Progress → Progress
leave_call s = with_store s (left s.store)

-- behind a function's body, in the caller
abbrev pub behind_call : (of_main : Bool) → Outcome → Outcome
behind_call of_main (Left (gave v) s) = Went (value_given of_main v) (leave_call s)
behind_call of_main (Left how s) = Went (value_given of_main indeterminate) (leave_call s)
behind_call of_main (Went v s) = Went (value_given of_main indeterminate) (leave_call s)
behind_call of_main (Undefined a s) = Undefined a s
behind_call of_main (Stopped s) = Stopped s

-- A call's variables are objects from its beginning to its end. There is each function that a typed program calls.
abbrev pub run_body : Program → Environment → ℕ → Calls → Option Function → Calls
run_body p under n enter None function vs s = Undefined Indeterminate s
run_body p under n enter (Some f) function vs s =
    behind_call (nat_eq function p.main)
    (acts p under n enter s.store.called f.variables f.body (with_store s (entered s.store (variables_with p.types f.variables vs))))

-- Calls nested at most so deep. When the arguments are evaluated the run stops where all turns were counted; else the
-- arguments that were held are used again, and the call counts a turn.
unfoldable pub enter_to : (depth : ℕ) → Program → Environment → (n : ℕ) → Calls
enter_to zero p under n function vs s = Stopped s
enter_to (suc depth) p under n function vs s =
    unless_paused n s (λ s.
    use_all vs s (λ vs s.
    run_body p under n (enter_to depth p under n) (slice_get p.functions function) function vs (with_turn s)))

abbrev pub meaning_at : Progress → Ending → Meaning
meaning_at s ending = record { output = s.output; marks = s.marks; turns = s.turns; ending = ending }

-- main's value is a number, and nothing is left behind its end
abbrev pub meaning_of : Outcome → Meaning
meaning_of (Went (number z) s) = meaning_at s (Ended z)
meaning_of (Went v s) = meaning_at s (Met Indeterminate)
meaning_of (Left how s) = meaning_at s (Met Indeterminate)
meaning_of (Undefined a s) = meaning_at s (Met a)
meaning_of (Stopped s) = meaning_at s Paused

-- before turn 1: the globals are there
abbrev pub begin : Program → Progress
begin p = beginning (map (global_object p.types) p.globals)

-- The meaning of a program in an environment, for a number of turns. Calls that are nested deeper than n + 1 don't come:
-- each counts a turn.
abbrev pub mean : Program → Environment → (n : ℕ) → Meaning
mean p under n = meaning_of (enter_to (suc n) p under n p.main [] (begin p))
