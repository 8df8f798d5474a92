-- What statements do.
use Rattle.std.specs.Prelude.{ℕ, zero, suc, ℤ, Bool, true, false, List, slice_index, Option, Some, None}
use Rattle.std.specs.Ordering.{int_eq}
use Rattle.porch_objects.specs.Store.{of_call, pointer, indeterminate, forgotten}
use Rattle.porch_objects.specs.Meaning.{Environment, Progress, with_store}
use Rattle.porch_typed.specs.Mirror.{Expression, Initial, Statement, Statements, SwitchEntry, SwitchEntries, Program}
use Rattle.porch_typed.specs.Mirror as tree
use Rattle.porch_mean.specs.Outcome.{broke, went_round, gave, Outcome, Went, Left, Undefined, Stopped, Calls, done, and_then, either, use_value, use_number, use_truth, count_turn}
use Rattle.porch_mean.specs.Initial.{filled_object, with_object}
use Rattle.porch_mean.specs.Expression.{value, assign_at}

-- Behind the body of a loop: break ends the loop, continue only the body.
abbrev pub behind_body : Outcome → (Progress → Outcome) → Outcome
behind_body (Went v s) again = again s
behind_body (Left went_round s) again = again s
behind_body (Left broke s) again = done s
behind_body (Left (gave v) s) again = Left (gave v) s
behind_body (Undefined a s) again = Undefined a s
behind_body (Stopped s) again = Stopped s

-- Behind a switch: break ends it, and continue belongs to the loop round it.
abbrev pub behind_switch : Outcome → Outcome
behind_switch (Left broke s) = done s
behind_switch o = o

-- whether this entry of a switch is the label of a value
abbrev pub is_case : SwitchEntry → ℤ → Bool
is_case (tree.case w) z = int_eq w z
is_case x z = false

abbrev pub is_default : SwitchEntry → Bool
is_default tree.default = true
is_default x = false

-- `n` is the number of turns that are allowed, and `variables` has the types of the function's variables.
module _ (p : Program) (under : Environment) (n : ℕ) (enter : Calls) (call : ℕ) (variables : List ℕ) where
  -- a condition; one that is left out holds
  abbrev pub with_test : Option Expression → Progress → (Bool → Progress → Outcome) → Outcome
  with_test None s go = go true s
  with_test (Some e) s go = and_then (value p under enter call e s) (λ v s. use_truth v s go)

  -- an expression for nothing, or none
  abbrev pub evaluate : Option Expression → Progress → Outcome
  evaluate None s = done s
  evaluate (Some e) s = and_then (value p under enter call e s) (λ _ s. done s)

  -- A loop from its condition on: each start of the body counts a turn. At most k starts are made; with k above n that is
  -- never what ends it.
  abbrev pub rounds : (k : ℕ) → (condition next : Option Expression) → (body : Progress → Outcome) → Progress → Outcome
  rounds zero condition next body s = Stopped s
  rounds (suc k) condition next body s =
      with_test condition s (λ holds s. either holds
      (λ s. count_turn n s (λ s. behind_body (body s) (λ s. and_then (evaluate next s) (λ _ s. rounds k condition next body s))))
      done s)

  -- The declaration of a variable is reached: it has no value, and then that of its initialiser.
  abbrev pub initialise : (variable : ℕ) → Initial → Progress → Outcome
  initialise v tree.nothing s = done s
  initialise v (tree.value e) s =
      and_then (value p under enter call e s) (λ x s.
      and_then (assign_at p.types (slice_index variables v) (pointer (of_call call v) 0) x s) (λ _ s. done s))
  initialise v (tree.filled fills) s =
      done (with_store s (with_object s.store (of_call call v) (filled_object p.types (slice_index variables v) fills)))

  -- return: a value is used
  abbrev pub give : Option Expression → Progress → Outcome
  give None s = Left (gave indeterminate) s
  give (Some e) s = and_then (value p under enter call e s) (λ v s. use_value v s (λ v s. Left (gave v) s))

  abbrev mutual
    pub act : Statement → Progress → Outcome
    act (tree.block ss) s = acts ss s
    act (tree.declare v i) s = initialise v i (with_store s (forgotten s.store (of_call call v)))
    act (tree.evaluate e) s = evaluate (Some e) s
    act (tree.choose e a b) s = with_test (Some e) s (λ holds s. either holds (λ s. act a s) (λ s. act b s) s)
    act (tree.repeat_while e body) s = rounds (suc n) (Some e) None (λ s. act body s) s
    act (tree.repeat_until body e) s =
        count_turn n s (λ s. behind_body (act body s) (λ s. rounds (suc n) (Some e) None (λ s. act body s) s))
    act (tree.repeat_for start condition next body) s =
        and_then (evaluate start s) (λ _ s. rounds (suc n) condition next (λ s. act body s) s)
    act (tree.switch kind e entries) s =
        and_then (value p under enter call e s) (λ v s. use_number v s (λ z s.
        behind_switch (from_case entries z s (λ s. from_default entries s))))
    act tree.leave_loop s = Left broke s
    act tree.go_round s = Left went_round s
    act (tree.give e) s = give e s

    pub acts : Statements → Progress → Outcome
    acts tree.no_statements s = done s
    acts (tree.with_statement a more) s = and_then (act a s) (λ _ s. acts more s)

    -- in a switch, from a label on: labels are passed over
    pub entry : SwitchEntry → Progress → Outcome
    entry (tree.case z) s = done s
    entry tree.default s = done s
    entry (tree.statement a) s = act a s

    pub entries_on : SwitchEntries → Progress → Outcome
    entries_on tree.no_entries s = done s
    entries_on (tree.with_entry x xs) s = and_then (entry x s) (λ _ s. entries_on xs s)

    -- from the case of a value on, where there is one
    pub from_case : SwitchEntries → ℤ → Progress → (otherwise : Progress → Outcome) → Outcome
    from_case tree.no_entries z s otherwise = otherwise s
    from_case (tree.with_entry x xs) z s otherwise =
        either (is_case x z) (λ s. entries_on xs s) (λ s. from_case xs z s otherwise) s

    -- from `default` on; without one nothing is done
    pub from_default : SwitchEntries → Progress → Outcome
    from_default tree.no_entries s = done s
    from_default (tree.with_entry x xs) s = either (is_default x) (λ s. entries_on xs s) (λ s. from_default xs s) s
