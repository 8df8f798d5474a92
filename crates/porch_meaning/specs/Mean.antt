-- What a program does in at most n turns, in an environment. A turn is the call of main, or a start of a loop's
-- body. Parts are taken from left to right, each in the state that the one before left.
use Rattle.std.specs.Prelude.{ℕ, zero, suc, ◌+◌, ℤ, pos, List, [], ◌∷◌, ◌++◌, map, if◌then◌else◌, nat_eq, Option, Some, None, Result, Ok, Err}
use Rattle.std.specs.Ordering.{int_eq}
use Rattle.porch_syntax.specs.declared.tree.Sign.{Sign}
use Rattle.porch_syntax.specs.declared.tree.Sign.TheVariants.{Plus, Minus}
use Rattle.porch_syntax.specs.Tree.{Node, variable, whole, character, nested, product, sum, less, Nodes, no_nodes, node, Terms, no_terms, term, Action, assign, repeat, putchar, give, Actions, no_actions, action, Program}
use Rattle.porch_types.specs.declared.shapes.Kind.TheVariants.{Int}
use Rattle.porch_types.specs.declared.shapes.Ty.{Ty}
use Rattle.porch_types.specs.Kinds.{int_type}
use Rattle.porch_values.specs.declared.acts.Act.{Act}
use Rattle.porch_values.specs.declared.acts.Act.TheVariants.{Indeterminate}
use Rattle.porch_values.specs.declared.acts.Op.{Op}
use Rattle.porch_values.specs.declared.acts.Op.TheVariants.{Add, Sub, Mul}
use Rattle.porch_values.specs.declared.widths.Widths.{Widths}
use Rattle.porch_values.specs.Integers.{applied}
use Rattle.porch_objects.specs.Store.{Home, of_call, Value, number, null, pointer, past, indeterminate, Root, one_of, Object, fresh, seen, leaf_at, with_leaf_at, forgotten, entered, left}
use Rattle.porch_objects.specs.Meaning.{Environment, Progress, beginning, with_store, with_shown, with_turn, Meaning, Ending, Ended, Met, Paused, truth, byte_of}

pub data Outcome : Type 0 where
  -- goes on: an expression with its value, a statement with none
  Went : (v : Value) → (s : Progress) → Outcome
  -- left the function with a value
  Gave : (v : Value) → (s : Progress) → Outcome
  -- met an undefined act
  Undefined : (a : Act) → (s : Progress) → Outcome
  -- one more turn would begin, and n were made
  Stopped : (s : Progress) → Outcome

abbrev pub and_then : Outcome → (Value → Progress → Outcome) → Outcome
and_then (Went v s) go = go v s
and_then (Gave v s) go = Gave v s
and_then (Undefined a s) go = Undefined a s
and_then (Stopped s) go = Stopped s

-- a statement goes on
abbrev pub done : Progress → Outcome
done = Went indeterminate

-- A value is used: not where it is indeterminate by then. Each value of this language is a number, or none.
abbrev pub use_seen : Value → Progress → (ℤ → Outcome) → Outcome
use_seen (number z) s go = go z
use_seen null s go = Undefined Indeterminate s
use_seen (pointer home leaf) s go = Undefined Indeterminate s
use_seen (past home leaf until) s go = Undefined Indeterminate s
use_seen indeterminate s go = Undefined Indeterminate s

abbrev pub used : Value → Progress → (ℤ → Outcome) → Outcome
used v s go = use_seen (seen s.store v) s go

-- the value of a leaf is read
abbrev pub read : Value → Progress → Outcome
read v s = used v s (λ z. Went (number z) s)

-- what an operator of int gives
abbrev pub result : Result ℤ Act → Progress → Outcome
result (Ok z) s = Went (number z) s
result (Err a) s = Undefined a s

-- both operands are used behind their evaluation
abbrev pub operated : Widths → Op → Value → Value → Progress → Outcome
operated w op a b s = used a s (λ x. used b s (λ y. result (applied op Int w x y) s))

abbrev pub op_of : Sign → Op
op_of Plus = Add
op_of Minus = Sub

-- behind one more turn, unless n were made
abbrev pub turn : ℕ → Progress → (Progress → Outcome) → Outcome
turn n s go = if nat_eq s.turns n then Stopped s else go (with_turn s)

-- `call` is the number of the call that is evaluated.
module _ (under : Environment) (n : ℕ) (call : ℕ) where
  abbrev mutual
    pub eval : Node → Progress → Outcome
    eval (variable x) s = read (leaf_at s.store (of_call call x) 0) s
    eval (whole z) s = Went (number z) s
    eval (character c) s = Went (number (pos c)) s
    eval (nested e) s = eval e s
    eval (product e es) s = and_then (eval e s) (λ a s. eval_factors es a s)
    eval (sum e ts) s = and_then (eval e s) (λ a s. eval_terms ts a s)
    eval (less a b) s = and_then (eval a s) (λ a s. and_then (eval b s) (λ b s. used a s (λ x. used b s (λ y. Went (number (truth x y)) s))))

    -- the factors behind a value
    pub eval_factors : Nodes → Value → Progress → Outcome
    eval_factors no_nodes a s = Went a s
    eval_factors (node e es) a s = and_then (eval e s) (λ b s. and_then (operated under.widths Mul a b s) (λ c s. eval_factors es c s))

    -- the terms behind a value
    pub eval_terms : Terms → Value → Progress → Outcome
    eval_terms no_terms a s = Went a s
    eval_terms (term sign e ts) a s = and_then (eval e s) (λ b s. and_then (operated under.widths (op_of sign) a b s) (λ c s. eval_terms ts c s))

  -- the value of an expression is stored in a variable
  abbrev pub set : ℕ → Node → Progress → Outcome
  set x e s = and_then (eval e s) (λ v s. used v s (λ z. done (with_store s (with_leaf_at s.store (of_call call x) 0 (number z)))))

  -- At most k starts of a loop's body. With k above n the bound is never what ends it: each start is a turn, and `turn`
  -- stops the run after n of them.
  abbrev pub loop : ℕ → Node → (Progress → Outcome) → Progress → Outcome
  loop zero test body s = Stopped s
  loop (suc k) test body s =
      and_then (eval test s) (λ v s. used v s (λ z. if int_eq z (pos 0) then done s else turn n s (λ s. and_then (body s) (λ _ s. loop k test body s))))

  abbrev mutual
    pub act : Action → Progress → Outcome
    act (assign x e) s = set x e s
    act (repeat e body) s = loop (suc n) e (λ s. acts body s) s
    act (putchar e) s = and_then (eval e s) (λ v s. used v s (λ z. done (with_shown s (byte_of z ∷ []))))
    act (give e) s = and_then (eval e s) (λ v s. used v s (λ z. Gave (number z) s))

    pub acts : Actions → Progress → Outcome
    acts no_actions s = done s
    acts (action a more) s = and_then (act a s) (λ _ s. acts more s)

  -- The declarations from number x on: a variable has no value there, and then that of its initialiser.
  abbrev pub declare : ℕ → List (Option Node) → Progress → Outcome
  declare x [] s = done s
  declare x (None ∷ more) s = declare (x + 1) more (with_store s (forgotten s.store (of_call call x)))
  declare x ((Some e) ∷ more) s = and_then (set x e (with_store s (forgotten s.store (of_call call x)))) (λ _ s. declare (x + 1) more s)

-- A function's variables are objects from its call to its end.
abbrev pub called : List Ty → List Root → Progress → Progress
called types roots s = with_store s (entered s.store (map (fresh types) roots))

abbrev pub returned : Progress → Progress
returned s = with_store s (left s.store)

-- back behind a call: the value of main without a return is 0
abbrev pub back : Outcome → Outcome
back (Went v s) = Went (number (pos 0)) (returned s)
back (Gave v s) = Went v (returned s)
back (Undefined a s) = Undefined a s
back (Stopped s) = Stopped s

-- the variables of main are ints
abbrev pub roots_of : Program → List Root
roots_of p = map (λ _. one_of int_type) p.declarations

-- main is called
abbrev pub call_main : List Ty → Environment → ℕ → Program → Progress → Outcome
call_main types under n p s =
    turn n s (λ s.
    let call : ℕ = s.store.called in
    back (and_then (declare under n call 0 p.declarations (called types (roots_of p) s)) (λ _ s. acts under n call p.actions s)))

abbrev pub said : Progress → Ending → Meaning
said s e = record { output = s.output; marks = s.marks; turns = s.turns; ending = e }

-- main's value is a number, and nothing is given behind its end
abbrev pub meaning_of : Outcome → Meaning
meaning_of (Went (number z) s) = said s (Ended z)
meaning_of (Went v s) = said s (Met Indeterminate)
meaning_of (Gave v s) = said s (Met Indeterminate)
meaning_of (Undefined a s) = said s (Met a)
meaning_of (Stopped s) = said s Paused

-- The state before turn 1: a program of this language has no globals.
abbrev pub begin : Program → Progress
begin p = beginning []

-- The meaning of a program over a list of types, in an environment, for a number of turns.
abbrev pub mean : List Ty → Program → Environment → ℕ → Meaning
mean types p under n = meaning_of (call_main types under n p (begin p))
