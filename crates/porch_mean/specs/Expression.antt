-- What expressions and places evaluate to. Operands and arguments are evaluated from left to right. A place is a pointer,
-- which is held until something is read or stored there; a struct's value is a pointer to its place.
--
-- Each read of an integer or a pointer uses it at once. Only a call's value may be handed on without one, through
-- parentheses, commas and `?:`, until an operator uses it; where it is dropped it is never used.
use Rattle.std.specs.Prelude.{ℕ, pos, unsigned_abs, Bool, true, false, not, List, [], ◌∷◌, ◌++◌, length, slice_get, Option, Some}
use Rattle.porch_types.specs.declared.shapes.Ty.{Ty}
use Rattle.porch_types.specs.declared.shapes.Ty.TheVariants.{Struct}
use Rattle.porch_types.specs.Leaves.{leaves_of}
use Rattle.porch_values.specs.Integers.{converted}
use Rattle.porch_objects.specs.Store.{of_global, of_call, Value, number, null, pointer, reached_one}
use Rattle.porch_objects.specs.Pointers as pointers
use Rattle.porch_objects.specs.Pointers.{Allocation}
use Rattle.porch_objects.specs.Meaning.{Environment, Progress, Mark, reached, allocated, freed, with_store}
use Rattle.porch_typed.specs.declared.typed.Operator.{Operator}
use Rattle.porch_typed.specs.declared.typed.Direction.{Direction}
use Rattle.porch_typed.specs.Mirror.{Expression, Expressions, Steps, Place, Print, Prints, Program}
use Rattle.porch_typed.specs.Mirror as tree
use Rattle.porch_mean.specs.Outcome.{Outcome, Went, Calls, done, and_then, with_result, either, use_value, use_number, use_truth, use_all}
use Rattle.porch_mean.specs.Operators.{as_value, truth_value, target_of, operate, operate_unary, fit_to, increment_of}
use Rattle.porch_mean.specs.Printing.{up_to_zero, show_line, show_character, with_text, show_pieces}

-- a mark more
abbrev pub with_mark : Progress → Mark → Progress
with_mark s mark = record { store = s.store; output = s.output; marks = s.marks ++ mark ∷ []; turns = s.turns; taken = s.taken }

-- checkpoint() is reached: its mark, and each shared end is indeterminate from now on
abbrev pub reach_checkpoint : Progress → Progress
reach_checkpoint s = let marked = with_mark s (reached s.turns (length s.output)) in with_store marked (reached_one s.store)

-- free ends an object, which makes a mark; of null it does nothing
abbrev pub mark_freed : Value → Progress → Progress
mark_freed null s = s
mark_freed p s = with_mark s freed

abbrev pub release : Value → Progress → Outcome
release p s = with_result (pointers.release s.store p) s (λ store s. done (mark_freed p (with_store s store)))

-- Through a pointer: a leaf is read, or a member is reached.
abbrev pub load_at : Value → Progress → Outcome
load_at at s = with_result (pointers.load s.store at) s (λ v s. Went v s)

abbrev pub member_at : Value → (leaf : ℕ) → Progress → Outcome
member_at at leaf s = with_result (pointers.member s.store at leaf) s (λ v s. Went v s)

-- A member of a struct that is no place: a struct again is its place, all else is read.
abbrev pub member_value : Option Ty → (at : Value) → Progress → Outcome
member_value (Some (Struct members)) at s = Went at s
member_value shape at s = load_at at s

module _ (types : List Ty) where
  -- A value is stored, and is what the assignment gives. A struct is copied as it is, also what has no value in it.
  abbrev pub store_value : Option Ty → (ty : ℕ) → (at : Value) → (v : Value) → Progress → Outcome
  store_value (Some (Struct members)) ty at v s =
      with_result (pointers.copy (leaves_of types ty) s.store at v) s (λ store s. Went at (with_store s store))
  store_value shape ty at v s = with_result (pointers.store s.store at v) s (λ store s. Went v (with_store s store))

  abbrev pub assign_at : (ty : ℕ) → (at : Value) → (v : Value) → Progress → Outcome
  assign_at ty at v s = store_value (slice_get types ty) ty at v s

  -- malloc and calloc: the count is used, and the object is there, with its mark
  abbrev pub allocate : (pointee : ℕ) → (zeroed : Bool) → (count : Value) → Progress → Outcome
  allocate pointee zeroed count s =
      use_number count s (λ z s.
      with_result (pointers.allocate types pointee zeroed z s.store) s (λ (made : Allocation) s.
      Went made.address (with_mark (with_store s made.store) (allocated (unsigned_abs z) (leaves_of types pointee)))))

module _ (p : Program) (under : Environment) where
  -- what an operator makes of two values
  abbrev pub operate_on : Operator → Value → Value → Progress → Outcome
  operate_on op a b s = with_result (operate p.types under.widths op s.store a b) s (λ v s. Went v s)

  -- The result of an operator, converted to the type of the place that it is stored in.
  abbrev pub fit_for : (ty : ℕ) → Value → Progress → Outcome
  fit_for ty v s = with_result (fit_to p.types under.widths (slice_get p.types ty) v) s (λ v s. Went v s)

  -- an operator's result is stored where its left operand was
  abbrev pub operate_in_place : (ty : ℕ) → Operator → (at left right : Value) → Progress → Outcome
  operate_in_place ty op at left right s =
      and_then (operate_on op left right s) (λ v s. and_then (fit_for ty v s) (λ v s. assign_at p.types ty at v s))

  -- `++` and `--`: the new value in front of the operand, the old one behind it
  abbrev pub increment_at : (ty : ℕ) → (before : Bool) → Direction → (at : Value) → Progress → Outcome
  increment_at ty before way at s =
      and_then (load_at at s) (λ old s.
      and_then (operate_in_place ty (increment_of (slice_get p.types ty) ty way) at old (number (pos 1)) s) (λ new s.
      either before (λ s. Went new s) (λ s. Went old s) s))

  -- `call` is the number of the call whose variables these are, and `enter` makes the calls in it.
  module _ (enter : Calls) (call : ℕ) where
    abbrev mutual
      pub value : Expression → Progress → Outcome
      value (tree.constant kind z) s = Went (number z) s
      value (tree.null_pointer ty) s = Went null s
      value (tree.read ty place) s = and_then (place_of place s) (λ at s. load_at at s)
      value (tree.whole ty place) s = and_then (place_of place s) (λ at s. member_at at 0 s)
      value (tree.address ty place) s = place_of place s
      value (tree.first ty place) s = and_then (place_of place s) (λ at s. member_at at 0 s)
      value (tree.row e steps) s = and_then (value e s) (λ a s. value_behind steps a s)
      value (tree.all_of e es) s =
          and_then (value e s) (λ v s. use_truth v s (λ holds s. either holds (λ s. all_hold es s) (λ s. Went (truth_value false) s) s))
      value (tree.any_of e es) s =
          and_then (value e s) (λ v s. use_truth v s (λ holds s. either holds (λ s. Went (truth_value true) s) (λ s. any_holds es s) s))
      value (tree.unary op kind e) s =
          and_then (value e s) (λ v s. use_number v s (λ z s.
          with_result (operate_unary p.types under.widths op kind z) s (λ v s. Went v s)))
      value (tree.isnt e) s = and_then (value e s) (λ v s. use_truth v s (λ holds s. Went (truth_value (not holds)) s))
      value (tree.choice ty e a b) s =
          and_then (value e s) (λ v s. use_truth v s (λ holds s. either holds (λ s. value a s) (λ s. value b s) s))
      value (tree.sequence e es) s = and_then (value e s) (λ v s. last_value es v s)
      value (tree.assign ty place e) s =
          and_then (place_of place s) (λ at s. and_then (value e s) (λ v s. assign_at p.types ty at v s))
      value (tree.assign_by ty op place e) s =
          and_then (place_of place s) (λ at s. and_then (load_at at s) (λ left s.
          and_then (value e s) (λ right s. operate_in_place ty op at left right s)))
      value (tree.increment ty before way place) s = and_then (place_of place s) (λ at s. increment_at ty before way at s)
      value (tree.conversion kind e) s =
          and_then (value e s) (λ v s. use_number v s (λ z s.
          with_result (as_value (converted kind under.widths z)) s (λ v s. Went v s)))
      value (tree.discard e) s = and_then (value e s) (λ _ s. done s)
      value (tree.member_of ty leaf e) s =
          and_then (value e s) (λ at s. and_then (member_at at leaf s) (λ at s. member_value (slice_get p.types ty) at s))
      value (tree.call function es) s = arguments es [] s (λ vs s. enter function vs s)
      value (tree.put_character e) s = and_then (value e s) (λ v s. use_number v s (λ z s. show_character z s))
      value (tree.put_text e) s = and_then (value e s) (λ v s. with_text p.types v s (λ bytes s. show_line bytes s))
      value (tree.put_literal bs) s = show_line (up_to_zero bs) s
      value (tree.print xs) s = printed_values xs [] s (λ vs s. use_all vs s (λ vs s. show_pieces p.types xs vs 0 s))
      value (tree.allocate ty zeroed e) s =
          and_then (value e s) (λ v s. allocate p.types (target_of p.types ty) zeroed v s)
      value (tree.release e) s = and_then (value e s) (λ v s. release v s)
      value tree.checkpoint s = done (reach_checkpoint s)

      -- A place is a pointer to it. `*` uses its operand; reaching a member uses the place of its struct.
      pub place_of : Place → Progress → Outcome
      place_of (tree.variable v) s = Went (pointer (of_call call v) 0) s
      place_of (tree.global g) s = Went (pointer (of_global g) 0) s
      place_of (tree.pointee e) s = and_then (value e s) (λ v s. use_value v s (λ v s. Went v s))
      place_of (tree.member leaf place) s = and_then (place_of place s) (λ at s. member_at at leaf s)

      -- operators of one level, from left to right
      pub value_behind : Steps → Value → Progress → Outcome
      value_behind tree.no_steps a s = Went a s
      value_behind (tree.with_step op e steps) a s =
          and_then (value e s) (λ b s. and_then (operate_on op a b s) (λ c s. value_behind steps c s))

      -- `&&` and `||`: what comes next is evaluated only where it decides
      pub all_hold : Expressions → Progress → Outcome
      all_hold tree.no_expressions s = Went (truth_value true) s
      all_hold (tree.with_expression e es) s =
          and_then (value e s) (λ v s. use_truth v s (λ holds s. either holds (λ s. all_hold es s) (λ s. Went (truth_value false) s) s))

      pub any_holds : Expressions → Progress → Outcome
      any_holds tree.no_expressions s = Went (truth_value false) s
      any_holds (tree.with_expression e es) s =
          and_then (value e s) (λ v s. use_truth v s (λ holds s. either holds (λ s. Went (truth_value true) s) (λ s. any_holds es s) s))

      -- of a comma expression the last value is handed on, and the others are dropped
      pub last_value : Expressions → Value → Progress → Outcome
      last_value tree.no_expressions v s = Went v s
      last_value (tree.with_expression e es) v s = and_then (value e s) (λ v s. last_value es v s)

      -- arguments of a call; each is used when it is evaluated
      pub arguments : Expressions → List Value → Progress → (List Value → Progress → Outcome) → Outcome
      arguments tree.no_expressions vs s go = go vs s
      arguments (tree.with_expression e es) vs s go =
          and_then (value e s) (λ v s. use_value v s (λ v s. arguments es (vs ++ v ∷ []) s go))

      -- arguments of printf, all before its output
      pub printed_values : Prints → List Value → Progress → (List Value → Progress → Outcome) → Outcome
      printed_values tree.no_prints vs s go = go vs s
      printed_values (tree.with_print x xs) vs s go = printed_value x vs s (λ vs s. printed_values xs vs s go)

      pub printed_value : Print → List Value → Progress → (List Value → Progress → Outcome) → Outcome
      printed_value (tree.bytes bs) vs s go = go vs s
      printed_value (tree.number how e) vs s go = and_then (value e s) (λ v s. use_value v s (λ v s. go (vs ++ v ∷ []) s))
      printed_value (tree.text e) vs s go = and_then (value e s) (λ v s. use_value v s (λ v s. go (vs ++ v ∷ []) s))
      printed_value (tree.literal bs) vs s go = go vs s
