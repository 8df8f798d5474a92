-- The types of a typed program. They get their numbers last, when each is complete, and the tree is given those.
use Rattle.std.specs.Prelude.{ℕ, zero, suc, nat_eq, Bool, false, if◌then◌else◌, List, [], ◌∷◌, ◌++◌, length, map, Option, Some, None}
use Rattle.std.specs.Option.{option_map, option_map_or}
use Rattle.porch_types.specs.declared.shapes.Kind.TheVariants.{Int}
use Rattle.porch_types.specs.declared.shapes.Ty.{Ty}
use Rattle.porch_types.specs.declared.shapes.Ty.TheVariants.{Whole, Pointer, Array, Struct}
use Rattle.porch_typed.specs.declared.typed.GlobalVariable.{GlobalVariable}
use Rattle.porch_typed.specs.declared.typed.Operator.{Operator}
use Rattle.porch_typed.specs.declared.typed.Operator.TheVariants as operator
use Rattle.porch_typed.specs.Mirror.{Expression, constant, null_pointer, read, whole, address, first, row, all_of, any_of, unary, isnt, choice, sequence, assign, assign_by, increment, conversion, discard, member_of, call, put_character, put_text, put_literal, print, allocate, release, checkpoint, Expressions, no_expressions, with_expression, Steps, no_steps, with_step, Place, variable, global, pointee, member, Print, bytes, number, text, literal, Prints, no_prints, with_print, Initial, nothing, value, filled, Statement, block, declare, evaluate, choose, repeat_while, repeat_until, repeat_for, switch, leave_loop, go_round, give, Statements, no_statements, with_statement, SwitchEntry, case, default, statement, SwitchEntries, no_entries, with_entry, Function}
use Rattle.porch_check.specs.Shapes.{Shape, pointer, array, structure, Shapes, shape_of, members_of, Member}
use Rattle.porch_check.specs.Shapes as shape

-- The number of a type is its place among those that were completed, in the order in which they became so.
abbrev pub position_of : ℕ → List ℕ → ℕ
position_of n [] = 0
position_of n (m ∷ ms) = if nat_eq n m then 0 else suc (position_of n ms)

abbrev pub number_of : Shapes → ℕ → ℕ
number_of s n = position_of n s.complete

abbrev pub type_of : Shapes → Shape → (shape : ℕ) → Ty
type_of s (shape.whole kind) n = Whole kind
type_of s (pointer to) n = Pointer (number_of s to)
type_of s (array of count) n = Array (number_of s of) (option_map_or (λ k. k) count 0)
type_of s (structure k) n = Struct (map (λ (m : Member). number_of s m.shape) (members_of s n))
-- neither void nor a function is complete
type_of s t n = Whole Int

abbrev pub own_types : Shapes → List Ty
own_types s = map (λ n. type_of s (shape_of s n) n) s.complete

-- Each of these has a pointer type: among them, or behind them.

abbrev pub is_pointer_to : ℕ → Ty → Bool
is_pointer_to n (Pointer to) = nat_eq n to
is_pointer_to n t = false

abbrev pub pointer_in : ℕ → List Ty → (place : ℕ) → Option ℕ
pointer_in n [] place = None
pointer_in n (t ∷ ts) place = if is_pointer_to n t then Some place else pointer_in n ts (suc place)

pub record Sealed : Type 0 where
  pub types : List Ty
  pub pointers : List ℕ

abbrev pub with_pointer : Option ℕ → (to : ℕ) → Sealed → Sealed
with_pointer (Some n) to x = record { types = x.types; pointers = x.pointers ++ n ∷ [] }
with_pointer None to x = record { types = x.types ++ Pointer to ∷ []; pointers = x.pointers ++ length x.types ∷ [] }

-- pointers to the types from a number on, of which there are so many
abbrev pub with_pointers : (count to : ℕ) → List Ty → Sealed → Sealed
with_pointers zero to own x = x
with_pointers (suc n) to own x = with_pointers n (suc to) own (with_pointer (pointer_in to own 0) to x)

abbrev pub sealed_types : Shapes → Sealed
sealed_types s = let own = own_types s in with_pointers (length own) 0 own (record { types = own; pointers = [] })

-- The tree with these numbers.
module _ (seal : ℕ → ℕ) where
  abbrev pub sealed_operator : Operator → Operator
  sealed_operator (operator.Arithmetic op kind) = operator.Arithmetic op kind
  sealed_operator (operator.Shift op kind) = operator.Shift op kind
  sealed_operator (operator.Compare c kind) = operator.Compare c kind
  sealed_operator (operator.ComparePointers c ty) = operator.ComparePointers c (seal ty)
  sealed_operator (operator.Forward ty) = operator.Forward (seal ty)
  sealed_operator (operator.Back ty) = operator.Back (seal ty)
  sealed_operator (operator.ForwardOf ty) = operator.ForwardOf (seal ty)
  sealed_operator (operator.Difference ty) = operator.Difference (seal ty)

  abbrev mutual
    pub sealed : Expression → Expression
    sealed (constant kind z) = constant kind z
    sealed (null_pointer ty) = null_pointer (seal ty)
    sealed (read ty p) = read (seal ty) (sealed_place p)
    sealed (whole ty p) = whole (seal ty) (sealed_place p)
    sealed (address ty p) = address (seal ty) (sealed_place p)
    sealed (first ty p) = first (seal ty) (sealed_place p)
    sealed (row e steps) = row (sealed e) (sealed_steps steps)
    sealed (all_of e es) = all_of (sealed e) (sealed_all es)
    sealed (any_of e es) = any_of (sealed e) (sealed_all es)
    sealed (unary op kind e) = unary op kind (sealed e)
    sealed (isnt e) = isnt (sealed e)
    sealed (choice ty e a b) = choice (option_map seal ty) (sealed e) (sealed a) (sealed b)
    sealed (sequence e es) = sequence (sealed e) (sealed_all es)
    sealed (assign ty p e) = assign (seal ty) (sealed_place p) (sealed e)
    sealed (assign_by ty op p e) = assign_by (seal ty) (sealed_operator op) (sealed_place p) (sealed e)
    sealed (increment ty before way p) = increment (seal ty) before way (sealed_place p)
    sealed (conversion kind e) = conversion kind (sealed e)
    sealed (discard e) = discard (sealed e)
    sealed (member_of ty leaf e) = member_of (seal ty) leaf (sealed e)
    sealed (call f es) = call f (sealed_all es)
    sealed (put_character e) = put_character (sealed e)
    sealed (put_text e) = put_text (sealed e)
    sealed (put_literal bs) = put_literal bs
    sealed (print ps) = print (sealed_prints ps)
    sealed (allocate ty zeroed e) = allocate (seal ty) zeroed (sealed e)
    sealed (release e) = release (sealed e)
    sealed checkpoint = checkpoint

    pub sealed_all : Expressions → Expressions
    sealed_all no_expressions = no_expressions
    sealed_all (with_expression e es) = with_expression (sealed e) (sealed_all es)

    pub sealed_steps : Steps → Steps
    sealed_steps no_steps = no_steps
    sealed_steps (with_step op e steps) = with_step (sealed_operator op) (sealed e) (sealed_steps steps)

    pub sealed_place : Place → Place
    sealed_place (variable v) = variable v
    sealed_place (global g) = global g
    sealed_place (pointee e) = pointee (sealed e)
    sealed_place (member leaf p) = member leaf (sealed_place p)

    pub sealed_print : Print → Print
    sealed_print (bytes bs) = bytes bs
    sealed_print (number how e) = number how (sealed e)
    sealed_print (text e) = text (sealed e)
    sealed_print (literal bs) = literal bs

    pub sealed_prints : Prints → Prints
    sealed_prints no_prints = no_prints
    sealed_prints (with_print p ps) = with_print (sealed_print p) (sealed_prints ps)

  abbrev pub sealed_initial : Initial → Initial
  sealed_initial nothing = nothing
  sealed_initial (value e) = value (sealed e)
  sealed_initial (filled fills) = filled fills

  abbrev mutual
    pub sealed_statement : Statement → Statement
    sealed_statement (block ss) = block (sealed_statements ss)
    sealed_statement (declare v i) = declare v (sealed_initial i)
    sealed_statement (evaluate e) = evaluate (sealed e)
    sealed_statement (choose e s t) = choose (sealed e) (sealed_statement s) (sealed_statement t)
    sealed_statement (repeat_while e s) = repeat_while (sealed e) (sealed_statement s)
    sealed_statement (repeat_until s e) = repeat_until (sealed_statement s) (sealed e)
    sealed_statement (repeat_for a b c s) =
        repeat_for (option_map sealed a) (option_map sealed b) (option_map sealed c) (sealed_statement s)
    sealed_statement (switch kind e xs) = switch kind (sealed e) (sealed_entries xs)
    sealed_statement leave_loop = leave_loop
    sealed_statement go_round = go_round
    sealed_statement (give e) = give (option_map sealed e)

    pub sealed_statements : Statements → Statements
    sealed_statements no_statements = no_statements
    sealed_statements (with_statement s ss) = with_statement (sealed_statement s) (sealed_statements ss)

    pub sealed_entry : SwitchEntry → SwitchEntry
    sealed_entry (case z) = case z
    sealed_entry default = default
    sealed_entry (statement s) = statement (sealed_statement s)

    pub sealed_entries : SwitchEntries → SwitchEntries
    sealed_entries no_entries = no_entries
    sealed_entries (with_entry x xs) = with_entry (sealed_entry x) (sealed_entries xs)

  abbrev pub sealed_function : Function → Function
  sealed_function f =
      record {
        name = f.name;
        result = option_map seal f.result;
        params = f.params;
        variables = map seal f.variables;
        body = sealed_statements f.body;
        tokens = f.tokens;
      }

  abbrev pub sealed_global : GlobalVariable → GlobalVariable
  sealed_global g = record { ty = seal g.ty; fills = g.fills }
