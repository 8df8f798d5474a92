-- What a command does to the state that is kept is what the abstract machine does.
use Rattle.std.proofs.Common.{◌≡◌, ◌+◌, ℕ, ℤ, pos, Bool, true, false, List, [], ◌∷◌, ◌++◌, length, inl, inr, ◌∙◌, ap, refl}
use Rattle.std.proofs.Math.ListN.{get_or}
use Rattle.std.proofs.lemmas.Bool.{cases_lt}
use Rattle.std.proofs.lemmas.List.{get_or_past}
use Rattle.std.specs.Prelude.{slice_get, slice_index_or, unwrap_or, if◌then◌else◌, Some, None, Result, Ok, Err, All, replicate, position, nat_lt, not}
use Rattle.std.specs.Ordering.{int_eq}
use Rattle.std.specs.declared.option.Option.{Option}
use Rattle.porch_types.specs.declared.shapes.Kind.TheVariants.{Int}
use Rattle.porch_types.specs.Leaves.{kind_types}
use Rattle.porch_values.specs.declared.acts.Act.{Act}
use Rattle.porch_values.specs.declared.acts.Op.{Op}
use Rattle.porch_values.specs.declared.acts.Op.TheVariants.{Add, Sub, Mul}
use Rattle.porch_values.specs.Integers.{applied}
use Rattle.porch_objects.specs.Store.{Value, number, indeterminate, Object, Activation, Store}
use Rattle.porch_objects.specs.Meaning.{Environment, truth, byte_of}
use Rattle.porch_flat.specs.declared.flat.Operand.{Operand}
use Rattle.porch_flat.specs.declared.flat.Operand.TheVariants.{Var, Constant}
use Rattle.porch_flat.specs.declared.flat.Command.{Command}
use Rattle.porch_flat.specs.declared.flat.Command.TheVariants as command
use Rattle.porch_flat.specs.declared.flat.Function.{Function}
use Rattle.porch_flat.specs.declared.flat.Flat.{Flat}
use Rattle.porch_flat.specs.Labelled.{place_in}
use Rattle.porch_flat.specs.Parts.{commands_of, vars_of, kind_of}
use Rattle.porch_flat.specs.Places.{place_of_label, is_main, main_of}
use Rattle.porch_flat.specs.Valid.{IsValid, IsMain, int_type}
use Rattle.porch_abstract.specs.declared.effects.Effect.{Effect}
use Rattle.porch_abstract.specs.declared.effects.Effect.TheVariants.{On, Set, Show, Go, End}
use Rattle.porch_abstract.specs.declared.phase.Phase.{Phase}
use Rattle.porch_abstract.specs.declared.phase.Phase.TheVariants.{Begun, Running, Over}
use Rattle.porch_abstract.specs.Machine.{Frame, running, State, Next, Goes, next, after, put, operand_of, determined, counted, resulted, onward, at_label, kind_in, operated, shown, returned, called}
use Rattle.porch_abstract.specs.inside.Effects as effects
use Rattle.porch_abstract.specs.inside.Effects.{given, operand_in, effect_of, effect_at, place_of, set_to}
use Rattle.porch_abstract.specs.inside.Kept.{value_of, main_frame, calls_alone, state_in, effected}
use Rattle.porch_abstract.proofs.Stores.{seen-vars, stored-vars, fresh_vars}

-- the program is one function of int variables
pub record IsInts (flat : Flat) (main : Function) : Type 0 where
  pub types : flat.types ≡ kind_types
  pub only : flat.functions ≡ main ∷ []
  pub ints : All (λ ty. ty ≡ int_type) main.vars

pub ints_of_valid : (flat : Flat) (main : Function) → IsValid flat → flat.functions ≡ main ∷ [] → IsMain main → IsInts flat main
ints_of_valid flat main v only is = record { types = v.types_are; only = only; ints = is.ints }

int_kind : (vars : List ℕ) (v : ℕ) → All (λ ty. ty ≡ int_type) vars → kind_of (slice_get kind_types (slice_index_or vars v 8)) ≡ Int
int_kind vars v ints =
    elim (cases_lt v (length vars)) [
      | inl within ↦ let four : get_or vars v 8 ≡ 4 = ints v 8 within in rw four refl
      | inr past ↦ let none : get_or vars v 8 ≡ 8 = get_or_past vars v 8 past in rw none refl
    ]

module _ (flat : Flat) (under : Environment) (main : Function) (is : IsInts flat main) (vars : List (Option ℤ)) (next : ℕ) (output : List ℕ) (turns : ℕ) where
  abbrev frame : Frame
  frame = main_frame next

  abbrev here : State
  here = state_in Running vars next output turns

  abbrev state_by : ℕ → Store → List ℕ → State
  state_by at store output = record { phase = running (main_frame at) []; store = store; output = output; turns = turns; taken = 0 }

  operand-ints : (o : Operand) → operand_of o here ≡ value_of (operand_in vars o)
  operand-ints (Var v) = seen-vars vars v
  operand-ints (Constant z) = refl

  kind-int : (v : ℕ) → kind_in flat under frame [] v ≡ Int
  kind-int v = rw (is.types, is.only) (int_kind main.vars v is.ints)

  -- a variable becomes a number
  put-int : (v : ℕ) (z : ℤ) → onward flat under frame [] (put v (number z) here) ≡ effected vars next output turns (Set v z)
  put-int v z = ap (λ (store : Store). Goes (state_by (next + 1) store output)) (stored-vars vars v z)

  show-int : (v byte : ℕ) → onward flat under frame [] (put v (number (pos 1)) (shown here byte)) ≡ effected vars next output turns (Show v byte)
  show-int v byte = ap (λ (store : Store). Goes (state_by (next + 1) store (output ++ byte ∷ []))) (stored-vars vars v (pos 1))

  returned-int : (z : ℤ) → returned frame [] (number z) here ≡ effected vars next output turns (End z)
  returned-int z = refl

  returned-nothing : returned frame [] indeterminate here ≡ effected vars next output turns (End (pos 0))
  returned-nothing = refl

  determined-int : (x : Option ℤ) (go : Value → Next) (more : ℤ → Effect) → ((z : ℤ) → go (number z) ≡ effected vars next output turns (more z)) → determined (value_of x) go ≡ effected vars next output turns (given x more)
  determined-int None go more h = refl
  determined-int (Some z) go more h = h z

  counted-int : (x : Option ℤ) (go : ℤ → Next) (more : ℤ → Effect) → ((z : ℤ) → go z ≡ effected vars next output turns (more z)) → counted (value_of x) go ≡ effected vars next output turns (given x more)
  counted-int None go more h = refl
  counted-int (Some z) go more h = h z

  resulted-int : (r : Result ℤ Act) (v : ℕ) → resulted r (λ z. onward flat under frame [] (put v (number z) here)) ≡ effected vars next output turns (set_to v r)
  resulted-int (Ok z) v = put-int v z
  resulted-int (Err a) v = refl

  operated-int : (op : Op) (v : ℕ) (a b : Operand) → operated flat under frame [] op v a b here ≡ effected vars next output turns (effects.operated op under.widths v (operand_in vars a) (operand_in vars b))
  operated-int op v a b =
      rw (operand-ints a, operand-ints b, kind-int v)
      (counted-int (operand_in vars a) _ _ (λ x. counted-int (operand_in vars b) _ _ (λ y. resulted-int (applied op Int under.widths x y) v)))

  module _ (labels : List (ℕ × ℕ)) (placed : (n : ℕ) → place_in labels n ≡ place_of_label (commands_of (slice_get flat.functions 0)) n) where
    abbrev effect : Command → Effect
    effect c = effect_of vars labels (length (commands_of (slice_get flat.functions 0))) under.widths c

    label-int : (n : ℕ) → at_label flat under frame [] n here ≡ effected vars next output turns (Go (place_of labels (length (commands_of (slice_get flat.functions 0))) n))
    label-int n = rw (placed n) refl

    if-int : (b : Bool) (n : ℕ) → (if b then onward flat under frame [] here else at_label flat under frame [] n here)
        ≡ effected vars next output turns (if b then On else Go (place_of labels (length (commands_of (slice_get flat.functions 0))) n))
    if-int true n = refl
    if-int false n = label-int n

    -- a command
    after-int : (c : Command) → after flat under frame [] (Some c) here ≡ effected vars next output turns (effect c)
    after-int (command.Move v o) = rw (operand-ints o) (determined-int (operand_in vars o) _ _ (λ z. put-int v z))
    after-int (command.Add v a b) = operated-int Add v a b
    after-int (command.Sub v a b) = operated-int Sub v a b
    after-int (command.Mul v a b) = operated-int Mul v a b
    after-int (command.Lt v a b) =
        rw (operand-ints a, operand-ints b) (counted-int (operand_in vars a) _ _ (λ x. counted-int (operand_in vars b) _ _ (λ y. put-int v (truth x y))))
    after-int (command.Char v o) = rw (operand-ints o) (counted-int (operand_in vars o) _ _ (λ z. show-int v (byte_of z)))
    after-int (command.Label n) = refl
    after-int (command.Jump n) = label-int n
    after-int (command.If o n) = rw (operand-ints o) (counted-int (operand_in vars o) _ _ (λ z. if-int (int_eq z (pos 0)) n))
    after-int command.Turn = refl
    after-int (command.Return None) = returned-nothing
    after-int (command.Return (Some o)) = rw (operand-ints o) (determined-int (operand_in vars o) _ _ (λ z. returned-int z))

    -- the next command, and behind the last the end
    at-int : (o : Option Command) → after flat under frame [] o here ≡ effected vars next output turns (effect_at vars labels (length (commands_of (slice_get flat.functions 0))) under.widths o)
    at-int None = returned-nothing
    at-int (Some c) = after-int c

pub main_commands : (flat : Flat) (main : Function) → IsInts flat main → commands_of (slice_get flat.functions 0) ≡ main.commands
main_commands flat main is = ap (λ (fs : List Function). commands_of (slice_get fs 0)) is.only

-- the labels of the program are those of main
pub labels_of_main : (flat : Flat) (main : Function) (labels : List (ℕ × ℕ)) → IsInts flat main
    → ((n : ℕ) → place_in labels n ≡ place_of_label (commands_of (slice_get flat.functions 0)) n) → (n : ℕ) → place_in labels n ≡ place_of_label main.commands n
labels_of_main flat main labels is placed n = placed n ∙ ap (λ (cs : List Command). place_of_label cs n) (main_commands flat main is)

-- a step of a run of main
pub running_next : (flat : Flat) (under : Environment) (main : Function) (is : IsInts flat main) (labels : List (ℕ × ℕ)) → ((n : ℕ) → place_in labels n ≡ place_of_label (commands_of (slice_get flat.functions 0)) n)
    → (phase : Phase) (vars : List (Option ℤ)) (at : ℕ) (output : List ℕ) (turns : ℕ) → phase ≡ Running
    → next flat under (state_in phase vars at output turns) ≡ effected vars at output turns (effect_at vars labels (length main.commands) under.widths (slice_get main.commands at))
running_next flat under main is labels placed Begun vars at output turns h = cc
running_next flat under main is labels placed Running vars at output turns h =
    at-int flat under main is vars at output turns labels placed (slice_get (commands_of (slice_get flat.functions 0)) at)
    ∙ ap (λ (cs : List Command). effected vars at output turns (effect_at vars labels (length cs) under.widths (slice_get cs at))) (main_commands flat main is)
running_next flat under main is labels placed Over vars at output turns h = cc

-- the place of the only function, whether a test passes there or not
abbrev place_by : Bool → ℕ
place_by b = unwrap_or (let at : ℕ = if not b then 1 else 0 in if nat_lt at 1 then Some at else None) 0

zero_by : (b : Bool) → place_by b ≡ 0
zero_by true = refl
zero_by false = refl

only_place : (p : Function → Bool) (f : Function) → unwrap_or (position p (f ∷ [])) 0 ≡ 0
only_place p f = zero_by (p f)

main_place : (flat : Flat) (main : Function) → IsInts flat main → unwrap_or (main_of flat) 0 ≡ 0
main_place flat main is = ap (λ (fs : List Function). unwrap_or (position is_main fs) 0) is.only ∙ only_place is_main main

pub main_vars : (flat : Flat) (main : Function) → IsInts flat main → vars_of (slice_get flat.functions 0) ≡ main.vars
main_vars flat main is = ap (λ (fs : List Function). vars_of (slice_get fs 0)) is.only

abbrev entered_by : List Object → List ℕ → ℕ → State
entered_by variables output turns =
    record { phase = running (main_frame 0) []; store = calls_alone (let call : Activation = record { number = 0; variables = variables } in call ∷ []) 1; output = output; turns = turns; taken = 0 }

-- the call of main
called_main : (flat : Flat) (under : Environment) (main : Function) (is : IsInts flat main) (at : ℕ) (output : List ℕ) (turns : ℕ)
    → called flat under 0 [] None (state_in Begun [] at output turns) ≡ state_in Running (replicate (length main.vars) None) 0 output (turns + 1)
called_main flat under main is at output turns =
    rw (main_vars flat main is, is.types) (ap (λ (variables : List Object). entered_by variables output (turns + 1)) (fresh_vars main.vars is.ints))

-- the first step
pub begun_next : (flat : Flat) (under : Environment) (main : Function) (is : IsInts flat main) (phase : Phase) (vars : List (Option ℤ)) (at : ℕ) (output : List ℕ) (turns : ℕ) → phase ≡ Begun
    → next flat under (state_in phase vars at output turns) ≡ Goes (state_in Running (replicate (length main.vars) None) 0 output (turns + 1))
begun_next flat under main is Begun vars at output turns h =
    (ap (λ (n : ℕ). Goes (called flat under n [] None (state_in Begun [] at output turns))) (main_place flat main is)
    ∙ ap (λ (s : State). Goes s) (called_main flat under main is at output turns))
begun_next flat under main is Running vars at output turns h = cc
begun_next flat under main is Over vars at output turns h = cc
