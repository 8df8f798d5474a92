-- The states of a flat run that follows the source, and what one command does to them.
use Rattle.std.proofs.Common.{◌≡◌, ℕ, suc, ◌+◌, List, [], ◌∷◌, ◌++◌, length, refl, sym, ap, ◌∙◌, arith, false, Option, Some, None}
use Rattle.std.specs.Prelude.{⊤, slice_get, nat_le, is_some, if◌then◌else◌, ◌&&◌, Result, Ok}
use Rattle.porch_values.specs.declared.acts.Act.{Act}
use Rattle.porch_values.specs.declared.acts.Act.TheVariants.{Indeterminate}
use Rattle.porch_objects.specs.Store.{of_call, Value, number, null, pointer, past, indeterminate, Object, Store, object_at, seen, leaf_of, leaf_at}
use Rattle.porch_objects.specs.Pointers.{if_there, if_place, used, load}
use Rattle.porch_objects.specs.Meaning.{Environment, Mark, Progress, Met}
use Rattle.porch_flat.specs.declared.flat.Operand.TheVariants.{Var}
use Rattle.porch_flat.specs.declared.whole.Command.{Command}
use Rattle.porch_flat.specs.declared.whole.Flat.{Flat}
use Rattle.porch_flat.specs.whole.Form.{Form, form_of}
use Rattle.porch_flat.specs.whole.Places.{commands_of}
use Rattle.porch_abstract.specs.Machine.{Frame, State, running, Next, Goes, Meets, with_phase, determined}
use Rattle.porch_abstract.specs.whole.Machine.{next, after, does, operand_of}
use Rattle.porch_abstract.specs.whole.Run.{marks_in, marks_at, counts, counts_turn, is_paused}
use Rattle.porch_mean.specs.Outcome.{Went, with_result}
use Rattle.porch_lowered.specs.Beside.{beside, IsDeclared, IsGroundedStore}
use Rattle.porch_lowered.proofs.ReadAlike.{leaf_alike, seen_alike, leaf_grounded}
use Rattle.porch_lowered.proofs.Runs.{RunsTo, GoesOn, step_quietly, step_meets}
use Rattle.porch_lowered.proofs.Follows.{EndsIn, Follows}
use Rattle.porch_lowered.proofs.Temporaries.{IsInside, innermost_is}

-- these commands stand from a place on
abbrev pub Stands : List Command → ℕ → List Command → Type 0
Stands commands place [] = ⊤
Stands commands place (c ∷ cs) = (slice_get commands place ≡ Some c) × Stands commands (place + 1) cs

pub front_stands : (commands : List Command) (place : ℕ) (xs ys : List Command) → Stands commands place (xs ++ ys) → Stands commands place xs
front_stands commands place [] ys h = tt
front_stands commands place (x ∷ xs) ys h = (h.0, front_stands commands (place + 1) xs ys h.1)

pub back_stands : (commands : List Command) (place : ℕ) (xs ys : List Command) → Stands commands place (xs ++ ys)
    → Stands commands (place + length xs) ys
back_stands commands place [] ys h = (let e : place ≡ place + 0 = omega arith in rw (← e) h)
back_stands commands place (x ∷ xs) ys h =
    let e : place + 1 + length xs ≡ place + suc (length xs) = omega arith in
    rw (← e) (back_stands commands (place + 1) xs ys h.1)

-- a value that is there
abbrev pub IsThere : Value → Type 0
IsThere v = (go : Value → Next) → determined v go ≡ go v

-- what is read of a place by its name
abbrev read_place : Store → Value → Result Value Act
read_place s p = if_place p (λ home leaf. used s (leaf_at s home leaf) (λ v. Ok v))

abbrev read_leaf : Store → Option Object → Result Value Act
read_leaf s found = used s (leaf_of found 0) (λ v. Ok v)

abbrev named : Option Object → (call x : ℕ) → Value
named found call x = if is_some found then pointer (of_call call x) 0 else indeterminate

load_found : (s : Store) (call x : ℕ) (found : Option Object) → object_at s (of_call call x) ≡ found
    → load s (pointer (of_call call x) 0) ≡ used s (leaf_at s (of_call call x) 0) (λ v. Ok v)
load_found s call x None e = ap (λ found. if_there (named found call x) (read_place s)) e ∙ sym (ap (λ found. read_leaf s found) e)
load_found s call x (Some o) e = ap (λ found. if_there (named found call x) (read_place s)) e

pub load_named : (s : Store) (call x : ℕ) → load s (pointer (of_call call x) 0) ≡ used s (leaf_at s (of_call call x) 0) (λ v. Ok v)
load_named s call x = load_found s call x (object_at s (of_call call x)) refl

-- a value is used, and is there, or the run ends
pub used_follows : (flat : Flat) (under : Environment) (n : ℕ) (w : Value) (s : Progress) (here : State) (before : List Mark)
    (arrives : Value → Progress → Type 0) → (IsThere w → arrives w s) → (w ≡ indeterminate → EndsIn flat under n here before (Met Indeterminate) s)
    → Follows flat under n (with_result (if_there w (λ v. Ok v)) s (λ v s. Went v s)) here before arrives
used_follows flat under n (number z) s here before arrives k m = k (λ go. refl)
used_follows flat under n null s here before arrives k m = k (λ go. refl)
used_follows flat under n (pointer home leaf) s here before arrives k m = k (λ go. refl)
used_follows flat under n (past home leaf until) s here before arrives k m = k (λ go. refl)
used_follows flat under n indeterminate s here before arrives k m = m refl

-- a command that counts no turn and tells nothing
pub record IsQuiet (flat : Flat) (form : Form) : Type 0 where
  pub calm : counts_turn form ≡ false
  pub silent : (s : State) (frame : Frame) → marks_at flat s frame form ≡ []

-- A call of a function, into which the callers have got; `more` are the temporaries of the callers.
module _ (flat : Flat) (under : Environment) (n function : ℕ) (into : Option ℕ) (callers : List Frame) (more : List (List Object)) where
  abbrev pub frame_at : ℕ → Frame
  frame_at place = record { function = function; next = place; into = into }

  -- a state at a place of the function
  abbrev pub going : ℕ → State → State
  going place x = with_phase x (running (frame_at place) callers)

  -- the state beside that of the source
  abbrev pub state_of : Progress → List Object → (place : ℕ) → State
  state_of s ts place =
      record { phase = running (frame_at place) callers; store = beside s.store (ts ∷ more); output = s.output; turns = s.turns; taken = s.taken }

  abbrev pub commands : List Command
  commands = commands_of (slice_get flat.functions function)

  abbrev pub effect : Command → ℕ → State → Next
  effect c place x = does flat under (frame_at place) callers (form_of c) (going place x)

  module _ (c : Command) (place : ℕ) (x : State) (h : slice_get commands place ≡ Some c) where
    pub next_is : next flat under (going place x) ≡ effect c place x
    next_is = ap (λ found. after flat under (frame_at place) callers found (going place x)) h

    pub pauses_where : is_paused flat under n (going place x) ≡ (counts_turn (form_of c) && nat_le n x.turns)
    pauses_where = ap (λ found. counts found && nat_le n x.turns) h

    pub not_paused : counts_turn (form_of c) ≡ false → is_paused flat under n (going place x) ≡ false
    not_paused calm = pauses_where ∙ ap (λ b. b && nat_le n x.turns) calm

    pub marks_are : marks_in flat (going place x) (running (frame_at place) callers) (slice_get commands place)
        ≡ marks_at flat (going place x) (frame_at place) (form_of c)
    marks_are = ap (λ found. marks_in flat (going place x) (running (frame_at place) callers) found) h

    pub command_goes : IsQuiet flat (form_of c) → (there : State) (before : List Mark) → effect c place x ≡ Goes there
        → GoesOn flat under n (going place x) before there before
    command_goes quiet there before e =
        step_quietly flat under n (going place x) there before (not_paused quiet.calm) (next_is ∙ e) (marks_are ∙ quiet.silent (going place x) (frame_at place))

    pub command_meets : IsQuiet flat (form_of c) → (a : Act) (before : List Mark) → effect c place x ≡ Meets a
        → RunsTo flat under n (going place x) before (going place x) (Met a) before
    command_meets quiet a before e =
        step_meets flat under n (going place x) before a (not_paused quiet.calm) (next_is ∙ e) (marks_are ∙ quiet.silent (going place x) (frame_at place))

  -- a variable of the source as an operand
  pub variable_value : (declared : List ℕ) (call : ℕ) (s : Progress) (ts : List Object) (place x : ℕ) (ty : Option ℕ)
      → IsGroundedStore declared s.store → IsInside call s.store → IsDeclared declared (of_call call x)
      → operand_of flat ty (Var x) (state_of s ts place) ≡ seen s.store (leaf_at s.store (of_call call x) 0)
  variable_value declared call s ts place x ty grounded inside known =
      ap (λ k. seen (beside s.store (ts ∷ more)) (leaf_at (beside s.store (ts ∷ more)) (of_call k x) 0)) (innermost_is call s.store inside (ts ∷ more))
      ∙ ap (λ v. seen (beside s.store (ts ∷ more)) v) (leaf_alike declared s.store (ts ∷ more) grounded (of_call call x) 0 known)
      ∙ seen_alike declared s.store (ts ∷ more) grounded (leaf_at s.store (of_call call x) 0) (leaf_grounded declared s.store grounded (of_call call x) 0)
