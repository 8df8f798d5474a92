-- What it means that code follows an evaluation, and how the code of parts follows one after another.
use Rattle.std.proofs.Common.{◌≡◌, ◌<◌, ◌≤◌, ℕ, ◌+◌, List, [], ◌++◌, length, ◌∙◌, arith, length-append, max, Option, Some, None}
use Rattle.std.specs.Prelude.{⊤, slice_index_or}
use Rattle.porch_objects.specs.Store.{Value, indeterminate, Object, seen}
use Rattle.porch_objects.specs.Meaning.{Environment, Mark, Progress}
use Rattle.porch_flat.specs.declared.whole.Command.{Command}
use Rattle.porch_flat.specs.declared.whole.Flat.{Flat}
use Rattle.porch_abstract.specs.Machine.{Frame, State, Next, put}
use Rattle.porch_abstract.specs.whole.Machine.{var_type, becomes}
use Rattle.porch_mean.specs.Outcome.{Outcome, and_then}
use Rattle.porch_lowering.specs.Code.{InUse, then_code, Coder}
use Rattle.porch_sound.specs.Typing.{StoreTyping, Adds, IsValueOf, IsTypedStore}
use Rattle.porch_lowered.specs.Beside.{IsGrounded, IsGroundedStore}
use Rattle.porch_lowered.proofs.Typed.{counts, value_grounded, store_grounded, adds_both}
use Rattle.porch_lowered.proofs.Runs.{GoesOn, chain}
use Rattle.porch_lowered.proofs.Follows.{Follows, follows_from, follows_then}
use Rattle.porch_lowered.proofs.Temporaries.{IsInside, IsTemporary, temporary}
use Rattle.porch_lowered.proofs.States.{Stands, front_stands, back_stands, frame_at, state_of}
use Rattle.porch_lowered.proofs.States as states

pub at_most_left : (a b c : ℕ) → max a b ≤ c → a ≤ c
at_most_left a b c h = omega (arith, h)

pub at_most_right : (a b c : ℕ) → max a b ≤ c → b ≤ c
at_most_right a b c h = omega (arith, h)

-- A call of a function, in an environment and for n turns: its number, where its value goes, its callers and their
-- temporaries; the types of the globals and of its declared variables; where the pools of temporaries begin, and how many
-- each has.
pub record Context : Type 0 where
  pub flat : Flat
  pub under : Environment
  pub n : ℕ
  pub function : ℕ
  pub into : Option ℕ
  pub callers : List Frame
  pub more : List (List Object)
  pub call : ℕ
  pub globals : List ℕ
  pub variables : List ℕ
  pub start : ℕ → ℕ
  pub pools : ℕ → ℕ

-- a value that is there now, and used as it is
abbrev pub IsPresent : Value → Progress → Type 0
IsPresent v s = (seen s.store v ≡ v) × (v ≡ indeterminate → ⊥)

module _ (c : Context) where
  -- the number of the first temporary
  abbrev pub first : ℕ
  first = length c.variables

  abbrev pub commands : List Command
  commands = states.commands c.flat c.under c.n c.function c.into c.callers c.more

  abbrev pub frame : ℕ → Frame
  frame place = frame_at c.flat c.under c.n c.function c.into c.callers c.more place

  abbrev pub here : Progress → List Object → (place : ℕ) → State
  here s ts place = state_of c.flat c.under c.n c.function c.into c.callers c.more s ts place

  -- a variable becomes a value, and the next command comes
  abbrev pub goes_on : ℕ → ℕ → Progress → List Object → Value → Next
  goes_on d place s ts w = becomes c.flat c.under (frame place) c.callers d (here s ts place) w

  -- a value of a type
  abbrev pub IsOf : StoreTyping → ℕ → Value → Type 0
  IsOf made ty v = IsValueOf c.flat.types c.under.widths made ty v

  abbrev pub On : State → List Mark → State → List Mark → Type 0
  On near before there behind = GoesOn c.flat c.under c.n near before there behind

  abbrev pub Follow : Outcome → State → List Mark → (Value → Progress → Type 0) → Type 0
  Follow o near before arrives = Follows c.flat c.under c.n o near before arrives

  pub then_on : (a b d : State) (x y z : List Mark) → On a x b y → On b y d z → On a x d z
  then_on a b d x y z f g = chain c.flat c.under c.n a b d x y z f g

  -- temporary i is one of those in use
  pub record IsUsed (used : InUse) (i : ℕ) : Type 0 where
    pub ty : ℕ
    pub index : ℕ
    pub less : index < used ty
    pub number : first + i ≡ c.start ty + index

  -- each of them but the one that a value goes to is as it was
  abbrev pub Keeps : Option ℕ → InUse → List Object → List Object → Type 0
  Keeps to used before behind = (i : ℕ) → IsUsed used i → (to ≡ Some (first + i) → ⊥) → temporary behind i ≡ temporary before i

  -- The store is typed, the call is the one that runs and has its variables, and its temporaries are there.
  pub record IsReady (made : StoreTyping) (s : Progress) (ts : List Object) : Type 0 where
    pub typed : IsTypedStore c.flat.types c.under.widths made s.store
    pub inside : IsInside c.call s.store
    pub declares : slice_index_or made.calls c.call [] ≡ c.variables
    pub globals : made.globals ≡ c.globals
    pub temporaries : (ty index i : ℕ) → index < c.pools ty → first + i ≡ c.start ty + index → IsTemporary ts i

  pub grounded : (made : StoreTyping) (s : Progress) (ts : List Object) → IsReady made s ts → IsGroundedStore (counts made) s.store
  grounded made s ts ready = store_grounded c.flat.types c.under.widths made s.store ready.typed

  pub value_is_grounded : (made : StoreTyping) (ty : ℕ) (v : Value) → IsOf made ty v → IsGrounded (counts made) v
  value_is_grounded made ty v h = value_grounded c.flat.types c.under.widths made ty v h

  -- a value of a type may go to a variable of that type, or be dropped
  abbrev pub MayGo : (ty : ℕ) → Option ℕ → Type 0
  MayGo ty None = ⊤
  MayGo ty (Some d) = (place : ℕ) → var_type c.flat (frame place) d ≡ Some ty

  -- a value went to a variable, or was dropped
  abbrev pub arrived : Option ℕ → Value → Progress → List Object → (place : ℕ) → State
  arrived None v s ts place = here s ts place
  arrived (Some d) v s ts place = put d v (here s ts place)

  pub record Arrives (ty : ℕ) (made : StoreTyping) (to : Option ℕ) (used : InUse) (from : List Object) (near : State) (before : List Mark) (place : ℕ) (v : Value) (s : Progress) : Type 0 where
    pub later : StoreTyping
    pub adds : Adds made later
    pub temporaries : List Object
    pub onward : On near before (arrived to v s temporaries place) s.marks
    pub ready : IsReady later s temporaries
    pub value : IsOf later ty v
    pub kept : Keeps to used from temporaries

  -- The code follows the evaluation from each state: with temporaries in use that it keeps, and room for those that it takes.
  abbrev pub Codes : (ty : ℕ) → (value : Progress → Outcome) → Coder → Type 0
  Codes ty value coder =
      (to : Option ℕ) (used : InUse) (label place : ℕ) (made : StoreTyping) (s : Progress) (ts : List Object) → IsReady made s ts → MayGo ty to
      → ((t : ℕ) → (coder to used label).most t ≤ c.pools t)
      → Stands commands place (coder to used label).commands
      → Follow (value s) (here s ts place) s.marks
      (Arrives ty made to used ts (here s ts place) s.marks (place + length (coder to used label).commands))

  -- the same where the value goes to a variable
  abbrev pub Writes : (ty : ℕ) → (value : Progress → Outcome) → Coder → Type 0
  Writes ty value coder =
      (d : ℕ) (used : InUse) (label place : ℕ) (made : StoreTyping) (s : Progress) (ts : List Object) → IsReady made s ts → MayGo ty (Some d)
      → ((t : ℕ) → (coder (Some d) used label).most t ≤ c.pools t)
      → Stands commands place (coder (Some d) used label).commands
      → Follow (value s) (here s ts place) s.marks
      (Arrives ty made (Some d) used ts (here s ts place) s.marks (place + length (coder (Some d) used label).commands))

  -- variable d is a temporary in use
  pub record IsTaken (used : InUse) (d : ℕ) : Type 0 where
    pub index : ℕ
    pub number : d ≡ first + index
    pub is_used : IsUsed used index

  -- a value may go to a temporary in use alone
  abbrev pub Taken : InUse → Option ℕ → Type 0
  Taken used None = ⊥
  Taken used (Some d) = IsTaken used d

  -- The code follows the evaluation where the value may go as `Fit` says, and `Is` holds of the value when it is there.
  abbrev pub Evaluates : (Fit : InUse → Option ℕ → Type 0) → (Is : Value → Progress → Type 0) → (ty : ℕ) → (value : Progress → Outcome) → Coder → Type 0
  Evaluates Fit Is ty value coder =
      (to : Option ℕ) (used : InUse) (label place : ℕ) (made : StoreTyping) (s : Progress) (ts : List Object) → IsReady made s ts → Fit used to → MayGo ty to
      → ((t : ℕ) → (coder to used label).most t ≤ c.pools t)
      → Stands commands place (coder to used label).commands
      → Follow (value s) (here s ts place) s.marks
      (λ v u. Arrives ty made to used ts (here s ts place) s.marks (place + length (coder to used label).commands) v u × Is v u)

  pub keeps_both : (to : Option ℕ) (used : InUse) (a b d : List Object) → Keeps None used a b → Keeps to used b d → Keeps to used a d
  keeps_both to used a b d x y i u ne = y i u ne ∙ x i u (λ e. cc)

  -- what arrives from behind a way arrives from before it
  pub arrives_from : (ty : ℕ) (made later : StoreTyping) (to : Option ℕ) (used : InUse) (from ts : List Object) (near there : State) (before behind : List Mark) (place : ℕ)
      (v : Value) (s : Progress) → Adds made later → On near before there behind → Keeps None used from ts
      → Arrives ty later to used ts there behind place v s → Arrives ty made to used from near before place v s
  arrives_from ty made later to used from ts near there before behind place v s adds on keeps far =
      record {
        later = far.later;
        adds = adds_both made later far.later adds far.adds;
        temporaries = far.temporaries;
        onward = then_on near there (arrived to v s far.temporaries place) before behind s.marks on far.onward;
        ready = far.ready;
        value = far.value;
        kept = keeps_both to used from ts far.temporaries keeps far.kept;
      }

  -- a value that is dropped, and then what follows
  pub codes_then : (ty ty' : ℕ) (value : Progress → Outcome) (go : Value → Progress → Outcome) (coder coder' : Coder)
      → Codes ty value coder → ((v : Value) → Codes ty' (go v) coder')
      → Codes ty' (λ s. and_then (value s) go)
      (λ to used label. let a = coder None used label in then_code a (coder' to used a.label))
  codes_then ty ty' value go coder coder' x y to used label place made s ts ready may room stands =
      let a = coder None used label in
      let b = coder' to used a.label in
      let middle = place + length a.commands in
      let end : middle + length b.commands ≡ place + length (a.commands ++ b.commands) = simp length-append (omega arith) in
      follows_then c.flat c.under c.n (value s) go (here s ts place) s.marks _ _
      (x None used label place made s ts ready tt (λ t. at_most_left (a.most t) (b.most t) (c.pools t) (room t)) (front_stands commands place a.commands b.commands stands))
      (λ v s' near.
      follows_from c.flat c.under c.n (go v s') (here s ts place) (here s' near.temporaries middle) s.marks s'.marks _ _ near.onward
      (λ w s'' far.
      rw (← end)
      (arrives_from ty' made near.later to used ts near.temporaries (here s ts place) (here s' near.temporaries middle) s.marks s'.marks (middle + length b.commands) w s''
      near.adds near.onward near.kept far))
      (y v to used a.label middle near.later s' near.temporaries near.ready may
      (λ t. at_most_right (a.most t) (b.most t) (c.pools t) (room t)) (back_stands commands place a.commands b.commands stands)))
