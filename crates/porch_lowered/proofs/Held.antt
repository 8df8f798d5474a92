-- A value that is held: in a temporary that its code goes to, or where it stands. What follows has it as an operand.
use Rattle.std.proofs.Common.{◌≡◌, ◌≤◌, ℕ, ◌+◌, List, length, refl, sym, ap, subst, ◌∙◌, inl, arith, Option, Some, None}
use Rattle.std.specs.Prelude.{⊤, Ok}
use Rattle.porch_objects.specs.Store.{Value, Object, seen}
use Rattle.porch_objects.specs.Pointers.{if_there}
use Rattle.porch_objects.specs.Meaning.{Mark, Progress}
use Rattle.porch_flat.specs.declared.flat.Operand.{Operand}
use Rattle.porch_abstract.specs.Machine.{State}
use Rattle.porch_mean.specs.Outcome.{Outcome, Went, and_then, with_result}
use Rattle.porch_lowering.specs.Code.{InUse, and_one, Coder, hold}
use Rattle.porch_lowering.specs.Operators.{next_of}
use Rattle.porch_sound.specs.Typing.{StoreTyping, Adds}
use Rattle.porch_lowered.proofs.Typed.{adds_nothing}
use Rattle.porch_lowered.proofs.Runs.{stays}
use Rattle.porch_lowered.proofs.Follows.{follows_from, follows_then}
use Rattle.porch_lowered.proofs.States.{Stands}
use Rattle.porch_lowered.proofs.Growing.{Grows}
use Rattle.porch_lowered.proofs.Codes.{Context, commands, here, IsOf, On, Follow, IsUsed, Keeps, IsReady, Arrives, arrives_from, Taken, Evaluates}
use Rattle.porch_lowered.proofs.Holding.{IsSetting, evaluates_hold, room_grown, room_next, used_before, one_is_used, temporary_type}
use Rattle.porch_lowered.proofs.Operands.{InTemporary, IsOperand, IsSteady}

-- a value that is used at once
abbrev pub use_now : Value → Progress → Outcome
use_now v s = with_result (if_there (seen s.store v) (λ v. Ok v)) s (λ v s. Went v s)

-- What follows uses the value: so it is the same whether that was used before.
abbrev pub IsStrict : (Value → Progress → Outcome) → Type 0
IsStrict go = (v : Value) (s : Progress) → and_then (use_now v s) go ≡ go v s

module _ (c : Context) where
  -- an evaluation of which nothing is left but to use what stands in an operand
  abbrev pub InPlace : (ty : ℕ) → Option Operand → (Progress → Outcome) → Type 0
  InPlace ty None value = ⊤
  InPlace ty (Some o) value =
      (made : StoreTyping) (s : Progress) (ts : List Object) (used : InUse) → IsReady c made s ts
      → (v : Value) × IsOperand c ty used s ts o v × IsOf c made ty v × (value s ≡ use_now v s)

  -- what is known of a value that is held, where what follows begins
  pub record IsHeld (ty : ℕ) (made : StoreTyping) (used used' : InUse) (from : List Object) (near : State) (before : List Mark) (place : ℕ) (o : Operand) (v : Value) (s : Progress) : Type 0 where
    pub later : StoreTyping
    pub adds : Adds made later
    pub temporaries : List Object
    pub onward : On c near before (here c s temporaries place) s.marks
    pub ready : IsReady c later s temporaries
    pub value : IsOf c later ty v
    pub kept : Keeps c None used from temporaries
    pub operand : IsOperand c ty used' s temporaries o v
    pub more : (i : ℕ) → IsUsed c used i → IsUsed c used' i

  -- from where it is held on
  pub from_held : (ty ty' : ℕ) (made : StoreTyping) (used used' : InUse) (from : List Object) (near : State) (before : List Mark) (place end : ℕ) (o : Operand)
      (v : Value) (s : Progress) (to : Option ℕ) (out : Outcome) (h : IsHeld ty made used used' from near before place o v s)
      → Follow c out (here c s h.temporaries place) s.marks (Arrives c ty' h.later to used' h.temporaries (here c s h.temporaries place) s.marks end)
      → Follow c out near before (Arrives c ty' made to used from near before end)
  from_held ty ty' made used used' from near before place end o v s to out h follows =
      follows_from c.flat c.under c.n out near (here c s h.temporaries place) before s.marks _ _ h.onward
      (λ w u far.
      arrives_from c ty' made h.later to used from h.temporaries near (here c s h.temporaries place) before s.marks end w u h.adds h.onward h.kept
      (record {
        later = far.later;
        adds = far.adds;
        temporaries = far.temporaries;
        onward = far.onward;
        ready = far.ready;
        value = far.value;
        kept = λ i x ne. far.kept i (h.more i x) ne;
      }))
      follows

  -- the same, with what else is known of the value
  pub from_held_is : (Is : Value → Progress → Type 0) (ty ty' : ℕ) (made : StoreTyping) (used used' : InUse) (from : List Object) (near : State) (before : List Mark) (place end : ℕ) (o : Operand)
      (v : Value) (s : Progress) (to : Option ℕ) (out : Outcome) (h : IsHeld ty made used used' from near before place o v s)
      → Follow c out (here c s h.temporaries place) s.marks (λ w u. Arrives c ty' h.later to used' h.temporaries (here c s h.temporaries place) s.marks end w u × Is w u)
      → Follow c out near before (λ w u. Arrives c ty' made to used from near before end w u × Is w u)
  from_held_is Is ty ty' made used used' from near before place end o v s to out h follows =
      follows_from c.flat c.under c.n out near (here c s h.temporaries place) before s.marks _ _ h.onward
      (λ w u x.
      (let far = x.0 in (
        arrives_from c ty' made h.later to used from h.temporaries near (here c s h.temporaries place) before s.marks end w u h.adds h.onward h.kept
            (record {
              later = far.later;
              adds = far.adds;
              temporaries = far.temporaries;
              onward = far.onward;
              ready = far.ready;
              value = far.value;
              kept = λ i x ne. far.kept i (h.more i x) ne;
            }),
        x.1,
      )))
      follows

  -- What comes behind uses the value in this state, where that stands in place.
  abbrev pub IsStrictAt : Option Operand → (Value → Progress → Outcome) → Progress → Type 0
  IsStrictAt None go s = ⊤
  IsStrictAt (Some o) go s = (v : Value) → and_then (use_now v s) go ≡ go v s

  pub strict_at : (o : Option Operand) (go : Value → Progress → Outcome) (s : Progress) → IsStrict go → IsStrictAt o go s
  strict_at None go s strict = tt
  strict_at (Some o) go s strict = λ v. strict v s

  -- of a value that doesn't stand in place
  abbrev pub IfHeld : Option Operand → Type 0 → Type 0
  IfHeld None P = P
  IfHeld (Some o) P = ⊤

  -- What else holds, and still does when the value is held: one that stands in place changes nothing.
  abbrev pub Carries : Option Operand → (ty : ℕ) → (Other : StoreTyping → InUse → Progress → List Object → Type 0) → StoreTyping → InUse → Progress → List Object → Type 0
  Carries None ty Other made used s ts =
      (later : StoreTyping) (u : Progress) (ts' : List Object) → Adds made later → Keeps c None used ts ts' → Other later (and_one ty used) u ts'
  Carries (Some o) ty Other made used s ts = Other made used s ts

  abbrev pub Nothing : StoreTyping → InUse → Progress → List Object → Type 0
  Nothing made used s ts = ⊤

  pub carries_nothing : (o : Option Operand) (ty : ℕ) (made : StoreTyping) (used : InUse) (s : Progress) (ts : List Object) → Carries o ty Nothing made used s ts
  carries_nothing None ty made used s ts = λ later u ts' adds keeps. tt
  carries_nothing (Some o) ty made used s ts = tt

  pub hold_then : (set : IsSetting c) (ty : ℕ) (o : Option Operand) (Is : Value → Progress → Type 0) (Other : StoreTyping → InUse → Progress → List Object → Type 0)
      (value : Progress → Outcome) (coder : Coder) (go : Value → Progress → Outcome)
      → Evaluates c (Taken c) Is ty value coder → Grows coder → InPlace ty o value
      → (used : InUse) (label place : ℕ) (made : StoreTyping) (s : Progress) (ts : List Object) (near : Value → Progress → Type 0) → IsReady c made s ts
      → IsStrictAt o go s → Carries o ty Other made used s ts
      → ((t : ℕ) → (hold o (next_of c.start ty used) ty coder used label).code.most t ≤ c.pools t)
      → Stands (commands c) place (hold o (next_of c.start ty used) ty coder used label).code.commands
      → ((v : Value) (u : Progress)
      → (h : IsHeld ty made used (hold o (next_of c.start ty used) ty coder used label).used ts (here c s ts place) s.marks
      (place + length (hold o (next_of c.start ty used) ty coder used label).code.commands) (hold o (next_of c.start ty used) ty coder used label).operand v u)
      → Other h.later (hold o (next_of c.start ty used) ty coder used label).used u h.temporaries
      → IfHeld o
      (Is v u
      × IsSteady c ty (hold o (next_of c.start ty used) ty coder used label).used h.temporaries (hold o (next_of c.start ty used) ty coder used label).operand v)
      → Follow c (go v u) (here c s ts place) s.marks near)
      → Follow c (and_then (value s) go) (here c s ts place) s.marks near
  hold_then set ty (Some o) Is Other value coder go evaluates grows stands_there used label place made s ts near ready strict carries room stands k =
      let x = stands_there made s ts used ready in
      let v = x.0 in
      let e : place + 0 ≡ place = omega arith in
      subst (λ out. Follow c out (here c s ts place) s.marks near) (sym (ap (λ out. and_then out go) x.3 ∙ strict v))
      (k v s
      (record {
        later = made;
        adds = adds_nothing made;
        temporaries = ts;
        onward = rw e (stays c.flat c.under c.n (here c s ts place) s.marks);
        ready = ready;
        value = x.2;
        kept = λ i u ne. refl;
        operand = x.1;
        more = λ i u. u;
      })
      carries tt)
  hold_then set ty None Is Other value coder go evaluates grows stands_there used label place made s ts near ready strict carries room stands k =
      let t = next_of c.start ty used in
      let room' = room_grown c set coder grows (Some t) (and_one ty used) label room in
      let inside = room_next c set ty used room' in
      follows_then c.flat c.under c.n (value s) go (here c s ts place) s.marks _ near
      (evaluates_hold c set Is ty value coder evaluates grows used label place made s ts ready room stands)
      (λ v u both.
      (let h = both.0 in
      let held : InTemporary c ty (and_one ty used) h.temporaries t v = record {
        of_type = temporary_type c set ty used inside;
        index = h.index;
        number = h.number;
        is_used = record { ty = ty; index = used ty; less = one_is_used c set ty used; number = sym h.number };
        holds = h.holds;
      } in
      k v u
      (record {
        later = h.later;
        adds = h.adds;
        temporaries = h.temporaries;
        onward = h.onward;
        ready = h.ready;
        value = h.value;
        kept = h.kept;
        operand = inl held;
        more = λ i u. used_before c set ty used i u;
      })
      (carries h.later u h.temporaries h.adds h.kept) (both.1, held)))
