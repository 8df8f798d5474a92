-- A value that goes to a temporary is held there.
use Rattle.std.proofs.Common.{◌≡◌, ◌<◌, ◌≤◌, ◌≢◌, ℕ, ◌+◌, ◌-◌, ℤ, List, ◌∷◌, length, refl, sym, ap, ◌∙◌, arith, inl, inr, Option, Some, None}
use Rattle.std.proofs.lemmas.Bool.Decides.{eqb_tells}
use Rattle.std.specs.Prelude.{⊤, slice_get, IsTrue, ◌||◌, Ok}
use Rattle.porch_types.specs.declared.shapes.Kind.{Kind}
use Rattle.porch_types.specs.declared.shapes.Ty.TheVariants.{Whole}
use Rattle.porch_types.specs.Kinds.{kind_number}
use Rattle.porch_types.specs.Leaves.{IsTypes, leaves_of}
use Rattle.porch_types.specs.LeafTypes.{IsScalar, leaf_type}
use Rattle.porch_types.specs.Rows.{IsSubobject}
use Rattle.porch_values.specs.declared.acts.Op.{Op}
use Rattle.porch_values.specs.Integers.{applied, complemented, converted, is_value_of}
use Rattle.porch_objects.specs.Store.{of_call, Value, Object, seen, leaf_at, with_leaf_at}
use Rattle.porch_objects.specs.Meaning.{Mark, Progress}
use Rattle.porch_abstract.specs.Machine.{State, running, put}
use Rattle.porch_abstract.specs.whole.Machine.{var_type, variable_of}
use Rattle.porch_mean.specs.Outcome.{Outcome}
use Rattle.porch_lowering.specs.Code.{InUse, and_one, Coder}
use Rattle.porch_lowering.specs.Operators.{next_of}
use Rattle.porch_sound.specs.Typing.{StoreTyping, Adds}
use Rattle.porch_sound.specs.Laws.{KeepTypes, KeepsTypes}
use Rattle.porch_lowered.specs.Beside.{beside}
use Rattle.porch_lowered.proofs.ReadAlike.{seen_alike}
use Rattle.porch_lowered.proofs.Typed.{counts, count_of}
use Rattle.porch_lowered.proofs.Runs.{stays}
use Rattle.porch_lowered.proofs.Follows.{follows_from, follows_is}
use Rattle.porch_lowered.proofs.Temporaries.{innermost_is, with_temporary, temporary, temporary_read, temporary_written, other_temporary, same_temporary, still_temporary}
use Rattle.porch_lowered.proofs.States.{Stands}
use Rattle.porch_lowered.proofs.Growing.{Grows}
use Rattle.porch_lowered.proofs.Codes.{Context, first, commands, frame, here, IsOf, On, Follow, IsUsed, Keeps, IsReady, grounded, value_is_grounded, MayGo, Arrives, Codes, Writes, IsTaken, Taken, Evaluates}

-- The pools lie behind the declared variables and apart, and their temporaries have their types. The other fields are laws
-- of the crates below, at the program's types and the environment's widths.
pub record IsSetting (c : Context) : Type 0 where
  pub behind : (ty : ℕ) → first c ≤ c.start ty
  pub apart : (ty ty' k k' : ℕ) → k < c.pools ty → k' < c.pools ty' → c.start ty + k ≡ c.start ty' + k' → (ty ≡ ty') × (k ≡ k')
  pub types : (ty k place : ℕ) → k < c.pools ty → var_type c.flat (frame c place) (c.start ty + k) ≡ Some ty
  pub declared : (v ty place : ℕ) → slice_get c.variables v ≡ Some ty → var_type c.flat (frame c place) v ≡ Some ty
  pub are : IsTypes c.flat.types
  pub kinds : (kind : Kind) → slice_get c.flat.types (kind_number kind) ≡ Some (Whole kind)
  pub whole : (ty : ℕ) (kind : Kind) → slice_get c.flat.types ty ≡ Some (Whole kind) → ty ≡ kind_number kind
  pub nest : (root count place ty inner pointee : ℕ) → IsSubobject c.flat.types root count place ty → IsSubobject c.flat.types ty 1 inner pointee
      → IsSubobject c.flat.types root count (place + inner) pointee
  pub scalar_leaf : (ty leaf : ℕ) → IsScalar (slice_get c.flat.types ty) → leaf_type c.flat.types ty leaf ≡ ty
  pub scalar_size : (ty : ℕ) → IsScalar (slice_get c.flat.types ty) → leaves_of c.flat.types ty ≡ 1
  pub keeps : KeepTypes
  pub some_width : IsTrue (c.under.widths.narrow || c.under.widths.wide)
  pub converts : (kind : Kind) (z w : ℤ) → converted kind c.under.widths z ≡ Ok w → IsTrue (is_value_of kind c.under.widths w)
  pub operates : (op : Op) (kind : Kind) (x y w : ℤ) → applied op kind c.under.widths x y ≡ Ok w → IsTrue (is_value_of kind c.under.widths w)
  pub complements : (kind : Kind) (x w : ℤ) → complemented kind c.under.widths x ≡ Ok w → IsTrue (is_value_of kind c.under.widths w)
  pub same : (kind : Kind) (z : ℤ) → IsTrue (is_value_of kind c.under.widths z) → converted kind c.under.widths z ≡ Ok z

module _ (c : Context) (set : IsSetting c) where
  -- what operations keep, in a state
  pub kept_types : (made : StoreTyping) (s : Progress) (ts : List Object) → IsReady c made s ts → KeepsTypes c.flat.types c.under.widths made s.store
  kept_types made s ts ready = set.keeps c.flat.types c.under.widths made s.store set.are ready.typed

  pub variables_count : (made : StoreTyping) (s : Progress) (ts : List Object) (ready : IsReady c made s ts) → length ready.inside.variables ≡ first c
  variables_count made s ts ready =
      let g = grounded c made s ts ready in
      let frames = rw ready.inside.here at g.calls in
      frames.0.variables ∙ count_of made.calls c.call ∙ ap (λ (xs : List ℕ). length xs) ready.declares

  -- a temporary is written
  pub put_temporary : (made : StoreTyping) (s : Progress) (ts : List Object) (place i t : ℕ) (v : Value) → IsReady c made s ts → t ≡ first c + i
      → put t v (here c s ts place) ≡ here c s (with_temporary ts i v) place
  put_temporary made s ts place i t v ready e =
      let count = variables_count made s ts ready in
      let place_is : t ≡ length ready.inside.variables + i = omega (arith, e, count) in
      let written =
      ap (λ k. with_leaf_at (beside s.store (ts ∷ c.more)) (of_call k t) 0 v) (innermost_is c.call s.store ready.inside (ts ∷ c.more))
      ∙ ap (λ k. with_leaf_at (beside s.store (ts ∷ c.more)) (of_call c.call k) 0 v) place_is
      ∙ temporary_written c.call s.store ready.inside ts c.more i v in
      ap
      (λ store.
      let x : State = record { phase = running (frame c place) c.callers; store = store; output = s.output; turns = s.turns; taken = s.taken } in x)
      written

  -- a temporary is read
  pub temporary_value : (made : StoreTyping) (s : Progress) (ts : List Object) (place i t ty : ℕ) (v : Value) → IsReady c made s ts → t ≡ first c + i
      → temporary ts i ≡ v → IsOf c made ty v → variable_of t (here c s ts place) ≡ seen s.store v
  temporary_value made s ts place i t ty v ready e holds of =
      let count = variables_count made s ts ready in
      let place_is : t ≡ length ready.inside.variables + i = omega (arith, e, count) in
      ap (λ k. seen (beside s.store (ts ∷ c.more)) (leaf_at (beside s.store (ts ∷ c.more)) (of_call k t) 0)) (innermost_is c.call s.store ready.inside (ts ∷ c.more))
      ∙ ap (λ k. seen (beside s.store (ts ∷ c.more)) (leaf_at (beside s.store (ts ∷ c.more)) (of_call c.call k) 0)) place_is
      ∙ ap (λ x. seen (beside s.store (ts ∷ c.more)) x) (temporary_read c.call s.store ready.inside ts c.more i ∙ holds)
      ∙ seen_alike (counts made) s.store (ts ∷ c.more) (grounded c made s ts ready) v (value_is_grounded c made ty v of)

  pub ready_with : (made : StoreTyping) (s : Progress) (ts : List Object) (i : ℕ) (v : Value) → IsReady c made s ts → IsReady c made s (with_temporary ts i v)
  ready_with made s ts i v ready =
      record {
        typed = ready.typed;
        inside = ready.inside;
        declares = ready.declares;
        globals = ready.globals;
        temporaries = λ ty index j less e. still_temporary ts i j v (ready.temporaries ty index j less e);
      }

  -- the temporary that comes next in a pool with room
  pub record IsNext (ty : ℕ) (used : InUse) : Type 0 where
    pub index : ℕ
    pub number : next_of c.start ty used ≡ first c + index
    pub inside : used ty < c.pools ty

  pub next_is : (ty : ℕ) (used : InUse) → used ty < c.pools ty → IsNext ty used
  next_is ty used inside =
      let behind = set.behind ty in
      record { index = c.start ty + used ty - first c; number = omega (arith, behind); inside = inside }

  -- it is none of those in use
  pub next_is_free : (ty : ℕ) (used : InUse) (x : IsNext ty used) (i : ℕ) → IsUsed c used i → ((t : ℕ) → used t ≤ c.pools t) → i ≢ x.index
  next_is_free ty used x i u room e =
      let one = u.number in
      let number = x.number in
      let same : c.start u.ty + u.index ≡ c.start ty + used ty = omega (arith, one, number, e) in
      let r = room u.ty in
      let l = u.less in
      let within : u.index < c.pools u.ty = omega (arith, r, l) in
      let both = set.apart u.ty ty u.index (used ty) within x.inside same in
      let equal = ap (λ k. used k) both.0 in
      let last = both.1 in
      absurd (omega (arith, l, equal, last))

  -- where it is written those in use stay
  pub next_keeps : (ty : ℕ) (used : InUse) (x : IsNext ty used) (ts : List Object) (v : Value) → ((t : ℕ) → used t ≤ c.pools t)
      → Keeps c None used ts (with_temporary ts x.index v)
  next_keeps ty used x ts v room i u ne = other_temporary ts x.index i v (next_is_free ty used x i u room)

  pub next_holds : (ty : ℕ) (used : InUse) (x : IsNext ty used) (made : StoreTyping) (s : Progress) (ts : List Object) (v : Value) → IsReady c made s ts
      → temporary (with_temporary ts x.index v) x.index ≡ v
  next_holds ty used x made s ts v ready = same_temporary ts x.index v (ready.temporaries ty (used ty) x.index x.inside (sym x.number))

  -- A value is held in a temporary, and those that were in use are as they were.
  pub record Holds (ty : ℕ) (made : StoreTyping) (used : InUse) (from : List Object) (near : State) (before : List Mark) (place t : ℕ) (v : Value) (s : Progress) : Type 0 where
    pub later : StoreTyping
    pub adds : Adds made later
    pub temporaries : List Object
    pub onward : On c near before (here c s temporaries place) s.marks
    pub ready : IsReady c later s temporaries
    pub value : IsOf c later ty v
    pub kept : Keeps c None used from temporaries
    pub index : ℕ
    pub number : t ≡ first c + index
    pub holds : temporary temporaries index ≡ v

  one_more : (ty : ℕ) (used : InUse) (t k : ℕ) → k < used t → k < and_one ty used t
  one_more ty used t k less =
      elim (eqb_tells t ty) [
        | inl w ↦ rw w.0 (let l : k < used t + 1 = omega (arith, less) in l)
        | inr w ↦ rw w.0 less
      ]

  pub used_before : (ty : ℕ) (used : InUse) (i : ℕ) → IsUsed c used i → IsUsed c (and_one ty used) i
  used_before ty used i u =
      record { ty = u.ty; index = u.index; less = one_more ty used u.ty u.index u.less; number = u.number }

  pub one_is_used : (ty : ℕ) (used : InUse) → used ty < and_one ty used ty
  one_is_used ty used =
      elim (eqb_tells ty ty) [
        | inl w ↦ rw w.0 (let l : used ty < used ty + 1 = omega arith in l)
        | inr w ↦ absurd (w.1 refl)
      ]

  pub one_at_least : (ty : ℕ) (used : InUse) (t : ℕ) → used t ≤ and_one ty used t
  one_at_least ty used t =
      elim (eqb_tells t ty) [
        | inl w ↦ rw w.0 (let l : used t ≤ used t + 1 = omega arith in l)
        | inr w ↦ rw w.0 (let l : used t ≤ used t = omega arith in l)
      ]

  -- room for one more is room for those in use
  pub room_before : (ty : ℕ) (used : InUse) → ((t : ℕ) → and_one ty used t ≤ c.pools t) → (t : ℕ) → used t ≤ c.pools t
  room_before ty used room t = (let a = one_at_least ty used t in let b = room t in omega (arith, a, b))

  pub room_next : (ty : ℕ) (used : InUse) → ((t : ℕ) → and_one ty used t ≤ c.pools t) → used ty < c.pools ty
  room_next ty used room = (let a = one_is_used ty used in let b = room ty in omega (arith, a, b))

  -- the temporary that a value goes to has its type
  pub temporary_type : (ty : ℕ) (used : InUse) → used ty < c.pools ty → MayGo c ty (Some (next_of c.start ty used))
  temporary_type ty used inside = λ place. set.types ty (used ty) place inside

  -- the room of code is room for what is in use before it
  pub room_grown : (coder : Coder) → Grows coder → (to : Option ℕ) (used : InUse) (label : ℕ) → ((t : ℕ) → (coder to used label).most t ≤ c.pools t)
      → (t : ℕ) → used t ≤ c.pools t
  room_grown coder grows to used label room t = (let a = grows to used label t in let b = room t in omega (arith, a, b))

  -- the next temporary is one of those in use with it
  pub next_is_taken : (ty : ℕ) (used : InUse) → used ty < c.pools ty → IsTaken c (and_one ty used) (next_of c.start ty used)
  next_is_taken ty used inside =
      let x = next_is ty used inside in
      record {
        index = x.index;
        number = x.number;
        is_used = record { ty = ty; index = used ty; less = one_is_used ty used; number = sym x.number };
      }

  -- a value that arrives in the next temporary is held there
  pub arrives_held : (ty : ℕ) (used in_use : InUse) (made : StoreTyping) (from : List Object) (near : State) (before : List Mark) (place : ℕ) (v : Value) (s : Progress)
      → used ty < c.pools ty → ((t : ℕ) → used t ≤ c.pools t) → ((i : ℕ) → IsUsed c used i → IsUsed c in_use i)
      → Arrives c ty made (Some (next_of c.start ty used)) in_use from near before place v s
      → Holds ty made used from near before place (next_of c.start ty used) v s
  arrives_held ty used in_use made from near before place v s inside room more y =
      let t = next_of c.start ty used in
      let x = next_is ty used inside in
      record {
        later = y.later;
        adds = y.adds;
        temporaries = with_temporary y.temporaries x.index v;
        onward = rw (put_temporary y.later s y.temporaries place x.index t v y.ready x.number) at y.onward;
        ready = ready_with y.later s y.temporaries x.index v y.ready;
        value = y.value;
        kept = λ j u ne.
            (let far = next_is_free ty used x j u room in
            other_temporary y.temporaries x.index j v far
            ∙ y.kept j (more j u)
            (λ e. (let k = some_same t (first c + j) e in let number = x.number in far (omega (arith, k, number)))));
        index = x.index;
        number = x.number;
        holds = next_holds ty used x y.later s y.temporaries v y.ready;
      }
    where
      some_same : (a b : ℕ) → Some a ≡ Some b → a ≡ b
      some_same a b e = cc

  -- Its code goes to the next temporary.
  pub evaluates_hold : (Is : Value → Progress → Type 0) (ty : ℕ) (value : Progress → Outcome) (coder : Coder) → Evaluates c (Taken c) Is ty value coder → Grows coder
      → (used : InUse) (label place : ℕ) (made : StoreTyping) (s : Progress) (ts : List Object) → IsReady c made s ts
      → ((t : ℕ) → (coder (Some (next_of c.start ty used)) (and_one ty used) label).most t ≤ c.pools t)
      → Stands (commands c) place (coder (Some (next_of c.start ty used)) (and_one ty used) label).commands
      → Follow c (value s) (here c s ts place) s.marks
      (λ v u.
      Holds ty made used ts (here c s ts place) s.marks (place + length (coder (Some (next_of c.start ty used)) (and_one ty used) label).commands) (next_of c.start ty used) v u
      × Is v u)
  evaluates_hold Is ty value coder evaluates grows used label place made s ts ready room stands =
      let t = next_of c.start ty used in
      let a = coder (Some t) (and_one ty used) label in
      let room' = room_grown coder grows (Some t) (and_one ty used) label room in
      let inside = room_next ty used room' in
      follows_is c.flat c.under c.n (value s) (here c s ts place) s.marks _ _
      (evaluates (Some t) (and_one ty used) label place made s ts ready (next_is_taken ty used inside) (temporary_type ty used inside) room stands)
      (λ v u e x. (
        arrives_held ty used (and_one ty used) made ts (here c s ts place) s.marks (place + length a.commands) v u inside (room_before ty used room')
            (λ i u. used_before ty used i u) x.0,
        x.1,
      ))

  -- what may go anywhere may go to a temporary in use
  pub writes_taken : (ty : ℕ) (value : Progress → Outcome) (coder : Coder) → Writes c ty value coder → Evaluates c (Taken c) (λ v s. ⊤) ty value coder
  writes_taken ty value coder writes None used label place made s ts ready taken may room stands = absurd taken
  writes_taken ty value coder writes (Some d) used label place made s ts ready taken may room stands =
      follows_is c.flat c.under c.n (value s) (here c s ts place) s.marks _ _ (writes d used label place made s ts ready may room stands) (λ v u e x. (x, tt))

  pub codes_hold : (ty : ℕ) (value : Progress → Outcome) (coder : Coder) → Writes c ty value coder → Grows coder
      → (used : InUse) (label place : ℕ) (made : StoreTyping) (s : Progress) (ts : List Object) → IsReady c made s ts
      → ((t : ℕ) → (coder (Some (next_of c.start ty used)) (and_one ty used) label).most t ≤ c.pools t)
      → Stands (commands c) place (coder (Some (next_of c.start ty used)) (and_one ty used) label).commands
      → Follow c (value s) (here c s ts place) s.marks
      (Holds ty made used ts (here c s ts place) s.marks (place + length (coder (Some (next_of c.start ty used)) (and_one ty used) label).commands) (next_of c.start ty used))
  codes_hold ty value coder writes grows used label place made s ts ready room stands =
      follows_is c.flat c.under c.n (value s) (here c s ts place) s.marks _ _
      (evaluates_hold (λ v s. ⊤) ty value coder (writes_taken ty value coder writes) grows used label place made s ts ready room stands) (λ v u e x. x.0)

  -- Code that takes a temporary of its own for a value that is dropped, and writes to it.
  pub codes_both : (ty : ℕ) (value : Progress → Outcome) (coder : Coder) → Writes c ty value coder → Grows coder
      → ((used : InUse) (label : ℕ) → coder None used label ≡ coder (Some (next_of c.start ty used)) (and_one ty used) label)
      → Codes c ty value coder
  codes_both ty value coder writes grows same (Some d) used label place made s ts ready may room stands =
      writes d used label place made s ts ready may room stands
  codes_both ty value coder writes grows same None used label place made s ts ready may room stands =
      let is = same used label in
      rw is
      (follows_from c.flat c.under c.n (value s) (here c s ts place) (here c s ts place) s.marks s.marks _ _ (stays c.flat c.under c.n (here c s ts place) s.marks)
      (λ v s' x.
      record { later = x.later; adds = x.adds; temporaries = x.temporaries; onward = x.onward; ready = x.ready; value = x.value; kept = x.kept })
      (codes_hold ty value coder writes grows used label place made s ts ready (rw is at room) (rw is at stands)))

  -- The same where the value may go as `Fit` says, also to that temporary.
  pub evaluates_both : (Fit : InUse → Option ℕ → Type 0) (Is : Value → Progress → Type 0) (ty : ℕ) (value : Progress → Outcome) (coder : Coder)
      → ((used : InUse) (d : ℕ) → IsTaken c used d → Fit used (Some d))
      → ((d : ℕ) (used : InUse) (label place : ℕ) (made : StoreTyping) (s : Progress) (ts : List Object) → IsReady c made s ts → Fit used (Some d) → MayGo c ty (Some d)
      → ((t : ℕ) → (coder (Some d) used label).most t ≤ c.pools t)
      → Stands (commands c) place (coder (Some d) used label).commands
      → Follow c (value s) (here c s ts place) s.marks
      (λ v u. Arrives c ty made (Some d) used ts (here c s ts place) s.marks (place + length (coder (Some d) used label).commands) v u × Is v u))
      → Grows coder
      → ((used : InUse) (label : ℕ) → coder None used label ≡ coder (Some (next_of c.start ty used)) (and_one ty used) label)
      → Evaluates c Fit Is ty value coder
  evaluates_both Fit Is ty value coder fit writes grows same (Some d) used label place made s ts ready fits may room stands =
      writes d used label place made s ts ready fits may room stands
  evaluates_both Fit Is ty value coder fit writes grows same None used label place made s ts ready fits may room stands =
      let is = same used label in
      rw is
      (follows_is c.flat c.under c.n (value s) (here c s ts place) s.marks _ _
      (evaluates_hold Is ty value coder to_taken grows used label place made s ts ready (rw is at room) (rw is at stands))
      (λ v s' e both.
      (let x = both.0 in
      (record { later = x.later; adds = x.adds; temporaries = x.temporaries; onward = x.onward; ready = x.ready; value = x.value; kept = x.kept }, both.1))))
    where
      to_taken : Evaluates c (Taken c) Is ty value coder
      to_taken None used label place made s ts ready taken may room stands = absurd taken
      to_taken (Some d) used label place made s ts ready taken may room stands =
          writes d used label place made s ts ready (fit used d taken) may room stands
