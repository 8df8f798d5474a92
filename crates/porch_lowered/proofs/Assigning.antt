-- Assignments of scalars through pointers, to globals and to members, as the induction has them.
use Rattle.std.proofs.Common.{◌≡◌, ◌≤◌, ℕ, ◌+◌, List, ◌∷◌, ◌++◌, length, refl, sym, ap, subst, ◌∙◌, ◌⊎◌, inl, inr, arith, length-append, Bool, true, false, Option, Some, None}
use Rattle.std.specs.Prelude.{is_some, slice_get, slice_set, Result, Ok, Err}
use Rattle.porch_types.specs.declared.shapes.Ty.TheVariants.{Pointer}
use Rattle.porch_types.specs.LeafTypes.{IsScalar}
use Rattle.porch_values.specs.declared.acts.Act.{Act}
use Rattle.porch_objects.specs.Store.{Value, number, null, pointer, past, indeterminate, Object, Store, seen, with_leaves, with_leaf_at}
use Rattle.porch_objects.specs.Pointers.{if_there, if_place, store}
use Rattle.porch_objects.specs.Meaning.{Mark, Progress, with_store}
use Rattle.porch_flat.specs.declared.flat.Operand.{Operand}
use Rattle.porch_flat.specs.declared.whole.Command.TheVariants as command
use Rattle.porch_abstract.specs.Machine.{State}
use Rattle.porch_typed.specs.Mirror.{Expression, Place, Program}
use Rattle.porch_mean.specs.Outcome.{Outcome, Went, Calls, and_then, with_result}
use Rattle.porch_lowering.specs.Code.{InUse, Code, then_code, then_commands, Held as Kept, hold}
use Rattle.porch_lowering.specs.Values.{type_held, may_lack, pointer_in, atom_of}
use Rattle.porch_lowering.specs.Operators.{var_of, next_of}
use Rattle.porch_lowering.specs.Expression.{moved_to, if_in_place, assign_place, code, place_code}
use Rattle.porch_sound.specs.Typing.{StoreTyping}
use Rattle.porch_lowered.proofs.Follows.{follows_is}
use Rattle.porch_lowered.proofs.States.{Stands, front_stands, back_stands}
use Rattle.porch_lowered.proofs.Growing.{code_grows, place_code_grows}
use Rattle.porch_lowered.proofs.Alive.{seen_changed}
use Rattle.porch_lowered.proofs.Codes.{Context, at_most_left, at_most_right, commands, here, IsOf, Follow, IsReady, MayGo, Arrives, arrives_from, Taken, Evaluates, IsPresent}
use Rattle.porch_lowered.proofs.Holding.{IsSetting}
use Rattle.porch_lowered.proofs.Operands.{IsOperand, IsSteady, steady_is, steady_stays}
use Rattle.porch_lowered.proofs.Held.{InPlace, IsStrict, IsStrictAt, strict_at, IfHeld, Nothing, carries_nothing, hold_then, from_held_is}
use Rattle.porch_lowered.proofs.Strict.{same_behind}
use Rattle.porch_lowered.proofs.Present.{went_present}
use Rattle.porch_lowered.proofs.OneOperand.{IsVariable, variable_held}
use Rattle.porch_lowered.proofs.Rows.{carries_left}
use Rattle.porch_lowered.proofs.Stores.{store_follows}
use Rattle.porch_lowered.proofs.Located.{IsPointerFor, IsLocated, place_means}
use Rattle.porch_lowered.proofs.Cases.{in_place_if}
use Rattle.porch_lowered.proofs.Assigned.{value_seen, stores, stores_strictly, moved_follows}
use Rattle.porch_lowered.proofs.Lowered.{IsThereUnless, Goes, means, IsLowered, to_temporary}

-- what a store does
abbrev stores_by : Store → (x y : Value) → Result Store Act
stores_by s x y = if_there x (λ p. if_there y (λ w. if_place p (λ home leaf. Ok (with_leaf_at s home leaf w))))

never : (y : Value) (a : Act) (to : Store) → if_there y (λ w. let r : Result Store Act = Err a in r) ≡ Ok to → ⊥
never (number z) a to e = cc
never null a to e = cc
never (pointer home leaf) a to e = cc
never (past home leaf until) a to e = cc
never indeterminate a to e = cc

-- a value that was stored is there, and still is
made_by : (s : Store) (x y : Value) (to : Store) → stores_by s x y ≡ Ok to → (y ≡ indeterminate → ⊥) × ((w : Value) → seen to w ≡ seen s w)
made_by s (number z) y to e = absurd (never y _ to e)
made_by s null y to e = absurd (never y _ to e)
made_by s (past home leaf until) y to e = absurd (never y _ to e)
made_by s indeterminate y to e = cc
made_by s (pointer home leaf) y to e = by y e
  where
    changed : (y : Value) → with_leaf_at s home leaf y ≡ to → (w : Value) → seen to w ≡ seen s w
    changed y same w = subst (λ to. seen to w ≡ seen s w) same (seen_changed (λ o. with_leaves o (slice_set o.leaves leaf y)) s home w)

    by : (y : Value) → stores_by s (pointer home leaf) y ≡ Ok to → (y ≡ indeterminate → ⊥) × ((w : Value) → seen to w ≡ seen s w)
    by (number z) e = (λ e. cc, changed (number z) cc)
    by null e = (λ e. cc, changed null cc)
    by (pointer other leaf') e = (λ e. cc, changed (pointer other leaf') cc)
    by (past other leaf' until) e = (λ e. cc, changed (past other leaf' until) cc)
    by indeterminate e = cc

stored_present : (s : Progress) (at v : Value) (to : Store) → store s.store at v ≡ Ok to → IsPresent v (with_store s to)
stored_present s at v to e =
    let made = made_by s.store (seen s.store at) (seen s.store v) to e in
    let same : seen s.store v ≡ v = value_seen s.store (seen s.store v) v refl made.0 in
    (made.1 v ∙ same, λ k. made.0 (same ∙ k))

module _ (c : Context) (set : IsSetting c) where
  stores_present : (at v : Value) (s : Progress) (w : Value) (u : Progress) → stores c set at v s ≡ Went w u → IsPresent w u × (v ≡ w)
  stores_present at v s w u e = by (store s.store at v) refl e
    where
      by : (r : Result Store Act) → store s.store at v ≡ r → with_result r s (λ to u. Went v (with_store u to)) ≡ Went w u → IsPresent w u × (v ≡ w)
      by (Ok to) is e =
          let present = stored_present s at v to is in
          (went_present v (with_store s to) w u present.0 present.1 e, cc)
      by (Err a) is e = cc

  -- where it is stored is used
  at_by : (x at w : Value) (u : Progress) → seen u.store at ≡ x → and_then (with_result (if_there x (λ v. Ok v)) u (λ v u. Went v u)) (λ at u. stores c set at w u) ≡ stores c set at w u
  at_by (number z) at w u is = ap (λ at. stores c set at w u) (value_seen u.store (number z) at is (λ e. cc))
  at_by null at w u is = ap (λ at. stores c set at w u) (value_seen u.store null at is (λ e. cc))
  at_by (pointer home leaf) at w u is = ap (λ at. stores c set at w u) (value_seen u.store (pointer home leaf) at is (λ e. cc))
  at_by (past home leaf until) at w u is = ap (λ at. stores c set at w u) (value_seen u.store (past home leaf until) at is (λ e. cc))
  at_by indeterminate at w u is = sym (ap (λ x. with_result (stores_by u.store x (seen u.store w)) u (λ to u. Went w (with_store u to))) is)

  at_strictly : (w : Value) → IsStrict (λ at u. stores c set at w u)
  at_strictly w at u = at_by (seen u.store at) at w u refl

  -- the pointer may be used first, where the value stands in place
  place_strict : (ty : ℕ) (stays : Option Operand) (value : Progress → Outcome) → InPlace c ty stays value → (pointer_is : Option Operand)
      → (made : StoreTyping) (s : Progress) (ts : List Object) (used : InUse) → IsReady c made s ts
      → IsStrictAt c (if_in_place (is_some stays) pointer_is) (λ at s. and_then (value s) (λ v s. stores c set at v s)) s
  place_strict ty None value stands pointer_is made s ts used ready = tt
  place_strict ty (Some x) value stands None made s ts used ready = tt
  place_strict ty (Some x) value stands (Some o) made s ts used ready =
      let there = stands made s ts used ready in
      let w = there.0 in
      let behind : (at : Value) → and_then (value s) (λ v s. stores c set at v s) ≡ stores c set at w s =
      λ at. ap (λ out. and_then out (λ v s. stores c set at v s)) there.3 ∙ stores_strictly c set at w s in
      λ at.
      same_behind at (seen s.store at) s (λ at s. and_then (value s) (λ v s. stores c set at v s)) (λ at s. stores c set at w s) behind
      ∙ at_strictly w at s ∙ sym (behind at)

  variable_if : (b : Bool) (o : Option Operand) → IsVariable o → IsVariable (if_in_place b o)
  variable_if true o h = h
  variable_if false o h = tt

  -- what was stored goes where it is asked for
  pub moved_arrives : (ty : ℕ) (to : Option ℕ) (o : Operand) (v w : Value) (used : InUse) (m : ℕ) (made : StoreTyping) (ts : List Object) (near : State) (before : List Mark) (u : Progress)
      → (to ≡ None) ⊎ IsSteady c ty used ts o v → v ≡ w → IsPresent w u → MayGo c ty to → Stands (commands c) m (moved_to to o)
      → Arrives c ty made None used ts near before m w u → Arrives c ty made to used ts near before (m + length (moved_to to o)) w u
  moved_arrives ty None o v w used m made ts near before u sure same present may stands far = (let e : m + 0 ≡ m = omega arith in rw e far)
  moved_arrives ty (Some d) o v w used m made ts near before u (inl e) same present may stands far = cc
  moved_arrives ty (Some d) o v w used m made ts near before u (inr steady) same present may stands far =
      let now = subst (λ v. IsSteady c ty used far.temporaries o v) same (steady_stays c ty used used ts far.temporaries o v (λ i k. k) far.kept steady) in
      arrives_from c ty made far.later (Some d) used ts far.temporaries near (here c u far.temporaries m) before u.marks (m + 1) w u far.adds far.onward far.kept
      (moved_follows c set ty (Some d) o w used m far.later u far.temporaries far.ready (steady_is c ty used u far.temporaries o w now) far.value present may stands)

module _ (c : Context) (set : IsSetting c) (p : Program) (same : c.flat.types ≡ p.types) (enter : Calls) where
  module _ (ty pointer_ty : ℕ) (place : Place) (e : Expression) (shape : slice_get c.flat.types pointer_ty ≡ Some (Pointer ty)) (scalar : IsScalar (slice_get c.flat.types ty))
      (for : IsPointerFor c set p enter place ty pointer_ty) (located : IsLocated c set p enter place ty) (lowered : IsLowered c p enter e) (is : type_held p e ≡ ty)
      (in_place : InPlace c pointer_ty (pointer_in place) (λ s. place_means c set p enter place s)) (variable : IsVariable (pointer_in place)) where
    goes_there : Evaluates c (Taken c) IsPresent pointer_ty (λ s. place_means c set p enter place s) (place_code p c.start place None)
    goes_there None used label at made s ts ready taken may room stands = absurd taken
    goes_there (Some d) used label at made s ts ready taken may room stands = located.whole pointer_ty for (Some d) used label at made s ts ready (inl taken) may room stands

    value_goes : Evaluates c (Taken c) (IsThereUnless (may_lack e)) ty (λ s. means c p enter e s) (code p c.start e)
    value_goes = subst (λ t. Evaluates c (Taken c) (IsThereUnless (may_lack e)) t (λ s. means c p enter e s) (code p c.start e)) is (to_temporary c p enter e lowered)

    stands_there : InPlace c ty (atom_of (λ z. true) e) (λ s. means c p enter e s)
    stands_there = subst (λ t. InPlace c t (atom_of (λ z. true) e) (λ s. means c p enter e s)) is (lowered.in_place (λ z. true))

    -- with an operand that may stay where it stands, or none where the value is asked for
    module _ (to : Option ℕ) (stays : Option Operand) (sure : (to ≡ None) ⊎ (stays ≡ None)) (stands_so : InPlace c ty stays (λ s. means c p enter e s)) where
      abbrev at_held : InUse → (label : ℕ) → Kept
      at_held used label = hold (if_in_place (is_some stays) (pointer_in place)) (next_of c.start pointer_ty used) pointer_ty (place_code p c.start place None) used label

      abbrev value_held : InUse → (label : ℕ) → Kept
      value_held used label = hold stays (next_of c.start ty used) ty (code p c.start e) used label

      abbrev whole_code : InUse → (label : ℕ) → Code
      whole_code used label =
          let at = at_held used label in
          let x = value_held at.used at.code.label in
          then_commands (then_code at.code x.code) (command.Store (var_of at.operand) x.operand ∷ moved_to to x.operand)

      -- the value is there, and is stored
      stored_arrives : (used : InUse) (label m : ℕ) (made : StoreTyping) (s : Progress) (ts : List Object) (at v : Value) (at_used : InUse) (at_label : ℕ) → IsReady c made s ts
          → IsOperand c pointer_ty (value_held at_used at_label).used s ts (at_held used label).operand at → IsOf c made pointer_ty at
          → IsOperand c ty (value_held at_used at_label).used s ts (value_held at_used at_label).operand v → IsOf c made ty v
          → (to ≡ None) ⊎ IsSteady c ty (value_held at_used at_label).used ts (value_held at_used at_label).operand v → MayGo c ty to
          → Stands (commands c) m (command.Store (var_of (at_held used label).operand) (value_held at_used at_label).operand ∷ moved_to to (value_held at_used at_label).operand)
          → Follow c (stores c set at v s) (here c s ts m) s.marks
          (λ w u. Arrives c ty made to (value_held at_used at_label).used ts (here c s ts m) s.marks (m + 1 + length (moved_to to (value_held at_used at_label).operand)) w u × IsThereUnless false w u)
      stored_arrives used label m made s ts at v at_used at_label ready oa ta ov tv steady may stands =
          let x = value_held at_used at_label in
          let a = at_held used label in
          let found =
          variable_held c set (if_in_place (is_some stays) (pointer_in place)) (next_of c.start pointer_ty used) pointer_ty (place_code p c.start place None) used label
          (variable_if c set (is_some stays) (pointer_in place) variable) in
          let stands_store = stands.0 ∙ ap (λ o. Some (command.Store (var_of o) x.operand)) found.1 in
          follows_is c.flat c.under c.n (stores c set at v s) (here c s ts m) s.marks _ _
          (store_follows c set ty pointer_ty m found.0 x.operand made s ts x.used at v shape scalar ready (rw found.1 at oa) ta ov tv stands_store)
          (λ w u went far.
          (let known = stores_present c set at v s w u went in (
            moved_arrives c set ty to x.operand v w x.used (m + 1) made ts (here c s ts m) s.marks u steady known.1 known.0 may stands.1 far,
            λ there. known.0,
          )))

      sure_steady : (known : Type 0) (steady : Type 0) → IfHeld c stays (known × steady) → (to ≡ None) ⊎ steady
      sure_steady known steady h = by sure
        where
          by : (to ≡ None) ⊎ (stays ≡ None) → (to ≡ None) ⊎ steady
          by (inl none) = inl none
          by (inr none) = inr (subst (λ o. IfHeld c o (known × steady)) none h).1

      at_steady : (known : Type 0) (steady : Type 0) → IfHeld c (if_in_place (is_some stays) (pointer_in place)) (known × steady) → is_some stays ≡ false → steady
      at_steady known steady h none = (subst (λ b. IfHeld c (if_in_place b (pointer_in place)) (known × steady)) none h).1

      pub placed : (used : InUse) (label at_place : ℕ) (made : StoreTyping) (s : Progress) (ts : List Object) → IsReady c made s ts → MayGo c ty to
          → ((t : ℕ) → (whole_code used label).most t ≤ c.pools t) → Stands (commands c) at_place (whole_code used label).commands
          → Follow c (and_then (place_means c set p enter place s) (λ at s. and_then (means c p enter e s) (λ v s. stores c set at v s))) (here c s ts at_place) s.marks
          (λ w u. Arrives c ty made to used ts (here c s ts at_place) s.marks (at_place + length (whole_code used label).commands) w u × IsThereUnless false w u)
      placed used label at_place made s ts ready may room stands =
          let pointer_o = if_in_place (is_some stays) (pointer_in place) in
          let a = at_held used label in
          let x = value_held a.used a.code.label in
          let last = command.Store (var_of a.operand) x.operand ∷ moved_to to x.operand in
          let all = commands c in
          let m1 = at_place + length a.code.commands in
          let m2 = m1 + length x.code.commands in
          let codes = front_stands all at_place (a.code.commands ++ x.code.commands) last stands in
          let stands_a = front_stands all at_place a.code.commands x.code.commands codes in
          let stands_x = back_stands all at_place a.code.commands x.code.commands codes in
          let split : at_place + length (a.code.commands ++ x.code.commands) ≡ m2 = simp length-append (omega arith) in
          let stands_last = rw split at (back_stands all at_place (a.code.commands ++ x.code.commands) last stands) in
          let end : m2 + 1 + length (moved_to to x.operand) ≡ at_place + length ((a.code.commands ++ x.code.commands) ++ last) = simp length-append (omega arith) in
          hold_then c set pointer_ty pointer_o IsPresent (Nothing c) (λ s. place_means c set p enter place s) (place_code p c.start place None)
          (λ at s. and_then (means c p enter e s) (λ v s. stores c set at v s)) goes_there (place_code_grows p c.start place None)
          (in_place_if c pointer_ty (is_some stays) (pointer_in place) (λ s. place_means c set p enter place s) in_place) used label at_place made s ts _ ready
          (place_strict c set ty stays (λ s. means c p enter e s) stands_so (pointer_in place) made s ts used ready)
          (carries_nothing c pointer_o pointer_ty made used s ts)
          (λ t. at_most_left (a.code.most t) (x.code.most t) (c.pools t) (room t)) stands_a
          (λ at u h other known.
          rw (← end)
          (from_held_is c (IsThereUnless false) pointer_ty ty made used a.used ts (here c s ts at_place) s.marks m1 (m2 + 1 + length (moved_to to x.operand)) a.operand at u to
          (and_then (means c p enter e u) (λ v s. stores c set at v s)) h
          (hold_then c set ty stays (IsThereUnless (may_lack e)) (λ later used u ts. IsOperand c pointer_ty used u ts a.operand at × IsOf c later pointer_ty at) (λ s. means c p enter e s)
          (code p c.start e) (λ v s. stores c set at v s) value_goes (code_grows p c.start e) stands_so a.used a.code.label m1 h.later u h.temporaries _ h.ready
          (strict_at c stays (λ v s. stores c set at v s) u (stores_strictly c set at))
          (carries_left c set p same enter pointer_ty ty a.operand at stays h.later a.used u h.temporaries h.operand h.value
          (at_steady (IsPresent at u) (IsSteady c pointer_ty a.used h.temporaries a.operand at) known))
          (λ t. at_most_right (a.code.most t) (x.code.most t) (c.pools t) (room t)) stands_x
          (λ v z k left known'.
          from_held_is c (IsThereUnless false) ty ty h.later a.used x.used h.temporaries (here c u h.temporaries m1) u.marks m2 (m2 + 1 + length (moved_to to x.operand)) x.operand v z to
          (stores c set at v z) k
          (stored_arrives used label m2 k.later z k.temporaries at v a.used a.code.label k.ready left.0 left.1 k.operand k.value
          (sure_steady (IsThereUnless (may_lack e) v z) (IsSteady c ty x.used k.temporaries x.operand v) known') may stands_last)))))

    -- the code of an assignment through a place follows it
    pub assigned_there : Evaluates c (Goes c true) (IsThereUnless false) ty
        (λ s. and_then (place_means c set p enter place s) (λ at s. and_then (means c p enter e s) (λ v s. stores c set at v s)))
        (assign_place p c.start ty (pointer_in place) pointer_ty (place_code p c.start place None) (atom_of (λ z. true) e) (code p c.start e))
    assigned_there None used label at_place made s ts ready fits may room stands =
        placed None (atom_of (λ z. true) e) (inl refl) stands_there used label at_place made s ts ready may room stands
    assigned_there (Some d) used label at_place made s ts ready fits may room stands =
        placed (Some d) None (inr refl) tt used label at_place made s ts ready may room stands
