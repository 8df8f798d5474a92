-- Assignments of scalars to variables of the source, as the induction has them.
use Rattle.std.proofs.Common.{◌≡◌, ◌≤◌, ℕ, ◌+◌, ◌*◌, List, [], ◌∷◌, ◌++◌, append_assoc, length, refl, sym, ap, subst, ◌∙◌, inl, inr, arith, length-append, Bool, true, false, Option, Some, None}
use Rattle.std.specs.Prelude.{⊤, slice_get, slice_set, slice_index_or, Result, Ok, Err}
use Rattle.porch_types.specs.declared.shapes.Ty.{Ty}
use Rattle.porch_types.specs.declared.shapes.Ty.TheVariants.{Whole, Pointer, Array, Struct}
use Rattle.porch_types.specs.Leaves.{leaves_of}
use Rattle.porch_types.specs.LeafTypes.{IsScalar}
use Rattle.porch_values.specs.declared.acts.Act.{Act}
use Rattle.porch_values.specs.declared.acts.Act.TheVariants.{Indeterminate}
use Rattle.porch_objects.specs.Store.{of_call, Value, number, null, pointer, past, indeterminate, Root, Object, Store, seen, one_of, leaf_of, leaf_at, with_leaves, with_leaf_at}
use Rattle.porch_objects.specs.Pointers.{if_there, if_place, store}
use Rattle.porch_objects.specs.Meaning.{Progress, with_store}
use Rattle.porch_flat.specs.declared.flat.Operand.{Operand}
use Rattle.porch_flat.specs.declared.flat.Operand.TheVariants.{Var}
use Rattle.porch_flat.specs.declared.whole.Command.TheVariants as command
use Rattle.porch_abstract.specs.Machine.{Next, determined, put}
use Rattle.porch_abstract.specs.whole.Machine.{operand_of}
use Rattle.porch_typed.specs.Mirror.{Expression, Program, assign, variable}
use Rattle.porch_mean.specs.Outcome.{Outcome, Went, Left, Undefined, Stopped, Calls, and_then, with_result}
use Rattle.porch_mean.specs.Expression.{store_value}
use Rattle.porch_lowering.specs.Code.{InUse, and_one, then_commands, Coder}
use Rattle.porch_lowering.specs.Values.{pointer_to, type_held, held_type, held_as, may_lack, pointer_in, atom_of}
use Rattle.porch_lowering.specs.Operators.{next_of}
use Rattle.porch_lowering.specs.Expression.{moved_to, writes_last, assign_variable, assign_place, copy_struct, assign_by_shape, place_type, code, place_code}
use Rattle.porch_sound.specs.Typing.{StoreTyping, IsTypedStore, one_root}
use Rattle.porch_sound.specs.Laws.{Gives}
use Rattle.porch_lowered.proofs.Typed.{adds_nothing}
use Rattle.porch_lowered.proofs.Runs.{stays}
use Rattle.porch_lowered.proofs.Follows.{follows_is, follows_then}
use Rattle.porch_lowered.proofs.SameLeaf.{seen_or_not, seen_twice}
use Rattle.porch_lowered.proofs.States.{Stands, front_stands, back_stands, command_goes}
use Rattle.porch_lowered.proofs.Growing.{Grows, code_grows}
use Rattle.porch_lowered.proofs.Alive.{seen_changed, variable_changed}
use Rattle.porch_lowered.proofs.Codes.{Context, first, commands, here, goes_on, IsOf, Follow, IsReady, MayGo, Arrives, arrives_from, Taken, Evaluates, IsPresent}
use Rattle.porch_lowered.proofs.Holding.{IsSetting, kept_types}
use Rattle.porch_lowered.proofs.Operands.{get_within, IsOperand, operand_is}
use Rattle.porch_lowered.proofs.Held.{IsStrict, use_now}
use Rattle.porch_lowered.proofs.Forms.{strict_by}
use Rattle.porch_lowered.proofs.Strict.{and_then_then}
use Rattle.porch_lowered.proofs.OneOperand.{Makes, one_writes}
use Rattle.porch_lowered.proofs.Present.{used_present}
use Rattle.porch_lowered.proofs.Places.{local_lives}
use Rattle.porch_lowered.proofs.Stores.{inside_changed}
use Rattle.porch_lowered.proofs.Assignments.{store_is, put_is}
use Rattle.porch_lowered.proofs.Variables.{moved_there, there_of}
use Rattle.porch_lowered.proofs.Located.{whole_subobject}
use Rattle.porch_lowered.proofs.MoreCases.{weaker}
use Rattle.porch_lowered.proofs.Lowered.{IsThereUnless, Goes, writes_there, means, IsLowered, to_temporary}

present_goes : (v : Value) (go : Value → Next) → (v ≡ indeterminate → ⊥) → determined v go ≡ go v
present_goes (number z) go h = refl
present_goes null go h = refl
present_goes (pointer home leaf) go h = refl
present_goes (past home leaf until) go h = refl
present_goes indeterminate go h = absurd (h refl)

-- a value that is seen and there is itself
pub value_seen : (s : Store) (x w : Value) → seen s w ≡ x → (x ≡ indeterminate → ⊥) → x ≡ w
value_seen s x w is there =
    elim (seen_or_not s w) [
      | inl e ↦ sym is ∙ e
      | inr e ↦ absurd (there (sym is ∙ e))
    ]

first_written : (values : List Value) (w : Value) → length values ≡ 1 → slice_index_or (slice_set values 0 w) 0 indeterminate ≡ w
first_written [] w e = absurd (omega (arith, e))
first_written (x ∷ xs) w e = refl

module _ (c : Context) (set : IsSetting c) where
  -- a value that stands in an operand goes to where it is asked for
  pub moved_follows : (ty : ℕ) (to : Option ℕ) (o : Operand) (v : Value) (used : InUse) (place : ℕ) (made : StoreTyping) (s : Progress) (ts : List Object) → IsReady c made s ts
      → IsOperand c ty used s ts o v → IsOf c made ty v → IsPresent v s → MayGo c ty to → Stands (commands c) place (moved_to to o)
      → Arrives c ty made to used ts (here c s ts place) s.marks (place + length (moved_to to o)) v s
  moved_follows ty None o v used place made s ts ready operand of present may stands =
      let e : place + 0 ≡ place = omega arith in
      record {
        later = made;
        adds = adds_nothing made;
        temporaries = ts;
        onward = rw e (stays c.flat c.under c.n (here c s ts place) s.marks);
        ready = ready;
        value = of;
        kept = λ i u ne. refl;
      }
  moved_follows ty (Some d) o v used place made s ts ready operand of present may stands =
      record {
        later = made;
        adds = adds_nothing made;
        temporaries = ts;
        onward =
            command_goes c.flat c.under c.n c.function c.into c.callers c.more (command.Move d o) place (here c s ts place) stands.0
            (record { calm = refl; silent = λ s frame. refl }) (put d v (here c s ts (place + 1))) s.marks
            (ap (λ ty. determined (operand_of c.flat ty o (here c s ts place)) (goes_on c d place s ts)) (may place)
            ∙ ap (λ w. determined w (goes_on c d place s ts)) (operand_is c set made s ts place ty used o v ready operand of ∙ present.0)
            ∙ present_goes v (goes_on c d place s ts) present.1);
        ready = ready;
        value = of;
        kept = λ i u ne. refl;
      }

  -- a variable of the source that was written holds what was written
  variable_written : (made : StoreTyping) (s : Progress) (ts : List Object) (v ty : ℕ) (w : Value) → IsReady c made s ts → slice_get c.variables v ≡ Some ty
      → IsScalar (slice_get c.flat.types ty) → leaf_at (with_leaf_at s.store (of_call c.call v) 0 w) (of_call c.call v) 0 ≡ w
  variable_written made s ts v ty w ready declared scalar =
      let lives = local_lives c set v ty declared made s ts ready in
      let o = lives.0 in
      let alive = (kept_types c set made s ts ready).objects (of_call c.call v) o lives.1 in
      let root_is : Some (one_of ty) ≡ Some o.root =
      sym (ap (λ found. one_root found) declared) ∙ ap (λ tys. one_root (slice_get tys v)) (sym ready.declares) ∙ alive.root in
      let root : one_of ty ≡ o.root = cc in
      let size : length o.leaves ≡ 1 =
      alive.typed.size ∙ ap (λ (r : Root). r.count * leaves_of c.flat.types r.ty) (sym root) ∙ ap (λ n. 1 * n) (set.scalar_size ty scalar) in
      ap (λ found. leaf_of found 0) (variable_changed (λ o. with_leaves o (slice_set o.leaves 0 w)) s.store c.call v o lives.1)
      ∙ first_written o.leaves w size

  -- The value was put into a variable of the source, which is what the source does then.
  pub assigned_follows : (Fit : InUse → Option ℕ → Type 0) (ty pointer_ty v : ℕ) (value : Progress → Outcome) (coder : Coder) → slice_get c.variables v ≡ Some ty
      → slice_get c.flat.types pointer_ty ≡ Some (Pointer ty) → IsScalar (slice_get c.flat.types ty)
      → ((made : StoreTyping) (s : Progress) (ts : List Object) → IsReady c made s ts → IsOf c made pointer_ty (pointer (of_call c.call v) 0))
      → Evaluates c Fit IsPresent ty value coder
      → (used : InUse) (label place : ℕ) (made : StoreTyping) (s : Progress) (ts : List Object) → Fit used (Some v) → IsReady c made s ts
      → ((t : ℕ) → (coder (Some v) used label).most t ≤ c.pools t)
      → Stands (commands c) place (coder (Some v) used label).commands
      → Follow c (and_then (value s) (λ w u. with_result (store u.store (pointer (of_call c.call v) 0) w) u (λ to u. Went w (with_store u to)))) (here c s ts place) s.marks
      (λ w u.
      Arrives c ty made None used ts (here c s ts place) s.marks (place + length (coder (Some v) used label).commands) w u
      × IsPresent w u × (leaf_at u.store (of_call c.call v) 0 ≡ w))
  assigned_follows Fit ty pointer_ty v value coder declared shape scalar names evaluates used label place made s ts fits ready room stands =
      let end = place + length (coder (Some v) used label).commands in
      follows_then c.flat c.under c.n (value s) _ (here c s ts place) s.marks _ _
      (evaluates (Some v) used label place made s ts ready fits (λ place. set.declared v ty place declared) room stands)
      (λ w u both.
      (let x = both.0 in
      let f = both.1 in
      let lives = local_lives c set v ty declared x.later u x.temporaries x.ready in
      let stored = store_is u.store lives.0 c.call v w lives.1 f.0 f.1 in
      let to = with_leaf_at u.store (of_call c.call v) 0 w in
      let less = get_within c.variables v ty declared in
      let typed : IsTypedStore c.flat.types c.under.widths x.later to =
      subst (λ r. Gives (IsTypedStore c.flat.types c.under.widths x.later) r) stored
      ((kept_types c set x.later u x.temporaries x.ready).stored pointer_ty ty (pointer (of_call c.call v) 0) w shape scalar (names x.later u x.temporaries x.ready) x.value) in
      subst
      (λ r. Follow c (with_result r u (λ to u. Went w (with_store u to))) (here c s ts place) s.marks
      (λ w u. Arrives c ty made None used ts (here c s ts place) s.marks end w u × IsPresent w u × (leaf_at u.store (of_call c.call v) 0 ≡ w)))
      (sym stored) (
        record {
          later = x.later;
          adds = x.adds;
          temporaries = x.temporaries;
          onward = rw (put_is c set x.later u x.temporaries end v ty w x.ready declared) at x.onward;
          ready =
              record {
                typed = typed;
                inside = inside_changed (λ o. with_leaves o (slice_set o.leaves 0 w)) c.call u.store (of_call c.call v) x.ready.inside;
                declares = x.ready.declares;
                globals = x.ready.globals;
                temporaries = x.ready.temporaries;
              };
          value = x.value;
          kept = λ i used_i ne. x.kept i used_i (λ e. (let k = some_same v (first c + i) e in absurd (omega (arith, k, less))));
        },
        (seen_changed (λ o. with_leaves o (slice_set o.leaves 0 w)) u.store (of_call c.call v) w ∙ f.0, f.1),
        variable_written x.later u x.temporaries v ty w x.ready declared scalar,
      )))
    where
      some_same : (a b : ℕ) → Some a ≡ Some b → a ≡ b
      some_same a b e = cc

  -- a value in a temporary is moved to a variable of the source, and used
  moves : (ty : ℕ) → Makes c set ty ty (λ s v. if_there (seen s v) (λ v. Ok v)) (λ d t. command.Move d (Var t))
  moves ty =
      record {
        quiet = λ d t. record { calm = refl; silent = λ s frame. refl };
        does_is = λ place d t made s ts v ready from may of e.
            ap (λ x. determined x (goes_on c d place s ts)) e ∙ moved_there (seen s.store v) (goes_on c d place s ts);
        gives = λ made s ts v ready of. there_of (IsOf c made ty) (seen s.store v) ((kept_types c set made s ts ready).values ty v of);
      }

  -- the value by way of a temporary, where its code doesn't write its variable last
  abbrev pub by_temporary : (ty : ℕ) → Coder → Coder
  by_temporary ty coder None used label = coder None used label
  by_temporary ty coder (Some d) used label =
      then_commands (coder (Some (next_of c.start ty used)) (and_one ty used) label) (command.Move d (Var (next_of c.start ty used)) ∷ [])

  abbrev SomeGoal : InUse → Option ℕ → Type 0
  SomeGoal used None = ⊥
  SomeGoal used (Some d) = ⊤

  uses_strictly : IsStrict (λ v s. use_now v s)
  uses_strictly = strict_by (λ s v. Ok v) (λ v s. use_now v s) (λ v s. refl)

  temporary_used : (Is : Value → Progress → Type 0) (ty : ℕ) (value : Progress → Outcome) (coder : Coder) → Evaluates c (Taken c) Is ty value coder → Grows coder
      → Evaluates c SomeGoal IsPresent ty (λ s. and_then (value s) (λ v s. use_now v s)) (by_temporary ty coder)
  temporary_used Is ty value coder evaluates grows None used label place made s ts ready fits may room stands = absurd fits
  temporary_used Is ty value coder evaluates grows (Some d) used label place made s ts ready fits may room stands =
      follows_is c.flat c.under c.n (and_then (value s) (λ v s. use_now v s)) (here c s ts place) s.marks _ _
      (one_writes c set ty ty None Is value coder (λ s v. if_there (seen s v) (λ v. Ok v)) (λ d t. command.Move d (Var t)) (λ v s. use_now v s) (λ v s. refl) uses_strictly
      evaluates grows tt tt (moves ty) d used label place made s ts ready may room stands)
      (λ v u went far. (far, used_behind (value s) v u went))
    where
      used_behind : (o : Outcome) (v : Value) (u : Progress) → and_then o (λ v s. use_now v s) ≡ Went v u → IsPresent v u
      used_behind (Went x s) v u e = used_present (seen s.store x) s v u (seen_twice s.store x) e
      used_behind (Left how s) v u e = cc
      used_behind (Undefined a s) v u e = cc
      used_behind (Stopped s) v u e = cc

  -- where a value is missing nothing is stored
  store_missing : (s : Store) (x w : Value) → seen s w ≡ indeterminate
      → if_there x (λ p. if_there (seen s w) (λ w. if_place p (λ home leaf. let r : Result Store Act = Ok (with_leaf_at s home leaf w) in r))) ≡ Err Indeterminate
  store_missing s (number z) w e = rw e refl
  store_missing s null w e = rw e refl
  store_missing s (pointer home leaf) w e = rw e refl
  store_missing s (past home leaf until) w e = rw e refl
  store_missing s indeterminate w e = refl

  -- what is stored uses its value
  abbrev pub stores : Value → Value → Progress → Outcome
  stores at w u = with_result (store u.store at w) u (λ to u. Went w (with_store u to))

  stores_by : (at x w : Value) (u : Progress) → seen u.store w ≡ x → and_then (with_result (if_there x (λ v. Ok v)) u (λ v u. Went v u)) (λ w u. stores at w u) ≡ stores at w u
  stores_by at (number z) w u is = ap (λ w. stores at w u) (value_seen u.store (number z) w is (λ e. cc))
  stores_by at null w u is = ap (λ w. stores at w u) (value_seen u.store null w is (λ e. cc))
  stores_by at (pointer home leaf) w u is = ap (λ w. stores at w u) (value_seen u.store (pointer home leaf) w is (λ e. cc))
  stores_by at (past home leaf until) w u is = ap (λ w. stores at w u) (value_seen u.store (past home leaf until) w is (λ e. cc))
  stores_by at indeterminate w u is = sym (ap (λ r. with_result r u (λ to u. Went w (with_store u to))) (store_missing u.store (seen u.store at) w is))

  pub stores_strictly : (at : Value) → IsStrict (λ w u. stores at w u)
  stores_strictly at w u = stores_by at (seen u.store w) w u refl

module _ (c : Context) (set : IsSetting c) (p : Program) (same : c.flat.types ≡ p.types) (enter : Calls) where
  -- a variable of the call, and a pointer to it
  pub variable_points : (v ty pointer_ty : ℕ) → slice_get c.variables v ≡ Some ty → slice_get c.flat.types pointer_ty ≡ Some (Pointer ty)
      → (made : StoreTyping) (s : Progress) (ts : List Object) → IsReady c made s ts → IsOf c made pointer_ty (pointer (of_call c.call v) 0)
  variable_points v ty pointer_ty declared shape made s ts ready =
      record {
        to = ty;
        shape = shape;
        root = one_of ty;
        here = ap (λ tys. one_root (slice_get tys v)) ready.declares ∙ ap (λ o. one_root o) declared;
        subobject = whole_subobject c.flat.types ty;
      }

  module _ (ty pointer_ty v : ℕ) (e : Expression) (declared : slice_get c.variables v ≡ Some ty) (shape : slice_get c.flat.types pointer_ty ≡ Some (Pointer ty))
      (scalar : IsScalar (slice_get c.flat.types ty)) (lowered : IsLowered c p enter e) (is : type_held p e ≡ ty) where
    abbrev home : Value
    home = pointer (of_call c.call v) 0

    -- what was assigned, and then the variable is read
    then_moved : (to : Option ℕ) (used : InUse) (place m : ℕ) (made : StoreTyping) (s : Progress) (ts : List Object) (w : Value) (u : Progress) → MayGo c ty to
        → Stands (commands c) m (moved_to to (Var v))
        → Arrives c ty made None used ts (here c s ts place) s.marks m w u × IsPresent w u × (leaf_at u.store (of_call c.call v) 0 ≡ w)
        → Arrives c ty made to used ts (here c s ts place) s.marks (m + length (moved_to to (Var v))) w u
    then_moved to used place m made s ts w u may stands x =
        let a = x.0 in
        arrives_from c ty made a.later to used ts a.temporaries (here c s ts place) (here c u a.temporaries m) s.marks u.marks (m + length (moved_to to (Var v))) w u a.adds a.onward a.kept
        (moved_follows c set ty to (Var v) w used m a.later u a.temporaries a.ready (inr (record { declared = declared; stands = x.2 })) a.value x.1 may stands)

    writes_it : writes_last p e ≡ true
        → Evaluates c (Goes c true) (IsThereUnless false) ty (λ s. and_then (means c p enter e s) (λ w u. stores c set home w u)) (assign_variable p c.start ty v true (code p c.start e))
    writes_it writes to used label place made s ts ready fits may room stands =
        let x = code p c.start e (Some v) used label in
        let end : place + length x.commands + length (moved_to to (Var v)) ≡ place + length (x.commands ++ moved_to to (Var v)) = simp length-append (omega arith) in
        follows_is c.flat c.under c.n (and_then (means c p enter e s) (λ w u. stores c set home w u)) (here c s ts place) s.marks _ _
        (assigned_follows c set (Goes c true) ty pointer_ty v (λ s. means c p enter e s) (code p c.start e) declared shape scalar (variable_points v ty pointer_ty declared shape)
        (subst (λ t. Evaluates c (Goes c true) IsPresent t (λ s. means c p enter e s) (code p c.start e)) is
        (weaker c (Goes c (writes_last p e)) (Goes c true) (IsThereUnless (may_lack e)) IsPresent (type_held p e) (λ s. means c p enter e s) (code p c.start e)
        (λ used to fits. subst (λ b. Goes c b used to) (sym writes) fits) (λ v s known. known (writes_there p e writes)) lowered.evaluates))
        used label place made s ts (inr refl) ready room (front_stands (commands c) place x.commands (moved_to to (Var v)) stands))
        (λ w u went far. (
          rw (← end) (then_moved to used place (place + length x.commands) made s ts w u may (back_stands (commands c) place x.commands (moved_to to (Var v)) stands) far),
          λ there. far.1,
        ))

    by_way : Evaluates c (Goes c true) (IsThereUnless false) ty (λ s. and_then (means c p enter e s) (λ w u. stores c set home w u)) (assign_variable p c.start ty v false (code p c.start e))
    by_way to used label place made s ts ready fits may room stands =
        let t = next_of c.start ty used in
        let x = code p c.start e (Some t) (and_one ty used) label in
        let self = command.Move v (Var t) ∷ [] in
        let split : (x.commands ++ self) ++ moved_to to (Var v) ≡ x.commands ++ command.Move v (Var t) ∷ moved_to to (Var v) = append_assoc x.commands self (moved_to to (Var v)) in
        let apart = subst (λ code. Stands (commands c) place code) (sym split) stands in
        let end : place + length (x.commands ++ self) + length (moved_to to (Var v)) ≡ place + length (x.commands ++ command.Move v (Var t) ∷ moved_to to (Var v)) =
        simp length-append (omega arith) in
        subst
        (λ out. Follow c out (here c s ts place) s.marks
        (λ w u.
        Arrives c ty made to used ts (here c s ts place) s.marks (place + length (x.commands ++ command.Move v (Var t) ∷ moved_to to (Var v))) w u × IsThereUnless false w u))
        (and_then_then (means c p enter e s) (λ v s. use_now v s) (λ w u. stores c set home w u)
        ∙ ap (λ go. and_then (means c p enter e s) go) (λ i w u. stores_strictly c set home w u i))
        (follows_is c.flat c.under c.n (and_then (and_then (means c p enter e s) (λ v s. use_now v s)) (λ w u. stores c set home w u)) (here c s ts place) s.marks _ _
        (assigned_follows c set (SomeGoal c set) ty pointer_ty v (λ s. and_then (means c p enter e s) (λ v s. use_now v s)) (by_temporary c set ty (code p c.start e)) declared shape scalar
        (variable_points v ty pointer_ty declared shape)
        (temporary_used c set (IsThereUnless (may_lack e)) ty (λ s. means c p enter e s) (code p c.start e)
        (subst (λ t. Evaluates c (Taken c) (IsThereUnless (may_lack e)) t (λ s. means c p enter e s) (code p c.start e)) is (to_temporary c p enter e lowered)) (code_grows p c.start e))
        used label place made s ts tt ready room (front_stands (commands c) place (x.commands ++ self) (moved_to to (Var v)) apart))
        (λ w u went far. (
          rw (← end)
              (then_moved to used place (place + length (x.commands ++ self)) made s ts w u may (back_stands (commands c) place (x.commands ++ self) (moved_to to (Var v)) apart) far),
          λ there. far.1,
        )))

    -- by whether the value's code writes its variable last
    pub assign_follows_variable : Evaluates c (Goes c true) (IsThereUnless false) ty (λ s. and_then (means c p enter e s) (λ w u. stores c set home w u))
        (assign_variable p c.start ty v (writes_last p e) (code p c.start e))
    assign_follows_variable = by (writes_last p e) refl
      where
        by : (writes : Bool) → writes_last p e ≡ writes
            → Evaluates c (Goes c true) (IsThereUnless false) ty (λ s. and_then (means c p enter e s) (λ w u. stores c set home w u)) (assign_variable p c.start ty v writes (code p c.start e))
        by true w = writes_it w
        by false w = by_way

    -- what is assigned to, by its type
    abbrev Statement : Option Ty → Type 0
    Statement shape =
        Evaluates c (Goes c true) (IsThereUnless false) ty
        (λ s. and_then (means c p enter e s) (λ w u. store_value p.types shape ty home w u))
        (assign_by_shape p c.start shape (Some v) (copy_struct p c.start (pointer_to p ty) (place_code p c.start (variable v) None) (code p c.start e))
        (assign_variable p c.start ty v (writes_last p e) (code p c.start e))
        (assign_place p c.start ty (pointer_in (variable v)) (place_type p c.start (variable v) ty) (place_code p c.start (variable v) None) (atom_of (λ z. true) e) (code p c.start e)))

    -- an assignment to a variable of a scalar type
    pub assigned_lowered : IsLowered c p enter (assign ty (variable v) e)
    assigned_lowered =
        record {
          evaluates =
              subst (λ t. Evaluates c (Goes c true) (IsThereUnless false) t (λ s. means c p enter (assign ty (variable v) e) s) (code p c.start (assign ty (variable v) e)))
              (sym held) (by (slice_get p.types ty) refl (subst (λ types. IsScalar (slice_get types ty)) same scalar));
          in_place = λ accepts. tt;
        }
      where
        held : held_type p (Some ty) ≡ ty
        held = subst (λ types. held_as p (slice_get types ty) ty ≡ ty) same (of_shape (slice_get c.flat.types ty) scalar)
          where
            of_shape : (shape : Option Ty) → IsScalar shape → held_as p shape ty ≡ ty
            of_shape (Some (Whole kind)) h = refl
            of_shape (Some (Pointer to)) h = refl
            of_shape (Some (Array of count)) h = absurd h
            of_shape (Some (Struct members)) h = absurd h
            of_shape None h = absurd h

        by : (shape : Option Ty) → slice_get p.types ty ≡ shape → IsScalar shape
            → Evaluates c (Goes c true) (IsThereUnless false) ty (λ s. means c p enter (assign ty (variable v) e) s) (code p c.start (assign ty (variable v) e))
        by (Some (Whole kind)) same h = subst (λ shape. Statement shape) (sym same) assign_follows_variable
        by (Some (Pointer to)) same h = subst (λ shape. Statement shape) (sym same) assign_follows_variable
        by (Some (Array of count)) same h = absurd h
        by (Some (Struct members)) same h = absurd h
        by None same h = absurd h
