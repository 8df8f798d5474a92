-- A variable of the source is assigned to: the code of the value writes it, as its last command.
use Rattle.std.proofs.Common.{◌≡◌, ◌≤◌, ℕ, ◌+◌, List, ◌∷◌, length, refl, sym, ap, subst, ◌∙◌, arith, Option, Some, None}
use Rattle.std.specs.Prelude.{slice_get, slice_set, is_some, if◌then◌else◌, Result, Ok}
use Rattle.porch_types.specs.declared.shapes.Ty.TheVariants.{Pointer}
use Rattle.porch_types.specs.LeafTypes.{IsScalar}
use Rattle.porch_values.specs.declared.acts.Act.{Act}
use Rattle.porch_objects.specs.Store.{of_call, Value, number, null, pointer, past, indeterminate, Object, Store, object_at, seen, with_leaves, with_leaf_at}
use Rattle.porch_objects.specs.Pointers.{if_there, if_place, store}
use Rattle.porch_objects.specs.Meaning.{Progress, with_store}
use Rattle.porch_abstract.specs.Machine.{State, running, put}
use Rattle.porch_mean.specs.Outcome.{Outcome, Went, and_then, with_result}
use Rattle.porch_lowering.specs.Code.{InUse, Coder}
use Rattle.porch_sound.specs.Typing.{StoreTyping, IsTypedStore}
use Rattle.porch_sound.specs.Laws.{Gives}
use Rattle.porch_lowered.specs.Beside.{beside}
use Rattle.porch_lowered.proofs.ChangeAlike.{changed_alike}
use Rattle.porch_lowered.proofs.Typed.{counts}
use Rattle.porch_lowered.proofs.Follows.{follows_then_is}
use Rattle.porch_lowered.proofs.Temporaries.{innermost_is}
use Rattle.porch_lowered.proofs.States.{Stands}
use Rattle.porch_lowered.proofs.Codes.{Context, first, commands, frame, here, IsOf, Follow, IsReady, grounded, Arrives, Writes}
use Rattle.porch_lowered.proofs.Holding.{IsSetting, kept_types}
use Rattle.porch_lowered.proofs.Operands.{get_within, is_declared}
use Rattle.porch_lowered.proofs.Places.{local_lives}
use Rattle.porch_lowered.proofs.Stores.{inside_changed}

-- a value that is there is stored where something is alive
abbrev stores_by : Store → Option Object → (call v : ℕ) → Value → Result Store Act
stores_by s found call v w =
    if_there (if is_some found then pointer (of_call call v) 0 else indeterminate)
    (λ p. if_there w (λ w. if_place p (λ home leaf. Ok (with_leaf_at s home leaf w))))

there_stores : (s : Store) (o : Object) (call v : ℕ) (w : Value) → (w ≡ indeterminate → ⊥) → stores_by s (Some o) call v w ≡ Ok (with_leaf_at s (of_call call v) 0 w)
there_stores s o call v (number z) there = refl
there_stores s o call v null there = refl
there_stores s o call v (pointer home leaf) there = refl
there_stores s o call v (past home leaf until) there = refl
there_stores s o call v indeterminate there = absurd (there refl)

pub store_is : (s : Store) (o : Object) (call v : ℕ) (w : Value) → object_at s (of_call call v) ≡ Some o → seen s w ≡ w → (w ≡ indeterminate → ⊥)
    → store s (pointer (of_call call v) 0) w ≡ Ok (with_leaf_at s (of_call call v) 0 w)
store_is s o call v w lives e there =
    ap (λ x. stores_by s (object_at s (of_call call v)) call v x) e
    ∙ ap (λ found. stores_by s found call v w) lives
    ∙ there_stores s o call v w there

module _ (c : Context) (set : IsSetting c) where
  pub put_is : (made : StoreTyping) (u : Progress) (ts : List Object) (place v ty : ℕ) (w : Value) → IsReady c made u ts → slice_get c.variables v ≡ Some ty
      → put v w (here c u ts place) ≡ here c (with_store u (with_leaf_at u.store (of_call c.call v) 0 w)) ts place
  put_is made u ts place v ty w ready e =
      ap
      (λ store.
      let x : State = record { phase = running (frame c place) c.callers; store = store; output = u.output; turns = u.turns; taken = u.taken } in x)
      (ap (λ k. with_leaf_at (beside u.store (ts ∷ c.more)) (of_call k v) 0 w) (innermost_is c.call u.store ready.inside (ts ∷ c.more))
      ∙ changed_alike (counts made) u.store (ts ∷ c.more) (grounded c made u ts ready) (λ o. with_leaves o (slice_set o.leaves 0 w)) (of_call c.call v)
      (is_declared c set made u ts v ty ready e))

  -- The value has to be there when it comes. `pointer_ty` is the type of pointers to the variable's type.
  pub assign_follows : (ty pointer_ty v : ℕ) (value : Progress → Outcome) (coder : Coder) → slice_get c.variables v ≡ Some ty
      → slice_get c.flat.types pointer_ty ≡ Some (Pointer ty) → IsScalar (slice_get c.flat.types ty)
      → ((made : StoreTyping) (s : Progress) (ts : List Object) → IsReady c made s ts → IsOf c made pointer_ty (pointer (of_call c.call v) 0))
      → ((s u : Progress) (w : Value) → value s ≡ Went w u → (seen u.store w ≡ w) × (w ≡ indeterminate → ⊥))
      → Writes c ty value coder
      → (used : InUse) (label place : ℕ) (made : StoreTyping) (s : Progress) (ts : List Object) → IsReady c made s ts
      → ((t : ℕ) → (coder (Some v) used label).most t ≤ c.pools t)
      → Stands (commands c) place (coder (Some v) used label).commands
      → Follow c (and_then (value s) (λ w u. with_result (store u.store (pointer (of_call c.call v) 0) w) u (λ to u. Went w (with_store u to)))) (here c s ts place) s.marks
      (Arrives c ty made None used ts (here c s ts place) s.marks (place + length (coder (Some v) used label).commands))
  assign_follows ty pointer_ty v value coder declared shape scalar names fresh writes used label place made s ts ready room stands =
      let end = place + length (coder (Some v) used label).commands in
      follows_then_is c.flat c.under c.n (value s) _ (here c s ts place) s.marks _ _
      (writes v used label place made s ts ready (λ place. set.declared v ty place declared) room stands)
      (λ w u is x.
      (let f = fresh s u w is in
      let lives = local_lives c set v ty declared x.later u x.temporaries x.ready in
      let stored = store_is u.store lives.0 c.call v w lives.1 f.0 f.1 in
      let to = with_leaf_at u.store (of_call c.call v) 0 w in
      let less = get_within c.variables v ty declared in
      let typed : IsTypedStore c.flat.types c.under.widths x.later to =
      subst (λ r. Gives (IsTypedStore c.flat.types c.under.widths x.later) r) stored
      ((kept_types c set x.later u x.temporaries x.ready).stored pointer_ty ty (pointer (of_call c.call v) 0) w shape scalar (names x.later u x.temporaries x.ready) x.value) in
      subst (λ r. Follow c (with_result r u (λ to u. Went w (with_store u to))) (here c s ts place) s.marks (Arrives c ty made None used ts (here c s ts place) s.marks end)) (sym stored)
      (record {
        later = x.later;
        adds = x.adds;
        temporaries = x.temporaries;
        onward = rw (put_is x.later u x.temporaries end v ty w x.ready declared) at x.onward;
        ready =
            record {
              typed = typed;
              inside = inside_changed (λ o. with_leaves o (slice_set o.leaves 0 w)) c.call u.store (of_call c.call v) x.ready.inside;
              declares = x.ready.declares;
              globals = x.ready.globals;
              temporaries = x.ready.temporaries;
            };
        value = x.value;
        kept = λ i used_i ne. x.kept i used_i (λ e. (let k = some_same v (first c + i) e in absurd (omega (arith, k, less))));
      })))
    where
      some_same : (a b : ℕ) → Some a ≡ Some b → a ≡ b
      some_same a b e = cc
