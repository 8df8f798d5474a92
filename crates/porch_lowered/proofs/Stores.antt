-- STORE: what stands at a place becomes a value.
use Rattle.std.proofs.Common.{◌≡◌, ℕ, ◌+◌, List, ◌∷◌, refl, ap, subst, ◌∙◌, inl, inr, Option, Some, None}
use Rattle.std.proofs.lemmas.Bool.Decides.{eqb_tells}
use Rattle.std.specs.Prelude.{slice_get, slice_set, Result, Ok, Err}
use Rattle.porch_types.specs.declared.shapes.Ty.TheVariants.{Pointer}
use Rattle.porch_types.specs.LeafTypes.{IsScalar}
use Rattle.porch_values.specs.declared.acts.Act.{Act}
use Rattle.porch_objects.specs.Store.{Home, of_global, of_call, of_block, Value, number, null, pointer, past, indeterminate, Object, Store, changed_at, changed_calls, changed, seen, with_leaves, with_leaf_at}
use Rattle.porch_objects.specs.Pointers.{if_there, if_place, store}
use Rattle.porch_objects.specs.Meaning.{Progress, with_store}
use Rattle.porch_flat.specs.declared.flat.Operand.{Operand}
use Rattle.porch_flat.specs.declared.flat.Operand.TheVariants.{Var}
use Rattle.porch_flat.specs.declared.whole.Command.TheVariants as command
use Rattle.porch_flat.specs.whole.Form.{form_of}
use Rattle.porch_flat.specs.whole.Places.{pointed, type_at}
use Rattle.porch_abstract.specs.Machine.{Next, Goes}
use Rattle.porch_abstract.specs.whole.Machine.{if_ok, does, stored, operand_of, var_type}
use Rattle.porch_mean.specs.Outcome.{Went, with_result}
use Rattle.porch_lowering.specs.Code.{InUse}
use Rattle.porch_sound.specs.Typing.{StoreTyping, IsTypedStore}
use Rattle.porch_sound.specs.Laws.{Gives}
use Rattle.porch_lowered.specs.Beside.{beside}
use Rattle.porch_lowered.specs.Laws.{store_beside}
use Rattle.porch_lowered.proofs.ReadAlike.{seen_grounded}
use Rattle.porch_lowered.proofs.ChangeAlike.{changes}
use Rattle.porch_lowered.proofs.Typed.{counts, adds_nothing}
use Rattle.porch_lowered.proofs.Follows.{follows_result}
use Rattle.porch_lowered.proofs.Temporaries.{IsInside}
use Rattle.porch_lowered.proofs.SameLeaf.{seen_twice}
use Rattle.porch_lowered.proofs.States.{command_goes, command_meets}
use Rattle.porch_lowered.proofs.Codes.{Context, commands, frame, here, IsOf, Follow, IsReady, grounded, value_is_grounded, Arrives}
use Rattle.porch_lowered.proofs.Holding.{IsSetting, kept_types}
use Rattle.porch_lowered.proofs.Operands.{IsOperand, variable_is, operand_is, operand_type}

-- the call that runs is so behind a change of an object
pub inside_changed : (change : Object → Object) (call : ℕ) (s : Store) (home : Home) → IsInside call s → IsInside call (changed change s home)
inside_changed change call s (of_global g) x = record { variables = x.variables; callers = x.callers; here = x.here }
inside_changed change call s (of_block b) x = record { variables = x.variables; callers = x.callers; here = x.here }
inside_changed change call s (of_call c v) x =
    elim (eqb_tells call c) [
      | inl w ↦ record {
        variables = changed_at change x.variables (slice_get x.variables v) v;
        callers = x.callers;
        here = ap (λ calls. changed_calls change calls c v) x.here ∙ rw w.0 refl;
      }
      | inr w ↦ record {
        variables = x.variables;
        callers = changed_calls change x.callers c v;
        here = ap (λ calls. changed_calls change calls c v) x.here ∙ rw w.0 refl;
      }
    ]

pub there_gives : (P : Store → Type 0) (v : Value) (r : Value → Result Store Act) → Gives P (r v) → Gives P (if_there v r)
there_gives P (number z) r g = g
there_gives P null r g = g
there_gives P (pointer home leaf) r g = g
there_gives P (past home leaf until) r g = g
there_gives P indeterminate r g = tt

pub place_gives : (P : Store → Type 0) (v : Value) (r : Home → ℕ → Result Store Act) → ((home : Home) (leaf : ℕ) → Gives P (r home leaf)) → Gives P (if_place v r)
place_gives P (number z) r g = tt
place_gives P null r g = tt
place_gives P (pointer home leaf) r g = g home leaf
place_gives P (past home leaf until) r g = tt
place_gives P indeterminate r g = tt

pub store_inside : (call : ℕ) (s : Store) (p v : Value) → IsInside call s → Gives (IsInside call) (store s p v)
store_inside call s p v x =
    there_gives (IsInside call) (seen s p) _ (there_gives (IsInside call) (seen s v) _ (place_gives (IsInside call) (seen s p) _ (λ home leaf.
    inside_changed (λ o. with_leaves o (slice_set o.leaves leaf (seen s v))) call s home x)))

-- of values as they are seen the same
store_seen : (s : Store) (p v : Value) → store s (seen s p) (seen s v) ≡ store s p v
store_seen s p v =
    ap (λ x. if_there x (λ p. if_there (seen s (seen s v)) (λ v. if_place p (λ home leaf. let r : Result Store Act = Ok (with_leaf_at s home leaf v) in r)))) (seen_twice s p)
    ∙ ap (λ y. if_there (seen s p) (λ p. if_there y (λ v. if_place p (λ home leaf. let r : Result Store Act = Ok (with_leaf_at s home leaf v) in r)))) (seen_twice s v)

module _ (c : Context) (set : IsSetting c) where
  -- where a store leads in the flat run
  abbrev pub led_by : Progress → List Object → ℕ → Result Store Act → Next
  led_by s ts place r = if_ok r (stored c.flat c.under (frame c place) c.callers (here c s ts place))

  pub beside_ok : (s : Progress) (ts : List Object) (place : ℕ) (r : Result Store Act)
      → led_by s ts place (store_beside (ts ∷ c.more) r) ≡ if_ok r (λ to. Goes (here c (with_store s to) ts (place + 1)))
  beside_ok s ts place (Ok to) = refl
  beside_ok s ts place (Err a) = refl

  abbrev pointee_at : ℕ → ℕ → Option ℕ
  pointee_at place t = pointed (type_at c.flat (var_type c.flat (frame c place) t))

  store_does : (ty pointer_ty place t : ℕ) (o : Operand) (made : StoreTyping) (s : Progress) (ts : List Object) (used : InUse) (at v : Value)
      → slice_get c.flat.types pointer_ty ≡ Some (Pointer ty) → IsReady c made s ts
      → IsOperand c pointer_ty used s ts (Var t) at → IsOf c made pointer_ty at → IsOperand c ty used s ts o v → IsOf c made ty v
      → does c.flat c.under (frame c place) c.callers (form_of (command.Store t o)) (here c s ts place)
      ≡ if_ok (store s.store at v) (λ to. Goes (here c (with_store s to) ts (place + 1)))
  store_does ty pointer_ty place t o made s ts used at v shape ready ot of ov vof =
      let g = value_is_grounded c made pointer_ty at of in
      let h = value_is_grounded c made ty v vof in
      let ground = grounded c made s ts ready in
      let pointee : pointee_at place t ≡ Some ty =
      ap (λ ty. pointed (type_at c.flat ty)) (operand_type c set pointer_ty used s ts t at ot place) ∙ ap (λ shape. pointed shape) shape in
      ap (λ p. led_by s ts place (store (beside s.store (ts ∷ c.more)) p (operand_of c.flat (pointee_at place t) o (here c s ts place))))
      (variable_is c set made s ts place pointer_ty t used at ready ot of)
      ∙ ap (λ ty. led_by s ts place (store (beside s.store (ts ∷ c.more)) (seen s.store at) (operand_of c.flat ty o (here c s ts place)))) pointee
      ∙ ap (λ w. led_by s ts place (store (beside s.store (ts ∷ c.more)) (seen s.store at) w)) (operand_is c set made s ts place ty used o v ready ov vof)
      ∙ ap (λ r. led_by s ts place r)
      ((changes c.flat.types (counts made) s.store (ts ∷ c.more) ground).stored (seen s.store at) (seen s.store v)
      (seen_grounded (counts made) s.store at g) (seen_grounded (counts made) s.store v h)
      ∙ ap (λ r. store_beside (ts ∷ c.more) r) (store_seen s.store at v))
      ∙ beside_ok s ts place (store s.store at v)

  -- A value is stored, and is what the assignment gives.
  pub store_follows : (ty pointer_ty place t : ℕ) (o : Operand) (made : StoreTyping) (s : Progress) (ts : List Object) (used : InUse) (at v : Value)
      → slice_get c.flat.types pointer_ty ≡ Some (Pointer ty) → IsScalar (slice_get c.flat.types ty) → IsReady c made s ts
      → IsOperand c pointer_ty used s ts (Var t) at → IsOf c made pointer_ty at → IsOperand c ty used s ts o v → IsOf c made ty v
      → slice_get (commands c) place ≡ Some (command.Store t o)
      → Follow c (with_result (store s.store at v) s (λ to s. Went v (with_store s to))) (here c s ts place) s.marks
      (Arrives c ty made None used ts (here c s ts place) s.marks (place + 1))
  store_follows ty pointer_ty place t o made s ts used at v shape scalar ready ot of ov vof stands =
      let effect = store_does ty pointer_ty place t o made s ts used at v shape ready ot of ov vof in
      let typed = (kept_types c set made s ts ready).stored pointer_ty ty at v shape scalar of vof in
      let inside = store_inside c.call s.store at v ready.inside in
      follows_result c.flat c.under c.n (store s.store at v) s (λ to s. Went v (with_store s to)) (here c s ts place) s.marks _
      (λ to e.
      record {
        later = made;
        adds = adds_nothing made;
        temporaries = ts;
        onward =
            command_goes c.flat c.under c.n c.function c.into c.callers c.more (command.Store t o) place (here c s ts place) stands
            (record { calm = refl; silent = λ s frame. refl }) (here c (with_store s to) ts (place + 1)) s.marks
            (effect ∙ ap (λ r. if_ok r (λ to. Goes (here c (with_store s to) ts (place + 1)))) e);
        ready =
            record {
              typed = subst (λ r. Gives (IsTypedStore c.flat.types c.under.widths made) r) e typed;
              inside = subst (λ r. Gives (IsInside c.call) r) e inside;
              declares = ready.declares;
              globals = ready.globals;
              temporaries = ready.temporaries;
            };
        value = vof;
        kept = λ i u ne. refl;
      })
      (λ a e.
      record {
        last = here c s ts place;
        runs =
            command_meets c.flat c.under c.n c.function c.into c.callers c.more (command.Store t o) place (here c s ts place) stands
            (record { calm = refl; silent = λ s frame. refl }) a s.marks
            (effect ∙ ap (λ r. if_ok r (λ to. Goes (here c (with_store s to) ts (place + 1)))) e);
        output = refl;
        turns = refl;
      })
