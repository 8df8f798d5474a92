-- COPY: a struct is copied to where a pointer points.
use Rattle.std.proofs.Common.{◌≡◌, ℕ, ◌+◌, List, ◌∷◌, refl, ap, subst, ◌∙◌, Some, None}
use Rattle.std.specs.Prelude.{slice_get, unwrap_or, Result, Ok}
use Rattle.porch_types.specs.declared.shapes.Ty.TheVariants.{Pointer}
use Rattle.porch_types.specs.Leaves.{leaves_of}
use Rattle.porch_values.specs.declared.acts.Act.{Act}
use Rattle.porch_objects.specs.Store.{Value, Object, Store, object_at, changed, seen, with_leaves}
use Rattle.porch_objects.specs.Pointers.{if_there, if_place, leaves_from, spliced, copy}
use Rattle.porch_objects.specs.Meaning.{Progress, with_store}
use Rattle.porch_flat.specs.declared.flat.Operand.TheVariants.{Var}
use Rattle.porch_flat.specs.declared.whole.Command.TheVariants as command
use Rattle.porch_flat.specs.whole.Form.{form_of}
use Rattle.porch_flat.specs.whole.Places.{pointed, type_at}
use Rattle.porch_abstract.specs.Machine.{Goes}
use Rattle.porch_abstract.specs.whole.Machine.{if_ok, does, var_type, variable_of}
use Rattle.porch_mean.specs.Outcome.{Went, with_result}
use Rattle.porch_lowering.specs.Code.{InUse}
use Rattle.porch_sound.specs.Typing.{StoreTyping, IsTypedStore}
use Rattle.porch_sound.specs.Laws.{Gives}
use Rattle.porch_lowered.specs.Beside.{beside}
use Rattle.porch_lowered.specs.Laws.{store_beside}
use Rattle.porch_lowered.proofs.ReadAlike.{seen_grounded}
use Rattle.porch_lowered.proofs.ChangeAlike.{changes}
use Rattle.porch_lowered.proofs.Typed.{counts, adds_nothing}
use Rattle.porch_lowered.proofs.Follows.{follows_result}
use Rattle.porch_lowered.proofs.Temporaries.{IsInside}
use Rattle.porch_lowered.proofs.SameLeaf.{seen_twice}
use Rattle.porch_lowered.proofs.States.{command_goes, command_meets}
use Rattle.porch_lowered.proofs.Codes.{Context, commands, frame, here, IsOf, Follow, IsReady, grounded, value_is_grounded, Arrives}
use Rattle.porch_lowered.proofs.Holding.{IsSetting, kept_types}
use Rattle.porch_lowered.proofs.Operands.{IsOperand, variable_is, operand_type}
use Rattle.porch_lowered.proofs.Stores.{inside_changed, there_gives, place_gives, led_by, beside_ok}

copy_inside : (call count : ℕ) (s : Store) (p q : Value) → IsInside call s → Gives (IsInside call) (copy count s p q)
copy_inside call count s p q x =
    there_gives (IsInside call) (seen s p) _ (there_gives (IsInside call) (seen s q) _ (place_gives (IsInside call) (seen s p) _ (λ home leaf.
    place_gives (IsInside call) (seen s q) _ (λ other first.
    inside_changed (λ o. with_leaves o (spliced o.leaves leaf (leaves_from (object_at s other) first count))) call s home x))))

-- two values that are used, and copied between
abbrev copies_by : ℕ → Store → Value → Value → Result Store Act
copies_by count s x y =
    if_there x (λ to. if_there y (λ from. if_place to (λ home leaf. if_place from (λ other first.
    Ok (changed (λ o. with_leaves o (spliced o.leaves leaf (leaves_from (object_at s other) first count))) s home)))))

copy_seen : (count : ℕ) (s : Store) (p q : Value) → copy count s (seen s p) (seen s q) ≡ copy count s p q
copy_seen count s p q =
    ap (λ x. copies_by count s x (seen s (seen s q))) (seen_twice s p) ∙ ap (λ y. copies_by count s (seen s p) y) (seen_twice s q)

module _ (c : Context) (set : IsSetting c) where
  abbrev pointee_at : ℕ → ℕ → ℕ
  pointee_at place t = unwrap_or (pointed (type_at c.flat (var_type c.flat (frame c place) t))) 0

  copy_does : (ty pointer_ty place t u : ℕ) (made : StoreTyping) (s : Progress) (ts : List Object) (used : InUse) (at v : Value)
      → slice_get c.flat.types pointer_ty ≡ Some (Pointer ty) → IsReady c made s ts
      → IsOperand c pointer_ty used s ts (Var t) at → IsOf c made pointer_ty at → IsOperand c pointer_ty used s ts (Var u) v → IsOf c made pointer_ty v
      → does c.flat c.under (frame c place) c.callers (form_of (command.Copy t u)) (here c s ts place)
      ≡ if_ok (copy (leaves_of c.flat.types ty) s.store at v) (λ to. Goes (here c (with_store s to) ts (place + 1)))
  copy_does ty pointer_ty place t u made s ts used at v shape ready ot of ou vof =
      let g = value_is_grounded c made pointer_ty at of in
      let h = value_is_grounded c made pointer_ty v vof in
      let pointee : pointee_at place t ≡ ty =
      ap (λ ty. unwrap_or (pointed (type_at c.flat ty)) 0) (operand_type c set pointer_ty used s ts t at ot place) ∙ ap (λ shape. unwrap_or (pointed shape) 0) shape in
      ap (λ k. led_by c set s ts place (copy (leaves_of c.flat.types k) (beside s.store (ts ∷ c.more)) (variable_of t (here c s ts place)) (variable_of u (here c s ts place)))) pointee
      ∙ ap (λ x. led_by c set s ts place (copy (leaves_of c.flat.types ty) (beside s.store (ts ∷ c.more)) x (variable_of u (here c s ts place))))
      (variable_is c set made s ts place pointer_ty t used at ready ot of)
      ∙ ap (λ y. led_by c set s ts place (copy (leaves_of c.flat.types ty) (beside s.store (ts ∷ c.more)) (seen s.store at) y))
      (variable_is c set made s ts place pointer_ty u used v ready ou vof)
      ∙ ap (λ r. led_by c set s ts place r)
      ((changes c.flat.types (counts made) s.store (ts ∷ c.more) (grounded c made s ts ready)).copied (leaves_of c.flat.types ty) (seen s.store at) (seen s.store v)
      (seen_grounded (counts made) s.store at g) (seen_grounded (counts made) s.store v h)
      ∙ ap (λ r. store_beside (ts ∷ c.more) r) (copy_seen (leaves_of c.flat.types ty) s.store at v))
      ∙ beside_ok c set s ts place (copy (leaves_of c.flat.types ty) s.store at v)

  -- A struct is copied, and is where it was copied to.
  pub copy_follows : (ty pointer_ty place t u : ℕ) (made : StoreTyping) (s : Progress) (ts : List Object) (used : InUse) (at v : Value)
      → slice_get c.flat.types pointer_ty ≡ Some (Pointer ty) → IsReady c made s ts
      → IsOperand c pointer_ty used s ts (Var t) at → IsOf c made pointer_ty at → IsOperand c pointer_ty used s ts (Var u) v → IsOf c made pointer_ty v
      → slice_get (commands c) place ≡ Some (command.Copy t u)
      → Follow c (with_result (copy (leaves_of c.flat.types ty) s.store at v) s (λ to s. Went at (with_store s to))) (here c s ts place) s.marks
      (Arrives c pointer_ty made None used ts (here c s ts place) s.marks (place + 1))
  copy_follows ty pointer_ty place t u made s ts used at v shape ready ot of ou vof stands =
      let effect = copy_does ty pointer_ty place t u made s ts used at v shape ready ot of ou vof in
      let typed = (kept_types c set made s ts ready).copied pointer_ty ty at v shape of vof in
      let inside = copy_inside c.call (leaves_of c.flat.types ty) s.store at v ready.inside in
      follows_result c.flat c.under c.n (copy (leaves_of c.flat.types ty) s.store at v) s (λ to s. Went at (with_store s to)) (here c s ts place) s.marks _
      (λ to e.
      record {
        later = made;
        adds = adds_nothing made;
        temporaries = ts;
        onward =
            command_goes c.flat c.under c.n c.function c.into c.callers c.more (command.Copy t u) place (here c s ts place) stands
            (record { calm = refl; silent = λ s frame. refl }) (here c (with_store s to) ts (place + 1)) s.marks
            (effect ∙ ap (λ r. if_ok r (λ to. Goes (here c (with_store s to) ts (place + 1)))) e);
        ready =
            record {
              typed = subst (λ r. Gives (IsTypedStore c.flat.types c.under.widths made) r) e typed;
              inside = subst (λ r. Gives (IsInside c.call) r) e inside;
              declares = ready.declares;
              globals = ready.globals;
              temporaries = ready.temporaries;
            };
        value = of;
        kept = λ i u ne. refl;
      })
      (λ a e.
      record {
        last = here c s ts place;
        runs =
            command_meets c.flat c.under c.n c.function c.into c.callers c.more (command.Copy t u) place (here c s ts place) stands
            (record { calm = refl; silent = λ s frame. refl }) a s.marks
            (effect ∙ ap (λ r. if_ok r (λ to. Goes (here c (with_store s to) ts (place + 1)))) e);
        output = refl;
        turns = refl;
      })
