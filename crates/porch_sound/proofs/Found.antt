-- What is found in a typed store and read of it has its type.
use Rattle.std.proofs.Common.{◌≡◌, ℕ, List, [], ◌∷◌, refl, sym, ap, subst, ◌∙◌, inl, inr, Option, Some, None}
use Rattle.std.proofs.lemmas.Bool.Decides.{eqb_tells}
use Rattle.std.specs.Prelude.{slice_get, slice_index_or, is_some, if◌then◌else◌, ◌&&◌, Bool, true, false, Result}
use Rattle.porch_types.specs.declared.shapes.Ty.{Ty}
use Rattle.porch_types.specs.declared.shapes.Ty.TheVariants.{Pointer}
use Rattle.porch_types.specs.LeafTypes.{IsScalar}
use Rattle.porch_types.specs.Rows.{IsSubobject}
use Rattle.porch_values.specs.declared.acts.Act.{Act}
use Rattle.porch_values.specs.declared.widths.Widths.{Widths}
use Rattle.porch_objects.specs.Store.{Home, of_global, of_call, of_block, Value, number, null, pointer, past, indeterminate, Root, Object, Activation, HeapObject, Store, variables_in, block_in, object_at, is_good, seen, leaf_of, leaf_at}
use Rattle.porch_objects.specs.Pointers.{if_there, if_place, load, member}
use Rattle.porch_sound.specs.Typing.{Each, StoreTyping, one_root, Points, IsValueOf, IsTypedObject, AreTyped, IsTypedCall, IsTypedBlock, IsTypedStore}
use Rattle.porch_sound.specs.Laws.{Gives, IsAlive}
use Rattle.porch_sound.proofs.Lawful.{AreLawful}
use Rattle.porch_sound.proofs.Objects.{typed_in}

pub some_is : {A : Type 0} (x y : A) → Some x ≡ Some y → x ≡ y
some_is x y e = cc

-- what a value leads to where it is used
pub there_gives : {A : Type 0} (P : A → Type 0) (v : Value) (go : Value → Result A Act) → Gives P (go v) → Gives P (if_there v go)
there_gives P (number z) go k = k
there_gives P null go k = k
there_gives P (pointer home leaf) go k = k
there_gives P (past home leaf until) go k = k
there_gives P indeterminate go k = tt

pub place_gives : {A : Type 0} (P : A → Type 0) (p : Value) (go : Home → ℕ → Result A Act)
    → ((home : Home) (leaf : ℕ) → p ≡ pointer home leaf → Gives P (go home leaf)) → Gives P (if_place p go)
place_gives P (number z) go k = tt
place_gives P null go k = tt
place_gives P (pointer home leaf) go k = k home leaf refl
place_gives P (past home leaf until) go k = tt
place_gives P indeterminate go k = tt

module _ (types : List Ty) (widths : Widths) (made : StoreTyping) where
  abbrev V : ℕ → Value → Type 0
  V ty v = IsValueOf types widths made ty v

  abbrev T : Object → Type 0
  T o = IsTypedObject types widths made o

  abbrev Alive : Home → Object → Type 0
  Alive home o = IsAlive types widths made home o

  in_list : (tys : List ℕ) (os : List Object) (i : ℕ) (o : Object) → AreTyped types widths made tys os → slice_get os i ≡ Some o
      → (one_root (slice_get tys i) ≡ Some o.root) × T o
  in_list tys os i o h e =
      let x = typed_in types widths made tys os i o h e in (ap (λ found. one_root found) x.0 ∙ ap (λ (r : Root). Some r) (sym x.1), x.2)

  pub in_calls : (calls : List Activation) (c v : ℕ) (o : Object) → Each (λ a. IsTypedCall types widths made a) calls → slice_get (variables_in calls c) v ≡ Some o
      → (one_root (slice_get (slice_index_or made.calls c []) v) ≡ Some o.root) × T o
  in_calls [] c v o h e = cc
  in_calls (a ∷ calls) c v o h e =
      elim (eqb_tells a.number c) [
        | inl w ↦ (let found : slice_get a.variables v ≡ Some o = rw w.0 at e in
            let x = in_list (slice_index_or made.calls a.number []) a.variables v o h.0.variables found in
            (ap (λ k. one_root (slice_get (slice_index_or made.calls k []) v)) (sym w.1) ∙ x.0, x.1))
        | inr w ↦ (let found : slice_get (variables_in calls c) v ≡ Some o = rw w.0 at e in in_calls calls c v o h.1 found)
      ]

  pub in_blocks : (blocks : List HeapObject) (b : ℕ) (o : Object) → Each (λ x. IsTypedBlock types widths made x) blocks → block_in blocks b ≡ Some o
      → (slice_get made.blocks b ≡ Some o.root) × T o
  in_blocks [] b o h e = cc
  in_blocks (x ∷ blocks) b o h e =
      elim (eqb_tells x.number b) [
        | inl w ↦ (let found : Some x.object ≡ Some o = rw w.0 at e in
            let same = some_is x.object o found in
            subst (λ (o : Object). (slice_get made.blocks b ≡ Some o.root) × T o) same
            (ap (λ k. slice_get made.blocks k) (sym w.1) ∙ h.0.root, h.0.object))
        | inr w ↦ (let found : block_in blocks b ≡ Some o = rw w.0 at e in in_blocks blocks b o h.1 found)
      ]

  pub by_sight : (b : Bool) (ty : ℕ) (v : Value) → V ty v → V ty (if b then v else indeterminate)
  by_sight true ty v h = h
  by_sight false ty v h = tt

  module _ (lawful : AreLawful types) (s : Store) (h : IsTypedStore types widths made s) where
    pub alive : (home : Home) (o : Object) → object_at s home ≡ Some o → Alive home o
    alive (of_global g) o e = (let x = in_list made.globals s.globals g o h.globals e in record { root = x.0; typed = x.1 })
    alive (of_call c v) o e = (let x = in_calls s.calls c v o h.calls e in record { root = x.0; typed = x.1 })
    alive (of_block b) o e = (let x = in_blocks s.blocks b o h.blocks e in record { root = x.0; typed = x.1 })

    pub seen_typed : (ty : ℕ) (v : Value) → V ty v → V ty (seen s v)
    seen_typed ty (number z) v = v
    seen_typed ty null v = v
    seen_typed ty (pointer home leaf) v = by_sight (is_some (object_at s home)) ty (pointer home leaf) v
    seen_typed ty (past home leaf until) v = by_sight (is_some (object_at s home) && is_good until s.checkpoints) ty (past home leaf until) v
    seen_typed ty indeterminate v = tt

    -- the subobject that a pointer names, in the object that is alive
    pub in_object : (ty to : ℕ) (home : Home) (leaf : ℕ) (o : Object) → slice_get types ty ≡ Some (Pointer to)
        → Points types widths made ty home leaf → object_at s home ≡ Some o
        → IsSubobject types o.root.ty o.root.count leaf to
    in_object ty to home leaf o shape p e =
        let same_root : p.root ≡ o.root = some_is p.root o.root (sym p.here ∙ (alive home o e).root) in
        let same_ty : p.to ≡ to = pointer_is p.to to (some_is (Pointer p.to) (Pointer to) (sym p.shape ∙ shape)) in
        subst (λ (r : Root). IsSubobject types r.ty r.count leaf to) same_root
        (subst (λ t. IsSubobject types p.root.ty p.root.count leaf t) same_ty p.subobject)
      where
        pointer_is : (a b : ℕ) → Pointer a ≡ Pointer b → a ≡ b
        pointer_is a b e = cc

    leaf_is : (ty to : ℕ) (home : Home) (leaf : ℕ) → slice_get types ty ≡ Some (Pointer to) → IsScalar (slice_get types to)
        → Points types widths made ty home leaf → V to (leaf_at s home leaf)
    leaf_is ty to home leaf shape scalar p = by_object (object_at s home) refl
      where
        by_object : (found : Option Object) → object_at s home ≡ found → V to (leaf_of found leaf)
        by_object None e = tt
        by_object (Some o) e =
            let t = (alive home o e).typed in
            let same = lawful.only o.root.ty o.root.count leaf to t.known (in_object ty to home leaf o shape p e) scalar in
            subst (λ k. V k (slice_index_or o.leaves leaf indeterminate)) (sym same) (t.leaves leaf)

    pub load_typed : (ty to : ℕ) (p : Value) → slice_get types ty ≡ Some (Pointer to) → IsScalar (slice_get types to) → V ty p → Gives (V to) (load s p)
    load_typed ty to p shape scalar v =
        there_gives (V to) (seen s p) _ (place_gives (V to) (seen s p) _ (λ home leaf e.
        there_gives (V to) (seen s (leaf_at s home leaf)) _
        (seen_typed to (leaf_at s home leaf) (leaf_is ty to home leaf shape scalar (subst (λ x. V ty x) e (seen_typed ty p v))))))

    pub member_typed : (ty outer leaf inner ty' : ℕ) (p : Value) → slice_get types ty ≡ Some (Pointer outer) → IsSubobject types outer 1 leaf inner
        → slice_get types ty' ≡ Some (Pointer inner) → V ty p → Gives (V ty') (member s p leaf)
    member_typed ty outer leaf inner ty' p shape sub shape' v =
        there_gives (V ty') (seen s p) _ (place_gives (V ty') (seen s p) _ (λ home first e.
        (let x : Points types widths made ty home first = subst (λ x. V ty x) e (seen_typed ty p v) in
        let same_ty : x.to ≡ outer = pointer_is x.to outer (some_is (Pointer x.to) (Pointer outer) (sym x.shape ∙ shape)) in
        record {
          to = inner;
          shape = shape';
          root = x.root;
          here = x.here;
          subobject =
              lawful.nest x.root.ty x.root.count first outer leaf inner
              (subst (λ t. IsSubobject types x.root.ty x.root.count first t) same_ty x.subobject) sub;
        })))
      where
        pointer_is : (a b : ℕ) → Pointer a ≡ Pointer b → a ≡ b
        pointer_is a b e = cc
