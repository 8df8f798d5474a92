-- What agrees with a store typing agrees with one that has grown.
use Rattle.std.proofs.Common.{◌≡◌, ◌<◌, ℕ, zero, suc, List, [], ◌∷◌, ◌++◌, length, refl, sym, ap, subst, ◌∙◌, arith, length-append, Option, Some, None}
use Rattle.std.specs.Prelude.{slice_get, slice_index_or}
use Rattle.porch_types.specs.declared.shapes.Ty.{Ty}
use Rattle.porch_types.specs.LeafTypes.{leaf_type}
use Rattle.porch_values.specs.declared.widths.Widths.{Widths}
use Rattle.porch_objects.specs.Store.{Home, of_global, of_call, of_block, Value, number, null, pointer, past, indeterminate, Root, Object, Activation, HeapObject}
use Rattle.porch_sound.specs.Typing.{Each, StoreTyping, one_root, root_of, Adds, Points, IsValueOf, IsTypedObject, AreTyped, IsTypedCall, IsTypedBlock}

-- the same element of a longer list
pub get_longer : {A : Type 0} (xs more : List A) (i : ℕ) (x : A) → slice_get xs i ≡ Some x → slice_get (xs ++ more) i ≡ Some x
get_longer [] more i x e = cc
get_longer (y ∷ xs) more zero x e = e
get_longer (y ∷ xs) more (suc i) x e = get_longer xs more i x e

pub get_last : {A : Type 0} (xs : List A) (x : A) → slice_get (xs ++ x ∷ []) (length xs) ≡ Some x
get_last [] x = refl
get_last (y ∷ xs) x = get_last xs x

-- also where it is looked up with a default that has none
pub within_longer : (xs more : List (List ℕ)) (i v ty : ℕ) → slice_get (slice_index_or xs i []) v ≡ Some ty → slice_get (slice_index_or (xs ++ more) i []) v ≡ Some ty
within_longer [] more i v ty e = cc
within_longer (x ∷ xs) more zero v ty e = e
within_longer (x ∷ xs) more (suc i) v ty e = within_longer xs more i v ty e

pub index_longer : (xs more : List (List ℕ)) (i : ℕ) → i < length xs → slice_index_or (xs ++ more) i [] ≡ slice_index_or xs i []
index_longer [] more i h = absurd (omega arith)
index_longer (x ∷ xs) more zero h = refl
index_longer (x ∷ xs) more (suc i) h = index_longer xs more i (omega arith)

pub index_last : (xs : List (List ℕ)) (x : List ℕ) → slice_index_or (xs ++ x ∷ []) (length xs) [] ≡ x
index_last [] x = refl
index_last (y ∷ xs) x = index_last xs x

by_one : (a b : Option ℕ) (root : Root) → ((ty : ℕ) → a ≡ Some ty → b ≡ Some ty) → one_root a ≡ Some root → one_root b ≡ Some root
by_one None b root k e = cc
by_one (Some ty) b root k e = ap (λ x. one_root x) (k ty refl) ∙ e

pub roots_stay : (made later : StoreTyping) → Adds made later → (home : Home) (root : Root) → root_of made home ≡ Some root → root_of later home ≡ Some root
roots_stay made later adds (of_global g) root e = ap (λ globals. one_root (slice_get globals g)) adds.globals ∙ e
roots_stay made later adds (of_call c v) root e =
    ap (λ calls. one_root (slice_get (slice_index_or calls c []) v)) adds.calls.1
    ∙ by_one (slice_get (slice_index_or made.calls c []) v) _ root (λ ty k. within_longer made.calls adds.calls.0 c v ty k) e
roots_stay made later adds (of_block b) root e = ap (λ blocks. slice_get blocks b) adds.blocks.1 ∙ get_longer made.blocks adds.blocks.0 b root e

module _ (types : List Ty) (widths : Widths) (made later : StoreTyping) (adds : Adds made later) where
  points_later : (ty : ℕ) (home : Home) (leaf : ℕ) → Points types widths made ty home leaf → Points types widths later ty home leaf
  points_later ty home leaf p =
      record { to = p.to; shape = p.shape; root = p.root; here = roots_stay made later adds home p.root p.here; subobject = p.subobject }

  pub value_later : (ty : ℕ) (v : Value) → IsValueOf types widths made ty v → IsValueOf types widths later ty v
  value_later ty (number z) h = h
  value_later ty null h = h
  value_later ty (pointer home leaf) h = points_later ty home leaf h
  value_later ty (past home leaf until) h = points_later ty home leaf h
  value_later ty indeterminate h = tt

  pub object_later : (o : Object) → IsTypedObject types widths made o → IsTypedObject types widths later o
  object_later o t =
      record {
        known = t.known;
        few = t.few;
        size = t.size;
        leaves = λ leaf. value_later (leaf_type types o.root.ty leaf) (slice_index_or o.leaves leaf indeterminate) (t.leaves leaf);
      }

  pub objects_later : (tys : List ℕ) (os : List Object) → AreTyped types widths made tys os → AreTyped types widths later tys os
  objects_later [] [] h = tt
  objects_later [] (o ∷ os) h = h
  objects_later (ty ∷ tys) [] h = h
  objects_later (ty ∷ tys) (o ∷ os) h = (h.0, object_later o h.1, objects_later tys os h.2)

  pub calls_later : (calls : List Activation) → Each (λ a. IsTypedCall types widths made a) calls → Each (λ a. IsTypedCall types widths later a) calls
  calls_later [] h = tt
  calls_later (a ∷ calls) h =
      let before = h.0.made_before in
      let same : slice_index_or later.calls a.number [] ≡ slice_index_or made.calls a.number [] =
      ap (λ calls. slice_index_or calls a.number []) adds.calls.1 ∙ index_longer made.calls adds.calls.0 a.number before in
      let l = ap (λ (xs : List (List ℕ)). length xs) adds.calls.1 in
      let m = length-append made.calls adds.calls.0 in (
        record {
          made_before = omega (arith, before, l, m);
          variables =
              subst (λ tys. AreTyped types widths later tys a.variables) (sym same)
              (objects_later (slice_index_or made.calls a.number []) a.variables h.0.variables);
        },
        calls_later calls h.1,
      )

  pub blocks_later : (blocks : List HeapObject) → Each (λ b. IsTypedBlock types widths made b) blocks → Each (λ b. IsTypedBlock types widths later b) blocks
  blocks_later [] h = tt
  blocks_later (b ∷ blocks) h = (
    record {
      root = ap (λ blocks. slice_get blocks b.number) adds.blocks.1 ∙ get_longer made.blocks adds.blocks.0 b.number b.object.root h.0.root;
      object = object_later b.object h.0.object;
    },
    blocks_later blocks h.1,
  )
