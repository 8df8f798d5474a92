-- What a store typing says of names and values is what is needed to read them beside temporaries.
use Rattle.std.proofs.Common.{◌≡◌, ◌<◌, ℕ, zero, suc, List, [], ◌∷◌, ◌++◌, append-nil, append_assoc, length, map, refl, sym, ap, ◌∙◌, arith, Some}
use Rattle.std.specs.Prelude.{slice_get, slice_index, slice_index_or}
use Rattle.porch_types.specs.declared.shapes.Ty.{Ty}
use Rattle.porch_types.specs.LeafTypes.{leaf_type}
use Rattle.porch_values.specs.declared.widths.Widths.{Widths}
use Rattle.porch_objects.specs.Store.{Home, of_global, of_call, of_block, Value, number, null, pointer, past, indeterminate, Root, Object, Activation, HeapObject, Store}
use Rattle.porch_sound.specs.Typing.{Each, StoreTyping, one_root, root_of, Adds, IsValueOf, IsTypedObject, AreTyped, IsTypedCall, IsTypedBlock, IsTypedStore}
use Rattle.porch_lowered.specs.Beside.{IsDeclared, IsGrounded, HoldsGrounded, IsFrame, IsGroundedStore}

-- how many variables each call declares
abbrev pub counts : StoreTyping → List ℕ
counts made = map (λ (variables : List ℕ). length variables) made.calls

pub count_of : (calls : List (List ℕ)) (c : ℕ) → slice_index (map (λ (variables : List ℕ). length variables) calls) c ≡ length (slice_index_or calls c [])
count_of [] c = refl
count_of (x ∷ calls) zero = refl
count_of (x ∷ calls) (suc c) = count_of calls c

count_of_counts : (calls : List (List ℕ)) → length (map (λ (variables : List ℕ). length variables) calls) ≡ length calls
count_of_counts [] = refl
count_of_counts (x ∷ calls) = ap suc (count_of_counts calls)

one_within : (tys : List ℕ) (v : ℕ) (root : Root) → one_root (slice_get tys v) ≡ Some root → v < length tys
one_within [] v root e = cc
one_within (ty ∷ tys) zero root e = omega arith
one_within (ty ∷ tys) (suc v) root e = (let less = one_within tys v root e in omega (arith, less))

pub home_declared : (made : StoreTyping) (home : Home) (root : Root) → root_of made home ≡ Some root → IsDeclared (counts made) home
home_declared made (of_global g) root e = tt
home_declared made (of_call c v) root e =
    let less = one_within (slice_index_or made.calls c []) v root e in let count = count_of made.calls c in omega (arith, less, count)
home_declared made (of_block b) root e = tt

each_index : (P : Value → Type 0) (vs : List Value) → ((i : ℕ) → P (slice_index_or vs i indeterminate)) → Each P vs
each_index P [] h = tt
each_index P (v ∷ vs) h = (h 0, each_index P vs (λ i. h (suc i)))

module _ (types : List Ty) (widths : Widths) (made : StoreTyping) where
  pub value_grounded : (ty : ℕ) (v : Value) → IsValueOf types widths made ty v → IsGrounded (counts made) v
  value_grounded ty (number z) h = tt
  value_grounded ty null h = tt
  value_grounded ty (pointer home leaf) h = home_declared made home h.root h.here
  value_grounded ty (past home leaf until) h = home_declared made home h.root h.here
  value_grounded ty indeterminate h = tt

  object_grounded : (o : Object) → IsTypedObject types widths made o → HoldsGrounded (counts made) o
  object_grounded o t =
      each_index (λ v. IsGrounded (counts made) v) o.leaves
      (λ i. value_grounded (leaf_type types o.root.ty i) (slice_index_or o.leaves i indeterminate) (t.leaves i))

  objects_grounded : (tys : List ℕ) (os : List Object) → AreTyped types widths made tys os
      → (length os ≡ length tys) × Each (λ o. HoldsGrounded (counts made) o) os
  objects_grounded [] [] h = (refl, tt)
  objects_grounded [] (o ∷ os) h = absurd h
  objects_grounded (ty ∷ tys) [] h = absurd h
  objects_grounded (ty ∷ tys) (o ∷ os) h = (let more = objects_grounded tys os h.2 in (ap suc more.0, (object_grounded o h.1, more.1)))

  calls_grounded : (calls : List Activation) → Each (λ a. IsTypedCall types widths made a) calls → Each (λ a. IsFrame (counts made) a) calls
  calls_grounded [] h = tt
  calls_grounded (a ∷ calls) h =
      let objects = objects_grounded (slice_index_or made.calls a.number []) a.variables h.0.variables in
      let before = h.0.made_before in
      let all = count_of_counts made.calls in (
        record { made = omega (arith, before, all); variables = objects.0 ∙ sym (count_of made.calls a.number); values = objects.1 },
        calls_grounded calls h.1,
      )

  blocks_grounded : (blocks : List HeapObject) → Each (λ b. IsTypedBlock types widths made b) blocks
      → Each (λ (b : HeapObject). HoldsGrounded (counts made) b.object) blocks
  blocks_grounded [] h = tt
  blocks_grounded (b ∷ blocks) h = (object_grounded b.object h.0.object, blocks_grounded blocks h.1)

  pub store_grounded : (s : Store) → IsTypedStore types widths made s → IsGroundedStore (counts made) s
  store_grounded s h =
      record {
        made = count_of_counts made.calls ∙ h.called;
        globals = (objects_grounded made.globals s.globals h.globals).1;
        calls = calls_grounded s.calls h.calls;
        blocks = blocks_grounded s.blocks h.blocks;
      }

-- store typings that grow twice
pub adds_nothing : (made : StoreTyping) → Adds made made
adds_nothing made = record { globals = refl; calls = ([], sym (append-nil made.calls)); blocks = ([], sym (append-nil made.blocks)) }

pub adds_both : (a b c : StoreTyping) → Adds a b → Adds b c → Adds a c
adds_both a b c x y =
    record {
      globals = y.globals ∙ x.globals;
      calls = (x.calls.0 ++ y.calls.0, y.calls.1 ∙ ap (λ xs. xs ++ y.calls.0) x.calls.1 ∙ append_assoc a.calls x.calls.0 y.calls.0);
      blocks = (x.blocks.0 ++ y.blocks.0, y.blocks.1 ∙ ap (λ xs. xs ++ y.blocks.0) x.blocks.1 ∙ append_assoc a.blocks x.blocks.0 y.blocks.0);
    }
