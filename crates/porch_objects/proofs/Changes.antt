-- What a change of one object does to the store.
use Rattle.std.proofs.Common.{◌≡◌, ◌≢◌, ◌<◌, ℕ, zero, suc, List, [], ◌∷◌, length, refl, sym, ap, ◌∙◌, inl, inr, Option, Some, None}
use Rattle.std.proofs.lemmas.Bool.Decides.{eqb_tells}
use Rattle.std.proofs.lemmas.List.{get_or-set_same, get_or-set_other}
use Rattle.std.specs.Prelude.{slice_get, slice_set}
use Rattle.std.specs.Option.{option_map}
use Rattle.porch_objects.specs.Store.{Home, of_global, of_call, of_block, Value, indeterminate, Object, Activation, HeapObject, Store, object_at, variables_in, block_in, changed_at, changed_calls, changed_blocks, changed, leaf_of, leaf_at, with_leaves, with_leaf_at}
use Rattle.porch_objects.specs.Laws.{StoresAt}

module _ (change : Object → Object) where
  set_same : (objects : List Object) (i : ℕ) (o : Object) → slice_get objects i ≡ Some o → slice_get (slice_set objects i (change o)) i ≡ Some (change o)
  set_same [] i o h = cc
  set_same (x ∷ xs) zero o h = refl
  set_same (x ∷ xs) (suc i) o h = set_same xs i o h

  set_other : (objects : List Object) (i j : ℕ) (o : Object) → j ≢ i → slice_get (slice_set objects i o) j ≡ slice_get objects j
  set_other [] i j o ne = refl
  set_other (x ∷ xs) zero zero o ne = absurd (ne refl)
  set_other (x ∷ xs) zero (suc j) o ne = refl
  set_other (x ∷ xs) (suc i) zero o ne = refl
  set_other (x ∷ xs) (suc i) (suc j) o ne = set_other xs i j o (λ e. ne (ap (λ n. suc n) e))

  same_at : (objects : List Object) (found : Option Object) (i : ℕ) → slice_get objects i ≡ found → slice_get (changed_at change objects found i) i ≡ option_map change found
  same_at objects None i h = h
  same_at objects (Some o) i h = set_same objects i o h

  other_at : (objects : List Object) (found : Option Object) (i j : ℕ) → j ≢ i → slice_get (changed_at change objects found i) j ≡ slice_get objects j
  other_at objects None i j ne = refl
  other_at objects (Some o) i j ne = set_other objects i j (change o) ne

  same_call : (calls : List Activation) (call variable : ℕ) → slice_get (variables_in (changed_calls change calls call variable) call) variable ≡ option_map change (slice_get (variables_in calls call) variable)
  same_call [] call variable = refl
  same_call (a ∷ callers) call variable =
      elim (eqb_tells a.number call) [
        | inl w ↦ rw (w.0, w.0) (same_at a.variables (slice_get a.variables variable) variable refl)
        | inr w ↦ rw (w.0, w.0) (same_call callers call variable)
      ]

  -- another variable, of this call or of another
  other_call : (calls : List Activation) (call variable c v : ℕ) → ((c ≡ call) → (v ≡ variable) → ⊥)
      → slice_get (variables_in (changed_calls change calls call variable) c) v ≡ slice_get (variables_in calls c) v
  other_call [] call variable c v ne = refl
  other_call (a ∷ callers) call variable c v ne =
      elim (eqb_tells a.number call) [
        | inl w ↦ elim (eqb_tells a.number c) [
          | inl u ↦ rw (w.0, u.0) (other_at a.variables (slice_get a.variables variable) variable v (ne (sym u.1 ∙ w.1)))
          | inr u ↦ rw (w.0, u.0) refl
        ]
        | inr w ↦ elim (eqb_tells a.number c) [
          | inl u ↦ rw (w.0, u.0) refl
          | inr u ↦ rw (w.0, u.0) (other_call callers call variable c v ne)
        ]
      ]

  same_block : (blocks : List HeapObject) (block : ℕ) → block_in (changed_blocks change blocks block) block ≡ option_map change (block_in blocks block)
  same_block [] block = refl
  same_block (h ∷ more) block =
      elim (eqb_tells h.number block) [
        | inl w ↦ rw (w.0, w.0) refl
        | inr w ↦ rw (w.0, w.0) (same_block more block)
      ]

  other_block : (blocks : List HeapObject) (block b : ℕ) → b ≢ block → block_in (changed_blocks change blocks block) b ≡ block_in blocks b
  other_block [] block b ne = refl
  other_block (h ∷ more) block b ne =
      elim (eqb_tells h.number block) [
        | inl w ↦ elim (eqb_tells h.number b) [
          | inl u ↦ absurd (ne (sym u.1 ∙ w.1))
          | inr u ↦ rw (w.0, u.0) refl
        ]
        | inr w ↦ elim (eqb_tells h.number b) [
          | inl u ↦ rw (w.0, u.0) refl
          | inr u ↦ rw (w.0, u.0) (other_block more block b ne)
        ]
      ]

  -- the changed object is found changed, and every other one as it was
  pub same_object : (s : Store) (home : Home) → object_at (changed change s home) home ≡ option_map change (object_at s home)
  same_object s (of_global global) = same_at s.globals (slice_get s.globals global) global refl
  same_object s (of_call call variable) = same_call s.calls call variable
  same_object s (of_block block) = same_block s.blocks block

  pub other_object : (s : Store) (home other : Home) → other ≢ home → object_at (changed change s home) other ≡ object_at s other
  other_object s (of_global i) (of_global j) ne = other_at s.globals (slice_get s.globals i) i j (λ e. ne (ap (λ n. of_global n) e))
  other_object s (of_global i) (of_call c v) ne = refl
  other_object s (of_global i) (of_block b) ne = refl
  other_object s (of_call call variable) (of_global j) ne = refl
  other_object s (of_call call variable) (of_call c v) ne =
      other_call s.calls call variable c v (λ e f. ne (ap (λ n. of_call n v) e ∙ ap (λ n. of_call call n) f))
  other_object s (of_call call variable) (of_block b) ne = refl
  other_object s (of_block block) (of_global j) ne = refl
  other_object s (of_block block) (of_call c v) ne = refl
  other_object s (of_block block) (of_block b) ne = other_block s.blocks block b (λ e. ne (ap (λ n. of_block n) e))

abbrev changed_leaves : ℕ → Value → Object → Object
changed_leaves leaf v object = with_leaves object (slice_set object.leaves leaf v)

leaf_of_other : (found : Option Object) (leaf k : ℕ) (v : Value) → k ≢ leaf → leaf_of (option_map (changed_leaves leaf v) found) k ≡ leaf_of found k
leaf_of_other None leaf k v ne = refl
leaf_of_other (Some object) leaf k v ne = get_or-set_other object.leaves leaf k v indeterminate ne

read_back : (s : Store) (home : Home) (leaf : ℕ) (v : Value) (object : Object) → object_at s home ≡ Some object → leaf < length object.leaves
    → leaf_at (with_leaf_at s home leaf v) home leaf ≡ v
read_back s home leaf v object h within =
    ap (λ (found : Option Object). leaf_of found leaf) (same_object (changed_leaves leaf v) s home ∙ ap (λ (found : Option Object). option_map (changed_leaves leaf v) found) h)
    ∙ get_or-set_same object.leaves leaf v indeterminate within

-- a leaf is stored, and nothing else
pub stores : (s : Store) (home : Home) (leaf : ℕ) (v : Value) → StoresAt s home leaf v
stores s home leaf v =
    record {
      read = read_back s home leaf v;
      other_leaf = λ k ne. ap (λ (found : Option Object). leaf_of found k) (same_object (changed_leaves leaf v) s home) ∙ leaf_of_other (object_at s home) leaf k v ne;
      other_object = λ other k ne. ap (λ (found : Option Object). leaf_of found k) (other_object (changed_leaves leaf v) s home other ne);
    }
