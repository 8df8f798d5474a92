-- What a change of one object leaves of a store: its shape, and every other object.
use Rattle.std.proofs.Common.{◌≡◌, ◌≢◌, inl, inr, ℕ, zero, suc, List, [], ◌∷◌, map, refl, sym, ap, ◌∙◌, Option, Some, None}
use Rattle.std.specs.Prelude.{slice_get, slice_set}
use Rattle.std.proofs.lemmas.Bool.Decides.{eqb_tells}
use Rattle.std.proofs.lemmas.Option.{same_Some}
use Rattle.porch_objects.specs.Store.{Home, of_global, of_call, of_block, Root, Object, Activation, HeapObject, Store, variables_in, block_in, object_at, changed_at, changed_calls, changed_blocks, changed}
use Rattle.porch_bytes.specs.StandsFor.{root_in}
use Rattle.porch_stands.proofs.Shapes.{SameCalls, SameBlocks, SameShape}

-- lists with one place changed
pub set_same : {X : Type 0} (xs : List X) (i : ℕ) (x y : X) → slice_get xs i ≡ Some x → slice_get (slice_set xs i y) i ≡ Some y
set_same [] i x y h = absurd (let k = h in cc)
set_same (z ∷ xs) zero x y h = refl
set_same (z ∷ xs) (suc i) x y h = set_same xs i x y h

pub set_other : {X : Type 0} (xs : List X) (i j : ℕ) (y : X) → i ≢ j → slice_get (slice_set xs i y) j ≡ slice_get xs j
set_other [] i j y ne = refl
set_other (z ∷ xs) zero zero y ne = absurd (ne refl)
set_other (z ∷ xs) zero (suc j) y ne = refl
set_other (z ∷ xs) (suc i) zero y ne = refl
set_other (z ∷ xs) (suc i) (suc j) y ne = set_other xs i j y (λ e. ne (ap suc e))

same_calls : (old : List Activation) → SameCalls old old
same_calls [] = tt
same_calls (a ∷ old) = (refl, refl, same_calls old)

same_blocks : (old : List HeapObject) → SameBlocks old old
same_blocks [] = tt
same_blocks (a ∷ old) = (refl, refl, same_blocks old)

module _ (change : Object → Object) where
  at_same : (xs : List Object) (i : ℕ) (o : Object) → slice_get xs i ≡ Some o → slice_get (changed_at change xs (slice_get xs i) i) i ≡ Some (change o)
  at_same xs i o e = rw e (set_same xs i o (change o) e)

  at_other : (xs : List Object) (i j : ℕ) (x : Option Object) → i ≢ j → slice_get (changed_at change xs x i) j ≡ slice_get xs j
  at_other xs i j None ne = refl
  at_other xs i j (Some o) ne = set_other xs i j (change o) ne

  call_same : (calls : List Activation) (c v : ℕ) (o : Object) → slice_get (variables_in calls c) v ≡ Some o → slice_get (variables_in (changed_calls change calls c v) c) v ≡ Some (change o)
  call_same [] c v o e = absurd (let k = e in cc)
  call_same (a ∷ calls) c v o e =
      elim (eqb_tells a.number c) [
        | inl t ↦ (let k : slice_get a.variables v ≡ Some o = rw t.0 at e in rw t.0 (rw t.0 (at_same a.variables v o k)))
        | inr t ↦ (let k : slice_get (variables_in calls c) v ≡ Some o = rw t.0 at e in rw t.0 (rw t.0 (call_same calls c v o k)))
      ]

  call_other : (calls : List Activation) (c v d u : ℕ) → (c ≡ d → v ≢ u) → slice_get (variables_in (changed_calls change calls c v) d) u ≡ slice_get (variables_in calls d) u
  call_other [] c v d u ne = refl
  call_other (a ∷ calls) c v d u ne =
      elim (eqb_tells a.number c) [
        | inl t ↦
            rw t.0 (elim (eqb_tells a.number d) [
              | inl r ↦ rw r.0 (at_other a.variables v u (slice_get a.variables v) (ne (sym t.1 ∙ r.1)))
              | inr r ↦ rw r.0 refl
            ])
        | inr t ↦
            rw t.0 (elim (eqb_tells a.number d) [
              | inl r ↦ rw r.0 refl
              | inr r ↦ rw r.0 (call_other calls c v d u ne)
            ])
      ]

  block_same : (blocks : List HeapObject) (b : ℕ) (o : Object) → block_in blocks b ≡ Some o → block_in (changed_blocks change blocks b) b ≡ Some (change o)
  block_same [] b o e = absurd (let k = e in cc)
  block_same (x ∷ blocks) b o e =
      elim (eqb_tells x.number b) [
        | inl t ↦ (let k : Some x.object ≡ Some o = rw t.0 at e in rw t.0 (rw t.0 (ap (λ (z : Object). Some (change z)) (same_Some x.object o k))))
        | inr t ↦ (let k : block_in blocks b ≡ Some o = rw t.0 at e in rw t.0 (rw t.0 (block_same blocks b o k)))
      ]

  block_other : (blocks : List HeapObject) (b d : ℕ) → b ≢ d → block_in (changed_blocks change blocks b) d ≡ block_in blocks d
  block_other [] b d ne = refl
  block_other (x ∷ blocks) b d ne =
      elim (eqb_tells x.number b) [
        | inl t ↦
            rw t.0 (elim (eqb_tells x.number d) [
              | inl r ↦ absurd (ne (sym t.1 ∙ r.1))
              | inr r ↦ rw r.0 refl
            ])
        | inr t ↦
            rw t.0 (elim (eqb_tells x.number d) [
              | inl r ↦ rw r.0 refl
              | inr r ↦ rw r.0 (block_other blocks b d ne)
            ])
      ]

  -- the object is changed
  pub object_changed : (s : Store) (home : Home) (o : Object) → object_at s home ≡ Some o → object_at (changed change s home) home ≡ Some (change o)
  object_changed s (of_global g) o e = at_same s.globals g o e
  object_changed s (of_call c v) o e = call_same s.calls c v o e
  object_changed s (of_block b) o e = block_same s.blocks b o e

  -- and no other
  pub object_other : (s : Store) (home other : Home) → home ≢ other → object_at (changed change s home) other ≡ object_at s other
  object_other s (of_global g) (of_global k) ne = at_other s.globals g k (slice_get s.globals g) (λ e. ne (ap of_global e))
  object_other s (of_global g) (of_call c v) ne = refl
  object_other s (of_global g) (of_block b) ne = refl
  object_other s (of_call c v) (of_global g) ne = refl
  object_other s (of_call c v) (of_call d u) ne = call_other s.calls c v d u (λ e i. ne (ap (λ (n : ℕ). of_call n v) e ∙ ap (of_call d) i))
  object_other s (of_call c v) (of_block b) ne = refl
  object_other s (of_block b) (of_global g) ne = refl
  object_other s (of_block b) (of_call c v) ne = refl
  object_other s (of_block b) (of_block d) ne = block_other s.blocks b d (λ e. ne (ap of_block e))

  module _ (keeps : (o : Object) → o.root ≡ (change o).root) where
    set_roots : (xs : List Object) (i : ℕ) (o : Object) → slice_get xs i ≡ Some o → map root_in xs ≡ map root_in (slice_set xs i (change o))
    set_roots [] i o e = refl
    set_roots (x ∷ xs) zero o e = ap (λ (r : Root). r ∷ map root_in xs) (ap root_in (same_Some x o e) ∙ keeps o)
    set_roots (x ∷ xs) (suc i) o e = ap (λ (rs : List Root). x.root ∷ rs) (set_roots xs i o e)

    at_roots : (xs : List Object) (i : ℕ) (x : Option Object) → slice_get xs i ≡ x → map root_in xs ≡ map root_in (changed_at change xs x i)
    at_roots xs i None e = refl
    at_roots xs i (Some o) e = set_roots xs i o e

    calls_shape : (calls : List Activation) (c v : ℕ) → SameCalls calls (changed_calls change calls c v)
    calls_shape [] c v = tt
    calls_shape (a ∷ calls) c v =
        elim (eqb_tells a.number c) [
          | inl t ↦ rw t.0 (refl, at_roots a.variables v (slice_get a.variables v) refl, same_calls calls)
          | inr t ↦ rw t.0 (refl, refl, calls_shape calls c v)
        ]

    blocks_shape : (blocks : List HeapObject) (b : ℕ) → SameBlocks blocks (changed_blocks change blocks b)
    blocks_shape [] b = tt
    blocks_shape (x ∷ blocks) b =
        elim (eqb_tells x.number b) [
          | inl t ↦ rw t.0 (refl, keeps x.object, same_blocks blocks)
          | inr t ↦ rw t.0 (refl, refl, blocks_shape blocks b)
        ]

    pub changed_shape : (s : Store) (home : Home) → SameShape s (changed change s home)
    changed_shape s (of_global g) = record {
      globals = at_roots s.globals g (slice_get s.globals g) refl;
      calls = same_calls s.calls;
      blocks = same_blocks s.blocks;
      called = refl;
      allocated = refl;
      checkpoints = refl;
    }
    changed_shape s (of_call c v) = record {
      globals = refl;
      calls = calls_shape s.calls c v;
      blocks = same_blocks s.blocks;
      called = refl;
      allocated = refl;
      checkpoints = refl;
    }
    changed_shape s (of_block b) = record {
      globals = refl;
      calls = same_calls s.calls;
      blocks = blocks_shape s.blocks b;
      called = refl;
      allocated = refl;
      checkpoints = refl;
    }
