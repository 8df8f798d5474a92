-- What is alive stays so where an object is changed, and so does what a value is seen as.
use Rattle.std.proofs.Common.{◌≡◌, ℕ, zero, suc, List, [], ◌∷◌, refl, ap, ◌∙◌, inl, inr, Option, Some, None}
use Rattle.std.proofs.lemmas.Bool.Decides.{eqb_tells}
use Rattle.std.specs.Prelude.{is_some, slice_get, slice_set, ◌&&◌, if◌then◌else◌}
use Rattle.porch_objects.specs.Store.{Home, of_global, of_call, of_block, Value, number, null, pointer, past, indeterminate, Object, Activation, HeapObject, Store, variables_in, block_in, object_at, is_good, seen, changed_at, changed_calls, changed_blocks, changed}

module _ (change : Object → Object) where
  some_set : (xs : List Object) (i j : ℕ) (x : Object) → is_some (slice_get (slice_set xs i x) j) ≡ is_some (slice_get xs j)
  some_set [] i j x = refl
  some_set (y ∷ xs) zero zero x = refl
  some_set (y ∷ xs) zero (suc j) x = refl
  some_set (y ∷ xs) (suc i) zero x = refl
  some_set (y ∷ xs) (suc i) (suc j) x = some_set xs i j x

  some_changed : (xs : List Object) (found : Option Object) (i j : ℕ) → is_some (slice_get (changed_at change xs found i) j) ≡ is_some (slice_get xs j)
  some_changed xs None i j = refl
  some_changed xs (Some o) i j = some_set xs i j (change o)

  in_calls : (calls : List Activation) (c v d w : ℕ) → is_some (slice_get (variables_in (changed_calls change calls c v) d) w) ≡ is_some (slice_get (variables_in calls d) w)
  in_calls [] c v d w = refl
  in_calls (a ∷ calls) c v d w =
      elim (eqb_tells a.number c) [
        | inl here ↦
            elim (eqb_tells a.number d) [
              | inl there ↦ rw (here.0, there.0) (some_changed a.variables (slice_get a.variables v) v w)
              | inr there ↦ rw (here.0, there.0) refl
            ]
        | inr here ↦
            elim (eqb_tells a.number d) [
              | inl there ↦ rw (here.0, there.0) refl
              | inr there ↦ rw (here.0, there.0) (in_calls calls c v d w)
            ]
      ]

  in_blocks : (blocks : List HeapObject) (b d : ℕ) → is_some (block_in (changed_blocks change blocks b) d) ≡ is_some (block_in blocks d)
  in_blocks [] b d = refl
  in_blocks (h ∷ blocks) b d =
      elim (eqb_tells h.number b) [
        | inl here ↦
            elim (eqb_tells h.number d) [
              | inl there ↦ rw (here.0, there.0) refl
              | inr there ↦ rw (here.0, there.0) refl
            ]
        | inr here ↦
            elim (eqb_tells h.number d) [
              | inl there ↦ rw (here.0, there.0) refl
              | inr there ↦ rw (here.0, there.0) (in_blocks blocks b d)
            ]
      ]

  pub alive_changed : (s : Store) (home other : Home) → is_some (object_at (changed change s home) other) ≡ is_some (object_at s other)
  alive_changed s (of_global g) (of_global k) = some_changed s.globals (slice_get s.globals g) g k
  alive_changed s (of_global g) (of_call c v) = refl
  alive_changed s (of_global g) (of_block b) = refl
  alive_changed s (of_call c v) (of_global k) = refl
  alive_changed s (of_call c v) (of_call d w) = in_calls s.calls c v d w
  alive_changed s (of_call c v) (of_block b) = refl
  alive_changed s (of_block b) (of_global k) = refl
  alive_changed s (of_block b) (of_call d w) = refl
  alive_changed s (of_block b) (of_block d) = in_blocks s.blocks b d

  same_count : (s : Store) (home : Home) → (changed change s home).checkpoints ≡ s.checkpoints
  same_count s (of_global g) = refl
  same_count s (of_call c v) = refl
  same_count s (of_block b) = refl

  pub seen_changed : (s : Store) (home : Home) (v : Value) → seen (changed change s home) v ≡ seen s v
  seen_changed s home (number z) = refl
  seen_changed s home null = refl
  seen_changed s home (pointer other leaf) = ap (λ b. if b then pointer other leaf else indeterminate) (alive_changed s home other)
  seen_changed s home (past other leaf until) =
      ap (λ b. if b && is_good until (changed change s home).checkpoints then past other leaf until else indeterminate) (alive_changed s home other)
      ∙ ap (λ count. if is_some (object_at s other) && is_good until count then past other leaf until else indeterminate) (same_count s home)
  seen_changed s home indeterminate = refl

  -- the object itself
  get_set : (xs : List Object) (i : ℕ) (o x : Object) → slice_get xs i ≡ Some o → slice_get (slice_set xs i x) i ≡ Some x
  get_set [] i o x e = cc
  get_set (y ∷ xs) zero o x e = refl
  get_set (y ∷ xs) (suc i) o x e = get_set xs i o x e

  get_changed : (xs : List Object) (i : ℕ) (o : Object) → slice_get xs i ≡ Some o → slice_get (changed_at change xs (slice_get xs i) i) i ≡ Some (change o)
  get_changed xs i o e = ap (λ found. slice_get (changed_at change xs found i) i) e ∙ get_set xs i o (change o) e

  call_changed : (calls : List Activation) (c v : ℕ) (o : Object) → slice_get (variables_in calls c) v ≡ Some o
      → slice_get (variables_in (changed_calls change calls c v) c) v ≡ Some (change o)
  call_changed [] c v o e = cc
  call_changed (a ∷ calls) c v o e =
      elim (eqb_tells a.number c) [
        | inl here ↦ (let found : slice_get a.variables v ≡ Some o = rw here.0 at e in rw (here.0, here.0) (get_changed a.variables v o found))
        | inr here ↦ (let found : slice_get (variables_in calls c) v ≡ Some o = rw here.0 at e in rw (here.0, here.0) (call_changed calls c v o found))
      ]

  -- a variable of a call that was changed
  pub variable_changed : (s : Store) (c v : ℕ) (o : Object) → object_at s (of_call c v) ≡ Some o → object_at (changed change s (of_call c v)) (of_call c v) ≡ Some (change o)
  variable_changed s c v o e = call_changed s.calls c v o e
