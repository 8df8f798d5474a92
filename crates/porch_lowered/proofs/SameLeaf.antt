-- A leaf that is written with the value that it has: nothing changes. So a variable that is moved to itself is only used.
use Rattle.std.proofs.Common.{◌≡◌, ℕ, zero, suc, List, [], ◌∷◌, refl, sym, ap, ◌∙◌, ◌⊎◌, inl, inr, Bool, true, false, Option, Some, None}
use Rattle.std.proofs.lemmas.Bool.Decides.{eqb_tells}
use Rattle.std.specs.Prelude.{slice_get, slice_set, slice_index_or, is_some, ◌&&◌, if◌then◌else◌}
use Rattle.porch_objects.specs.Store.{Home, of_global, of_call, of_block, Value, number, null, pointer, past, indeterminate, Object, Activation, HeapObject, Store, with_globals, with_calls, with_blocks, variables_in, block_in, is_good, seen, object_at, leaf_of, leaf_at, with_leaves, changed_at, changed_calls, changed_blocks, with_leaf_at}

-- an object whose first leaf is a value
abbrev begun_with : Value → Object → Object
begun_with v o = with_leaves o (slice_set o.leaves 0 v)

first_leaf : (vs : List Value) → slice_set vs 0 (slice_index_or vs 0 indeterminate) ≡ vs
first_leaf [] = refl
first_leaf (v ∷ vs) = refl

behind_one : (change : Object → Object) (o : Object) (os : List Object) (found : Option Object) (i : ℕ)
    → changed_at change (o ∷ os) found (suc i) ≡ o ∷ changed_at change os found i
behind_one change o os None i = refl
behind_one change o os (Some x) i = refl

in_list : (os : List Object) (i : ℕ) → changed_at (begun_with (leaf_of (slice_get os i) 0)) os (slice_get os i) i ≡ os
in_list [] i = refl
in_list (o ∷ os) zero = ap (λ leaves. with_leaves o leaves ∷ os) (first_leaf o.leaves)
in_list (o ∷ os) (suc i) =
    behind_one (begun_with (leaf_of (slice_get os i) 0)) o os (slice_get os i) i ∙ ap (λ os. o ∷ os) (in_list os i)

in_calls : (calls : List Activation) (c v : ℕ) (x : Value) → leaf_of (slice_get (variables_in calls c) v) 0 ≡ x
    → changed_calls (begun_with x) calls c v ≡ calls
in_calls [] c v x e = refl
in_calls (a ∷ calls) c v x e =
    elim (eqb_tells a.number c) [
      | inl w ↦
          (let here : leaf_of (slice_get a.variables v) 0 ≡ x = rw w.0 at e in
          rw w.0
          (ap (λ variables. (let b : Activation = record { number = a.number; variables = variables } in b) ∷ calls)
          (ap (λ x. changed_at (begun_with x) a.variables (slice_get a.variables v) v) (sym here) ∙ in_list a.variables v)))
      | inr w ↦
          (let here : leaf_of (slice_get (variables_in calls c) v) 0 ≡ x = rw w.0 at e in
          rw w.0 (ap (λ calls. a ∷ calls) (in_calls calls c v x here)))
    ]

in_blocks : (blocks : List HeapObject) (b : ℕ) (x : Value) → leaf_of (block_in blocks b) 0 ≡ x → changed_blocks (begun_with x) blocks b ≡ blocks
in_blocks [] b x e = refl
in_blocks (h ∷ blocks) b x e =
    elim (eqb_tells h.number b) [
      | inl w ↦
          (let here : leaf_of (Some h.object) 0 ≡ x = rw w.0 at e in
          rw w.0
          (ap (λ leaves. (let y : HeapObject = record { number = h.number; object = with_leaves h.object leaves } in y) ∷ blocks)
          (ap (λ x. slice_set h.object.leaves 0 x) (sym here) ∙ first_leaf h.object.leaves)))
      | inr w ↦
          (let here : leaf_of (block_in blocks b) 0 ≡ x = rw w.0 at e in
          rw w.0 (ap (λ blocks. h ∷ blocks) (in_blocks blocks b x here)))
    ]

pub same_leaf : (s : Store) (home : Home) → with_leaf_at s home 0 (leaf_at s home 0) ≡ s
same_leaf s (of_global g) = ap (λ globals. with_globals s globals) (in_list s.globals g)
same_leaf s (of_call c v) = ap (λ calls. with_calls s calls) (in_calls s.calls c v (leaf_at s (of_call c v) 0) refl)
same_leaf s (of_block b) = ap (λ blocks. with_blocks s blocks) (in_blocks s.blocks b (leaf_at s (of_block b) 0) refl)

-- a value as it is seen is the value itself, or is missing
by_sight : (b : Bool) (v : Value) → ((if b then v else indeterminate) ≡ v) ⊎ ((if b then v else indeterminate) ≡ indeterminate)
by_sight true v = inl refl
by_sight false v = inr refl

pub seen_or_not : (s : Store) (v : Value) → (seen s v ≡ v) ⊎ (seen s v ≡ indeterminate)
seen_or_not s (number z) = inl refl
seen_or_not s null = inl refl
seen_or_not s (pointer home leaf) = by_sight (is_some (object_at s home)) (pointer home leaf)
seen_or_not s (past home leaf until) = by_sight (is_some (object_at s home) && is_good until s.checkpoints) (past home leaf until)
seen_or_not s indeterminate = inl refl

-- seeing a value twice is seeing it once
pub seen_twice : (s : Store) (v : Value) → seen s (seen s v) ≡ seen s v
seen_twice s v =
    elim (seen_or_not s v) [
      | inl e ↦ ap (λ x. seen s x) e
      | inr e ↦ rw e refl
    ]
