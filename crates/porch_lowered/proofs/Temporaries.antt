-- The temporaries of the call that runs: what is read of them and written to them.
use Rattle.std.proofs.Common.{◌≡◌, ◌≢◌, ◌<◌, ℕ, zero, suc, ◌+◌, List, [], ◌∷◌, ◌++◌, length, refl, sym, ap, ◌∙◌, inl, inr, arith, Option, Some, None}
use Rattle.std.proofs.lemmas.Bool.Decides.{eqb_tells}
use Rattle.std.specs.Prelude.{slice_get, slice_set, nat_eq, true}
use Rattle.porch_objects.specs.Store.{of_call, Value, Object, Activation, Store, with_calls, variables_in, changed_at, changed_calls, leaf_of, leaf_at, with_leaves, with_leaf_at, innermost, innermost_in}
use Rattle.porch_lowered.specs.Beside.{with_temporaries, beside}

-- behind a list
get_behind : (xs ys : List Object) (i j : ℕ) → j ≡ length xs + i → slice_get (xs ++ ys) j ≡ slice_get ys i
get_behind [] ys i j h = (let e : j ≡ i = omega (arith, h) in ap (λ k. slice_get ys k) e)
get_behind (x ∷ xs) ys i zero h = absurd (omega (arith, h))
get_behind (x ∷ xs) ys i (suc j) h = get_behind xs ys i j (omega (arith, h))

set_behind : (xs ys : List Object) (i j : ℕ) (o : Object) → j ≡ length xs + i → slice_set (xs ++ ys) j o ≡ xs ++ slice_set ys i o
set_behind [] ys i j o h = (let e : j ≡ i = omega (arith, h) in ap (λ k. slice_set ys k o) e)
set_behind (x ∷ xs) ys i zero o h = absurd (omega (arith, h))
set_behind (x ∷ xs) ys i (suc j) o h = ap (λ zs. x ∷ zs) (set_behind xs ys i j o (omega (arith, h)))

changed_behind : (change : Object → Object) (xs ys : List Object) (found : Option Object) (i j : ℕ) → j ≡ length xs + i
    → changed_at change (xs ++ ys) found j ≡ xs ++ changed_at change ys found i
changed_behind change xs ys None i j h = refl
changed_behind change xs ys (Some o) i j h = set_behind xs ys i j (change o) h

pub same_number : (k : ℕ) → nat_eq k k ≡ true
same_number k =
    elim (eqb_tells k k) [
      | inl w ↦ w.0
      | inr w ↦ absurd (w.1 refl)
    ]

-- the call that runs, and its callers
pub record IsInside (call : ℕ) (s : Store) : Type 0 where
  pub variables : List Object
  pub callers : List Activation
  pub here : s.calls ≡ (let a : Activation = record { number = call; variables = variables } in a ∷ callers)

-- the temporaries with a change to number i
abbrev pub with_temporary : List Object → ℕ → Value → List Object
with_temporary ts i v = changed_at (λ o. with_leaves o (slice_set o.leaves 0 v)) ts (slice_get ts i) i

abbrev pub temporary : List Object → ℕ → Value
temporary ts i = leaf_of (slice_get ts i) 0

inside_innermost : (calls : List Activation) (t : List (List Object)) (called : ℕ)
    → innermost_in (with_temporaries calls t) called ≡ innermost_in calls called
inside_innermost [] t called = refl
inside_innermost (a ∷ calls) [] called = refl
inside_innermost (a ∷ calls) (t ∷ ts) called = refl

module _ (call : ℕ) (s : Store) (inside : IsInside call s) where
  pub innermost_is : (t : List (List Object)) → innermost (beside s t) ≡ call
  innermost_is t = inside_innermost s.calls t s.called ∙ ap (λ calls. innermost_in calls s.called) inside.here

  module _ (ts : List Object) (more : List (List Object)) (i : ℕ) where
    -- the number of the variable that is temporary i
    abbrev pub variable_at : ℕ
    variable_at = length inside.variables + i

    pub temporary_read : leaf_at (beside s (ts ∷ more)) (of_call call variable_at) 0 ≡ temporary ts i
    temporary_read =
        ap (λ calls. leaf_of (slice_get (variables_in (with_temporaries calls (ts ∷ more)) call) variable_at) 0) inside.here
        ∙ rw (same_number call) (ap (λ found. leaf_of found 0) (get_behind inside.variables ts i variable_at refl))

    changed_calls_here : (change : Object → Object)
        → changed_calls change (with_temporaries s.calls (ts ∷ more)) call variable_at
        ≡ with_temporaries s.calls (changed_at change ts (slice_get ts i) i ∷ more)
    changed_calls_here change =
        ap (λ calls. changed_calls change (with_temporaries calls (ts ∷ more)) call variable_at) inside.here
        ∙ rw (same_number call)
        (rw (get_behind inside.variables ts i variable_at refl, changed_behind change inside.variables ts (slice_get ts i) i variable_at refl) refl)
        ∙ sym (ap (λ calls. with_temporaries calls (changed_at change ts (slice_get ts i) i ∷ more)) inside.here)

    pub temporary_written : (v : Value)
        → with_leaf_at (beside s (ts ∷ more)) (of_call call variable_at) 0 v ≡ beside s (with_temporary ts i v ∷ more)
    temporary_written v = ap (λ calls. with_calls s calls) (changed_calls_here (λ o. with_leaves o (slice_set o.leaves 0 v)))

-- a temporary that was written, and the others
set_same : (ts : List Object) (i : ℕ) (o : Object) → i < length ts → slice_get (slice_set ts i o) i ≡ Some o
set_same [] i o h = absurd (omega arith)
set_same (x ∷ ts) zero o h = refl
set_same (x ∷ ts) (suc i) o h = set_same ts i o (omega arith)

set_other : (ts : List Object) (i j : ℕ) (o : Object) → j ≢ i → slice_get (slice_set ts i o) j ≡ slice_get ts j
set_other [] i j o ne = refl
set_other (x ∷ ts) zero zero o ne = absurd (ne refl)
set_other (x ∷ ts) zero (suc j) o ne = refl
set_other (x ∷ ts) (suc i) zero o ne = refl
set_other (x ∷ ts) (suc i) (suc j) o ne = set_other ts i j o (λ e. ne (ap suc e))

changed_other : (change : Object → Object) (ts : List Object) (found : Option Object) (i j : ℕ) → j ≢ i
    → slice_get (changed_at change ts found i) j ≡ slice_get ts j
changed_other change ts None i j ne = refl
changed_other change ts (Some o) i j ne = set_other ts i j (change o) ne

pub other_temporary : (ts : List Object) (i j : ℕ) (v : Value) → j ≢ i → temporary (with_temporary ts i v) j ≡ temporary ts j
other_temporary ts i j v ne =
    ap (λ found. leaf_of found 0) (changed_other (λ o. with_leaves o (slice_set o.leaves 0 v)) ts (slice_get ts i) i j ne)

-- a temporary is there and has one leaf
pub record IsTemporary (ts : List Object) (i : ℕ) : Type 0 where
  pub object : Object
  pub there : slice_get ts i ≡ Some object
  pub value : Value
  pub leaf : object.leaves ≡ value ∷ []

within : (ts : List Object) (i : ℕ) (o : Object) → slice_get ts i ≡ Some o → i < length ts
within [] i o h = cc
within (x ∷ ts) zero o h = omega arith
within (x ∷ ts) (suc i) o h = (let less = within ts i o h in omega (arith, less))

pub same_temporary : (ts : List Object) (i : ℕ) (v : Value) → IsTemporary ts i → temporary (with_temporary ts i v) i ≡ v
same_temporary ts i v x =
    ap (λ found. leaf_of (slice_get (changed_at (λ o. with_leaves o (slice_set o.leaves 0 v)) ts found i) i) 0) x.there
    ∙ ap (λ found. leaf_of found 0) (set_same ts i (with_leaves x.object (slice_set x.object.leaves 0 v)) (within ts i x.object x.there))
    ∙ ap (λ leaves. leaf_of (Some (with_leaves x.object (slice_set leaves 0 v))) 0) x.leaf

-- temporaries stay so when one is written
pub still_temporary : (ts : List Object) (i j : ℕ) (v : Value) → IsTemporary ts j → IsTemporary (with_temporary ts i v) j
still_temporary ts i j v x =
    elim (eqb_tells j i) [
      | inl w ↦ (let e : i ≡ j = sym w.1 in rw e (record {
        object = with_leaves x.object (slice_set x.object.leaves 0 v);
        there =
            ap (λ found. slice_get (changed_at (λ o. with_leaves o (slice_set o.leaves 0 v)) ts found j) j) x.there
            ∙ set_same ts j (with_leaves x.object (slice_set x.object.leaves 0 v)) (within ts j x.object x.there);
        value = v;
        leaf = ap (λ leaves. slice_set leaves 0 v) x.leaf;
      }))
      | inr w ↦ record {
        object = x.object;
        there = changed_other (λ o. with_leaves o (slice_set o.leaves 0 v)) ts (slice_get ts i) i j w.1 ∙ x.there;
        value = x.value;
        leaf = x.leaf;
      }
    ]
