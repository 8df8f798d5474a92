-- What changes a store changes the one with temporaries beside it alike.
use Rattle.std.proofs.Common.{◌≡◌, ◌<◌, ℕ, zero, suc, ℤ, pos, List, [], ◌∷◌, ◌++◌, length, refl, ap, ◌∙◌, inl, inr, arith, Option, Some, None}
use Rattle.std.proofs.lemmas.Bool.Decides.{eqb_tells}
use Rattle.std.specs.Prelude.{slice_get, slice_set, slice_index, replicate, if◌then◌else◌, ◌||◌, int_lt, Bool, true, false, Result, Ok, Err}
use Rattle.porch_types.specs.declared.shapes.Ty.{Ty}
use Rattle.porch_values.specs.declared.acts.Act.{Act}
use Rattle.porch_values.specs.declared.acts.Act.TheVariants as act
use Rattle.porch_objects.specs.Store.{Home, of_global, of_call, of_block, Value, number, null, pointer, past, indeterminate, Object, Activation, Store, with_calls, changed_at, changed_calls, changed, object_at, seen, with_leaves, left}
use Rattle.porch_objects.specs.Pointers.{if_there, used, if_place, leaves_from, spliced, store, copy, Allocation, allocate, MOST_COUNT, release_at, release}
use Rattle.porch_sound.specs.Typing.{Each}
use Rattle.porch_lowered.specs.Beside.{with_temporaries, beside, IsDeclared, IsGrounded, IsFrame, IsGroundedStore}
use Rattle.porch_lowered.specs.Laws.{store_beside, allocation_beside, ChangesAlike}
use Rattle.porch_lowered.proofs.ReadAlike.{front, object_alike, seen_alike, seen_grounded}

-- of a longer list the same element is changed
set_front : (xs ys : List Object) (i : ℕ) (x : Object) → i < length xs → slice_set (xs ++ ys) i x ≡ slice_set xs i x ++ ys
set_front [] ys i x h = absurd (omega arith)
set_front (y ∷ xs) ys zero x h = refl
set_front (y ∷ xs) ys (suc i) x h = ap (λ zs. y ∷ zs) (set_front xs ys i x (omega arith))

changed_front : (change : Object → Object) (xs ys : List Object) (found : Option Object) (i : ℕ) → i < length xs
    → changed_at change (xs ++ ys) found i ≡ changed_at change xs found i ++ ys
changed_front change xs ys None i h = refl
changed_front change xs ys (Some x) i h = set_front xs ys i (change x) h

module _ (declared : List ℕ) where
  in_calls : (change : Object → Object) (calls : List Activation) (t : List (List Object)) (c v : ℕ) → Each (λ a. IsFrame declared a) calls
      → v < slice_index declared c
      → changed_calls change (with_temporaries calls t) c v ≡ with_temporaries (changed_calls change calls c v) t
  in_calls change [] t c v h lt = refl
  in_calls change (a ∷ calls) [] c v h lt =
      elim (eqb_tells a.number c) [
        | inl w ↦ rw w.0 refl
        | inr w ↦ rw w.0 refl
      ]
  in_calls change (a ∷ calls) (t ∷ ts) c v h lt =
      elim (eqb_tells a.number c) [
        | inl w ↦ (let same = ap (λ k. slice_index declared k) w.1 in let count = h.0.variables in
            let within : v < length a.variables = omega (arith, lt, same, count) in
            rw (w.0, front a.variables t v within, changed_front change a.variables t (slice_get a.variables v) v within) refl)
        | inr w ↦ rw w.0 (ap (λ more. (let b : Activation = record { number = a.number; variables = a.variables ++ t } in b) ∷ more) (in_calls change calls ts c v h.1 lt))
      ]

  module _ (s : Store) (t : List (List Object)) (h : IsGroundedStore declared s) where
    pub changed_alike : (change : Object → Object) (home : Home) → IsDeclared declared home
        → changed change (beside s t) home ≡ beside (changed change s home) t
    changed_alike change (of_global g) d = refl
    changed_alike change (of_call c v) d = ap (λ calls. with_calls s calls) (in_calls change s.calls t c v h.calls d)
    changed_alike change (of_block b) d = refl

    -- what follows the use of a value
    there_beside : (v : Value) (go went : Value → Result Store Act) → go v ≡ store_beside t (went v)
        → if_there v go ≡ store_beside t (if_there v went)
    there_beside (number z) go went e = e
    there_beside null go went e = e
    there_beside (pointer home leaf) go went e = e
    there_beside (past home leaf until) go went e = e
    there_beside indeterminate go went e = refl

    used_beside : (v : Value) (go went : Value → Result Store Act) → IsGrounded declared v
        → (IsGrounded declared (seen s v) → go (seen s v) ≡ store_beside t (went (seen s v)))
        → used (beside s t) v go ≡ store_beside t (used s v went)
    used_beside v go went d e =
        ap (λ x. if_there x go) (seen_alike declared s t h v d) ∙ there_beside (seen s v) go went (e (seen_grounded declared s v d))

    place_beside : (p : Value) (go went : Home → ℕ → Result Store Act) → IsGrounded declared p
        → ((home : Home) (leaf : ℕ) → IsDeclared declared home → go home leaf ≡ store_beside t (went home leaf))
        → if_place p go ≡ store_beside t (if_place p went)
    place_beside (number z) go went d e = refl
    place_beside null go went d e = refl
    place_beside (pointer home leaf) go went d e = e home leaf d
    place_beside (past home leaf until) go went d e = refl
    place_beside indeterminate go went d e = refl

    store_alike : (p v : Value) → IsGrounded declared p → IsGrounded declared v → store (beside s t) p v ≡ store_beside t (store s p v)
    store_alike p v d e =
        used_beside p _ _ d (λ g. used_beside v _ _ e (λ f.
        place_beside (seen s p) _ _ g (λ home leaf i.
        ap (λ to. Ok to) (changed_alike (λ object. with_leaves object (slice_set object.leaves leaf (seen s v))) home i))))

    copy_alike : (count : ℕ) (p q : Value) → IsGrounded declared p → IsGrounded declared q
        → copy count (beside s t) p q ≡ store_beside t (copy count s p q)
    copy_alike count p q d e =
        used_beside p _ _ d (λ g. used_beside q _ _ e (λ f.
        place_beside (seen s p) _ _ g (λ home leaf i.
        place_beside (seen s q) _ _ f (λ other first j.
        ap
        (λ found.
        let r : Result Store Act = Ok (changed (λ object. with_leaves object (spliced object.leaves leaf (leaves_from found first count))) (beside s t) home) in r)
        (object_alike declared s t h other j)
        ∙ ap (λ to. Ok to)
        (changed_alike (λ object. with_leaves object (spliced object.leaves leaf (leaves_from (object_at s other) first count))) home i)))))

    release_at_alike : (p : Value) → release_at (beside s t) p ≡ store_beside t (release_at s p)
    release_at_alike (number z) = refl
    release_at_alike null = refl
    release_at_alike (pointer (of_global g) leaf) = refl
    release_at_alike (pointer (of_call c v) leaf) = refl
    release_at_alike (pointer (of_block b) zero) = refl
    release_at_alike (pointer (of_block b) (suc leaf)) = refl
    release_at_alike (past home leaf until) = refl
    release_at_alike indeterminate = refl

    release_alike : (p : Value) → IsGrounded declared p → release (beside s t) p ≡ store_beside t (release s p)
    release_alike p d = used_beside p _ _ d (λ g. release_at_alike (seen s p))

    where_made : (bad : Bool) (made : Allocation)
        → (if bad then Err act.Count else Ok (record { address = made.address; store = beside made.store t }))
        ≡ allocation_beside t (if bad then Err act.Count else Ok made)
    where_made true made = refl
    where_made false made = refl

    allocate_alike : (types : List Ty) (ty : ℕ) (zeros : Bool) (count : ℤ)
        → allocate types ty zeros count (beside s t) ≡ allocation_beside t (allocate types ty zeros count s)
    allocate_alike types ty zeros count = where_made (int_lt count (pos 1) || int_lt (pos MOST_COUNT) count) _

    left_alike : (calls : List Activation) (more : List Object)
        → left (beside (with_calls s calls) (more ∷ t)) ≡ beside (left (with_calls s calls)) t
    left_alike [] more = refl
    left_alike (a ∷ calls) more = refl

-- all that changes
pub changes : (types : List Ty) (declared : List ℕ) (s : Store) (t : List (List Object)) → IsGroundedStore declared s → ChangesAlike types declared s t
changes types declared s t h =
    record {
      stored = store_alike declared s t h;
      copied = copy_alike declared s t h;
      allocated = allocate_alike declared s t h types;
      released = release_alike declared s t h;
      forgets = λ home d. changed_alike declared s t h (λ object. with_leaves object (replicate (length object.leaves) indeterminate)) home d;
      reaches = refl;
      enters = λ variables more. refl;
      leaves = left_alike declared s t h s.calls;
    }
