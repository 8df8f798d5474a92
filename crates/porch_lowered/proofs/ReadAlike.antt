-- What is read of a store is read of the one with temporaries beside it.
use Rattle.std.proofs.Common.{◌≡◌, ◌<◌, ℕ, zero, suc, ◌+◌, ◌-◌, ◌*◌, ◌/◌, ◌+ℤ◌, ℤ, pos, negsuc, List, [], ◌∷◌, ◌++◌, length, refl, ap, ◌∙◌, inl, inr, arith, Option, Some, None}
use Rattle.std.proofs.lemmas.Bool.Decides.{eqb_tells}
use Rattle.std.specs.Prelude.{⊤, slice_get, slice_index, slice_index_or, is_some, if◌then◌else◌, ◌&&◌, nat_eq, nat_lt, Bool, true, false, Result, Ok, Err}
use Rattle.std.specs.Option.{option_map}
use Rattle.porch_types.specs.declared.parts.Row.{Row}
use Rattle.porch_types.specs.declared.shapes.Ty.{Ty}
use Rattle.porch_types.specs.Leaves.{leaves_of}
use Rattle.porch_values.specs.declared.acts.Act.{Act}
use Rattle.porch_values.specs.declared.acts.Act.TheVariants as act
use Rattle.porch_objects.specs.Store.{Home, of_global, of_call, of_block, Value, number, null, pointer, past, indeterminate, Object, Activation, HeapObject, Store, variables_in, block_in, object_at, is_good, seen, leaf_of, leaf_at}
use Rattle.porch_objects.specs.Meaning.{byte_of}
use Rattle.porch_objects.specs.Pointers.{if_there, used, if_number, if_place, load, member, Position, row_in, position_at, position_of, is_shared, element_from, step_from, step, difference, equality, with_byte, text_from, text_in, text}
use Rattle.porch_sound.specs.Typing.{Each}
use Rattle.porch_lowered.specs.Beside.{with_temporaries, beside, IsDeclared, IsGrounded, HoldsGrounded, IsFrame, IsGroundedStore}
use Rattle.porch_lowered.specs.Laws.{ReadsAlike}

-- of a longer list the same element
pub front : (xs ys : List Object) (i : ℕ) → i < length xs → slice_get (xs ++ ys) i ≡ slice_get xs i
front [] ys i h = absurd (omega arith)
front (x ∷ xs) ys zero h = refl
front (x ∷ xs) ys (suc i) h = front xs ys i (omega arith)

-- what holds of each element holds of the one that is found
abbrev pub OnSome : {A : Type 0} → (A → Type 0) → Option A → Type 0
OnSome P None = ⊤
OnSome P (Some x) = P x

pub found_in : {A : Type 0} (P : A → Type 0) (xs : List A) (i : ℕ) → Each P xs → OnSome P (slice_get xs i)
found_in P [] i h = tt
found_in P (x ∷ xs) zero h = h.0
found_in P (x ∷ xs) (suc i) h = found_in P xs i h.1

index_in : (declared : List ℕ) (vs : List Value) (i : ℕ) → Each (λ v. IsGrounded declared v) vs → IsGrounded declared (slice_index_or vs i indeterminate)
index_in declared [] i h = tt
index_in declared (v ∷ vs) zero h = h.0
index_in declared (v ∷ vs) (suc i) h = index_in declared vs i h.1

module _ (declared : List ℕ) where
  abbrev Holds : Object → Type 0
  Holds object = HoldsGrounded declared object

  variables_hold : (calls : List Activation) (c : ℕ) → Each (λ a. IsFrame declared a) calls → Each (λ object. Holds object) (variables_in calls c)
  variables_hold [] c h = tt
  variables_hold (a ∷ calls) c h =
      elim (eqb_tells a.number c) [
        | inl w ↦ rw w.0 h.0.values
        | inr w ↦ rw w.0 (variables_hold calls c h.1)
      ]

  blocks_hold : (blocks : List HeapObject) (b : ℕ) → Each (λ (x : HeapObject). Holds x.object) blocks → OnSome (λ object. Holds object) (block_in blocks b)
  blocks_hold [] b h = tt
  blocks_hold (x ∷ blocks) b h =
      elim (eqb_tells x.number b) [
        | inl w ↦ rw w.0 h.0
        | inr w ↦ rw w.0 (blocks_hold blocks b h.1)
      ]

  pub object_holds : (s : Store) → IsGroundedStore declared s → (home : Home) → OnSome (λ object. Holds object) (object_at s home)
  object_holds s h (of_global g) = found_in (λ object. Holds object) s.globals g h.globals
  object_holds s h (of_call c v) = found_in (λ object. Holds object) (variables_in s.calls c) v (variables_hold s.calls c h.calls)
  object_holds s h (of_block b) = blocks_hold s.blocks b h.blocks

  leaf_holds : (found : Option Object) (leaf : ℕ) → OnSome (λ object. Holds object) found → IsGrounded declared (leaf_of found leaf)
  leaf_holds None leaf h = tt
  leaf_holds (Some object) leaf h = index_in declared object.leaves leaf h

  pub leaf_grounded : (s : Store) → IsGroundedStore declared s → (home : Home) (leaf : ℕ) → IsGrounded declared (leaf_at s home leaf)
  leaf_grounded s h home leaf = leaf_holds (object_at s home) leaf (object_holds s h home)

  -- a value as it is seen points to no temporary either
  by_sight : (b : Bool) (v : Value) → IsGrounded declared v → IsGrounded declared (if b then v else indeterminate)
  by_sight true v h = h
  by_sight false v h = tt

  pub seen_grounded : (s : Store) (v : Value) → IsGrounded declared v → IsGrounded declared (seen s v)
  seen_grounded s (number z) h = tt
  seen_grounded s null h = tt
  seen_grounded s (pointer home leaf) h = by_sight (is_some (object_at s home)) (pointer home leaf) h
  seen_grounded s (past home leaf until) h =
      by_sight (is_some (object_at s home) && is_good until s.checkpoints) (past home leaf until) h
  seen_grounded s indeterminate h = tt

  -- a variable of a call
  in_call : (calls : List Activation) (t : List (List Object)) (c v : ℕ) → Each (λ a. IsFrame declared a) calls → v < slice_index declared c
      → slice_get (variables_in (with_temporaries calls t) c) v ≡ slice_get (variables_in calls c) v
  in_call [] t c v h lt = refl
  in_call (a ∷ calls) [] c v h lt = refl
  in_call (a ∷ calls) (t ∷ ts) c v h lt =
      elim (eqb_tells a.number c) [
        | inl w ↦ (let same = ap (λ k. slice_index declared k) w.1 in let count = h.0.variables in
            rw w.0 (front a.variables t v (omega (arith, lt, same, count))))
        | inr w ↦ rw w.0 (in_call calls ts c v h.1 lt)
      ]

  module _ (s : Store) (t : List (List Object)) (h : IsGroundedStore declared s) where
    pub object_alike : (home : Home) → IsDeclared declared home → object_at (beside s t) home ≡ object_at s home
    object_alike (of_global g) d = refl
    object_alike (of_call c v) d = in_call s.calls t c v h.calls d
    object_alike (of_block b) d = refl

    pub leaf_alike : (home : Home) (leaf : ℕ) → IsDeclared declared home → leaf_at (beside s t) home leaf ≡ leaf_at s home leaf
    leaf_alike home leaf d = ap (λ found. leaf_of found leaf) (object_alike home d)

    pub seen_alike : (v : Value) → IsGrounded declared v → seen (beside s t) v ≡ seen s v
    seen_alike (number z) d = refl
    seen_alike null d = refl
    seen_alike (pointer home leaf) d = ap (λ found. if is_some found then pointer home leaf else indeterminate) (object_alike home d)
    seen_alike (past home leaf until) d =
        ap (λ found. if is_some found && is_good until s.checkpoints then past home leaf until else indeterminate) (object_alike home d)
    seen_alike indeterminate d = refl

    -- what follows the use of a value
    there_alike : {A : Type 0} (v : Value) (go went : Value → Result A Act) → go v ≡ went v → if_there v go ≡ if_there v went
    there_alike (number z) go went e = e
    there_alike null go went e = e
    there_alike (pointer home leaf) go went e = e
    there_alike (past home leaf until) go went e = e
    there_alike indeterminate go went e = refl

    pub used_alike : {A : Type 0} (v : Value) (go went : Value → Result A Act) → IsGrounded declared v
        → (IsGrounded declared (seen s v) → go (seen s v) ≡ went (seen s v)) → used (beside s t) v go ≡ used s v went
    used_alike v go went d e =
        ap (λ x. if_there x go) (seen_alike v d) ∙ there_alike (seen s v) go went (e (seen_grounded s v d))

    read_alike : (p : Value) → IsGrounded declared p
        → if_place p (λ home leaf. used (beside s t) (leaf_at (beside s t) home leaf) (λ v. let r : Result Value Act = Ok v in r))
        ≡ if_place p (λ home leaf. used s (leaf_at s home leaf) (λ v. Ok v))
    read_alike (number z) d = refl
    read_alike null d = refl
    read_alike (pointer home leaf) d =
        ap (λ v. used (beside s t) v (λ v. let r : Result Value Act = Ok v in r)) (leaf_alike home leaf d)
        ∙ used_alike (leaf_at s home leaf) _ _ (leaf_grounded s h home leaf) (λ _. refl)
    read_alike (past home leaf until) d = refl
    read_alike indeterminate d = refl

    pub load_alike : (p : Value) → IsGrounded declared p → load (beside s t) p ≡ load s p
    load_alike p d = used_alike p _ _ d (λ g. read_alike (seen s p) g)

    pub member_alike : (p : Value) (leaf : ℕ) → IsGrounded declared p → member (beside s t) p leaf ≡ member s p leaf
    member_alike p leaf d = used_alike p _ _ d (λ g. refl)

    module _ (types : List Ty) (pointee : ℕ) where
      -- the place in a row, where there is one
      abbrev standing : Home → (Row → ℕ) → Option Row → Option Position
      standing home index found =
          option_map (λ (row : Row). let p : Position = record { home = home; row = row; index = index row } in p) found

      -- the index of the element that begins at a leaf, and so many more
      abbrev index_at : (leaf more : ℕ) → Row → ℕ
      index_at leaf more row = (leaf - row.first) / leaves_of types pointee + more

      standing_alike : (home : Home) (leaf more : ℕ) → IsDeclared declared home
          → position_at types pointee (beside s t) home leaf more
          ≡ standing home (index_at leaf more) (row_in types pointee (object_at s home) leaf)
      standing_alike home leaf more d =
          ap (λ found. standing home (index_at leaf more) (row_in types pointee found leaf)) (object_alike home d)

      position_alike : (p : Value) → IsGrounded declared p → position_of types pointee (beside s t) p ≡ position_of types pointee s p
      position_alike (number z) d = refl
      position_alike null d = refl
      position_alike (pointer home leaf) d = standing_alike home leaf 0 d
      position_alike (past home leaf until) d = standing_alike home leaf 1 d
      position_alike indeterminate d = refl

      element_alike : (home : Home) (row : Row) (z : ℤ) → IsDeclared declared home
          → element_from types pointee (beside s t) home row z ≡ element_from types pointee s home row z
      element_alike home row (pos index) d =
          ap
          (λ found.
          if nat_lt index row.len
          then Ok (pointer home (row.first + index * leaves_of types pointee))
          else (if nat_eq index row.len
          then Ok (past home (row.first + (index - 1) * leaves_of types pointee)
          (if is_shared types pointee found (row.first + (index - 1) * leaves_of types pointee) then Some s.checkpoints else None))
          else Err act.Row))
          (object_alike home d)
      element_alike home row (negsuc n) d = refl

      from_standing : (home : Home) (index : Row → ℕ) (found : Option Row) (z : ℤ) → IsDeclared declared home
          → step_from types pointee (beside s t) (standing home index found) z ≡ step_from types pointee s (standing home index found) z
      from_standing home index None z d = refl
      from_standing home index (Some row) z d = element_alike home row (pos (index row) +ℤ z) d

      from_alike : (p : Value) (z : ℤ) → IsGrounded declared p
          → step_from types pointee (beside s t) (position_of types pointee (beside s t) p) z
          ≡ step_from types pointee s (position_of types pointee s p) z
      from_alike (number x) z d = refl
      from_alike null z d = refl
      from_alike (pointer home leaf) z d =
          ap (λ p. step_from types pointee (beside s t) p z) (standing_alike home leaf 0 d)
          ∙ from_standing home (index_at leaf 0) (row_in types pointee (object_at s home) leaf) z d
      from_alike (past home leaf until) z d =
          ap (λ p. step_from types pointee (beside s t) p z) (standing_alike home leaf 1 d)
          ∙ from_standing home (index_at leaf 1) (row_in types pointee (object_at s home) leaf) z d
      from_alike indeterminate z d = refl

      pub step_alike : (p : Value) (z : ℤ) → IsGrounded declared p → step types pointee (beside s t) p z ≡ step types pointee s p z
      step_alike p z d = used_alike p _ _ d (λ g. from_alike (seen s p) z g)

      pub difference_alike : (p q : Value) → IsGrounded declared p → IsGrounded declared q
          → difference types pointee (beside s t) p q ≡ difference types pointee s p q
      difference_alike p q d e =
          used_alike p _ _ d (λ g.
          used_alike q _ _ e (λ f. rw (position_alike (seen s p) g, position_alike (seen s q) f) refl))

      pub equality_alike : (p q : Value) → IsGrounded declared p → IsGrounded declared q
          → equality types pointee (beside s t) p q ≡ equality types pointee s p q
      equality_alike p q d e = used_alike p _ _ d (λ g. used_alike q _ _ e (λ f. refl))

      -- a byte, and those behind it
      abbrev after_byte : Value → Result (List ℕ) Act → Result (List ℕ) Act
      after_byte v r = if_number v (λ z. if nat_eq (byte_of z) 0 then Ok [] else with_byte types pointee (byte_of z) r)

      text_from_alike : (home : Home) (leaf more : ℕ) → IsDeclared declared home
          → text_from types pointee (beside s t) home leaf more ≡ text_from types pointee s home leaf more
      text_from_alike home leaf zero d = refl
      text_from_alike home leaf (suc more) d =
          ap (λ v. used (beside s t) v (λ v. after_byte v (text_from types pointee (beside s t) home (leaf + 1) more))) (leaf_alike home leaf d)
          ∙ used_alike (leaf_at s home leaf) _ _ (leaf_grounded s h home leaf) (λ g.
          ap (λ r. after_byte (seen s (leaf_at s home leaf)) r) (text_from_alike home (leaf + 1) more d))

      in_standing : (home : Home) (index : Row → ℕ) (found : Option Row) → IsDeclared declared home
          → text_in types pointee (beside s t) (standing home index found) ≡ text_in types pointee s (standing home index found)
      in_standing home index None d = refl
      in_standing home index (Some row) d = text_from_alike home (row.first + index row) (row.len - index row) d

      text_in_alike : (p : Value) → IsGrounded declared p
          → text_in types pointee (beside s t) (position_of types pointee (beside s t) p) ≡ text_in types pointee s (position_of types pointee s p)
      text_in_alike (number x) d = refl
      text_in_alike null d = refl
      text_in_alike (pointer home leaf) d =
          ap (λ p. text_in types pointee (beside s t) p) (standing_alike home leaf 0 d)
          ∙ in_standing home (index_at leaf 0) (row_in types pointee (object_at s home) leaf) d
      text_in_alike (past home leaf until) d =
          ap (λ p. text_in types pointee (beside s t) p) (standing_alike home leaf 1 d)
          ∙ in_standing home (index_at leaf 1) (row_in types pointee (object_at s home) leaf) d
      text_in_alike indeterminate d = refl

      pub text_alike : (p : Value) → IsGrounded declared p → text types pointee (beside s t) p ≡ text types pointee s p
      text_alike p d = used_alike p _ _ d (λ g. text_in_alike (seen s p) g)

-- all that is read
pub reads : (types : List Ty) (declared : List ℕ) (s : Store) (t : List (List Object)) → IsGroundedStore declared s → ReadsAlike types declared s t
reads types declared s t h =
    record {
      objects = object_alike declared s t h;
      leaves = leaf_alike declared s t h;
      values = seen_alike declared s t h;
      loaded = load_alike declared s t h;
      members = member_alike declared s t h;
      steps = step_alike declared s t h types;
      differences = difference_alike declared s t h types;
      equalities = equality_alike declared s t h types;
      texts = text_alike declared s t h types;
    }
