-- What changes a typed store keeps it typed.
use Rattle.std.proofs.Common.{◌≡◌, ◌<◌, ◌≤◌, ℕ, zero, suc, ◌+◌, ◌-◌, ℤ, pos, negsuc, List, [], ◌∷◌, ◌++◌, length, take, drop, refl, sym, ap, subst, ◌∙◌, ◌⊎◌, inl, inr, arith, append-nil, length-append, Option, Some, None}
use Rattle.std.proofs.lemmas.Bool.Decides.{eqb_tells}
use Rattle.std.proofs.lemmas.Int.{ints}
use Rattle.std.proofs.lemmas.List.{length-take-le, length-drop}
use Rattle.std.specs.Prelude.{slice_get, slice_set, slice_index_or, replicate, unsigned_abs, int_lt, if◌then◌else◌, ◌||◌, Bool, true, false, Ok, Err}
use Rattle.porch_types.specs.declared.shapes.Ty.{Ty}
use Rattle.porch_types.specs.declared.shapes.Ty.TheVariants.{Pointer}
use Rattle.porch_types.specs.Leaves.{leaves_of}
use Rattle.porch_types.specs.LeafTypes.{IsScalar, leaf_type}
use Rattle.porch_types.specs.Rows.{elements_of_root}
use Rattle.porch_values.specs.declared.acts.Act.TheVariants as act
use Rattle.porch_values.specs.declared.widths.Widths.{Widths}
use Rattle.porch_objects.specs.Store.{Home, of_global, of_call, of_block, Value, number, null, pointer, past, indeterminate, Root, Object, Activation, HeapObject, Store, variables_in, block_in, object_at, seen, with_leaves, with_calls, changed_at, changed_calls, changed_blocks, changed, entered, left}
use Rattle.porch_objects.specs.Pointers.{with_block as with_new_block}
use Rattle.porch_objects.specs.Pointers.{MOST_COUNT, store, copy, leaves_from, spliced, block_of, without_block, release_at}
use Rattle.porch_sound.specs.Typing.{Each, StoreTyping, Adds, Points, IsValueOf, IsTypedObject, AreTyped, IsTypedCall, IsTypedBlock, IsTypedStore}
use Rattle.porch_sound.specs.Laws.{Gives, with_call, with_block, IsMade, KeepsTypes}
use Rattle.porch_sound.proofs.Lawful.{AreLawful}
use Rattle.porch_sound.proofs.Objects.{leaf_typed, forgotten_typed, block_typed, set_typed}
use Rattle.porch_sound.proofs.Found.{there_gives, place_gives, alive, seen_typed, in_object, load_typed, member_typed}
use Rattle.porch_sound.proofs.Steps.{step_typed, difference_typed}
use Rattle.porch_sound.proofs.Later.{get_last, index_last, calls_later, blocks_later, objects_later}

-- values at an index of what is put together
front_index : (xs ys : List Value) (i : ℕ) (P : Value → Type 0) → i < length xs → P (slice_index_or xs i indeterminate) → P (slice_index_or (xs ++ ys) i indeterminate)
front_index [] ys i P less h = absurd (omega arith)
front_index (x ∷ xs) ys zero P less h = h
front_index (x ∷ xs) ys (suc i) P less h = front_index xs ys i P (omega arith) h

back_index : (xs ys : List Value) (i j : ℕ) (P : Value → Type 0) → i ≡ length xs + j → P (slice_index_or ys j indeterminate) → P (slice_index_or (xs ++ ys) i indeterminate)
back_index [] ys i j P e h = (let same : j ≡ i = omega (arith, e) in subst (λ k. P (slice_index_or ys k indeterminate)) same h)
back_index (x ∷ xs) ys zero j P e h = absurd (omega (arith, e))
back_index (x ∷ xs) ys (suc i) j P e h = back_index xs ys i j P (omega (arith, e)) h

take_index : (n : ℕ) (xs : List Value) (i : ℕ) (P : Value → Type 0) → P indeterminate → (i < n → P (slice_index_or xs i indeterminate)) → P (slice_index_or (take n xs) i indeterminate)
take_index zero xs i P none h = none
take_index (suc n) [] i P none h = none
take_index (suc n) (x ∷ xs) zero P none h = h (omega arith)
take_index (suc n) (x ∷ xs) (suc i) P none h = take_index n xs i P none (λ l. h (omega (arith, l)))

drop_index : (n : ℕ) (xs : List Value) (i j : ℕ) (P : Value → Type 0) → j ≡ n + i → P (slice_index_or xs j indeterminate) → P (slice_index_or (drop n xs) i indeterminate)
drop_index zero xs i j P e h = (let same : j ≡ i = omega (arith, e) in subst (λ k. P (slice_index_or xs k indeterminate)) same h)
drop_index (suc n) [] i j P e h = h
drop_index (suc n) (x ∷ xs) i zero P e h = absurd (omega (arith, e))
drop_index (suc n) (x ∷ xs) i (suc j) P e h = drop_index n xs i j P (omega (arith, e)) h

module _ (types : List Ty) (widths : Widths) (made : StoreTyping) where
  abbrev V : ℕ → Value → Type 0
  V ty v = IsValueOf types widths made ty v

  abbrev T : Object → Type 0
  T o = IsTypedObject types widths made o

  -- A change of an object that keeps its root and keeps it typed.
  abbrev Keeps : (Object → Object) → Object → Type 0
  Keeps change o = ((change o).root ≡ o.root) × T (change o)

  at_typed : (change : Object → Object) (tys : List ℕ) (os : List Object) (i : ℕ) (found : Option Object) → slice_get os i ≡ found
      → ((o : Object) → slice_get os i ≡ Some o → Keeps change o) → AreTyped types widths made tys os
      → AreTyped types widths made tys (changed_at change os found i)
  at_typed change tys os i None e keeps h = h
  at_typed change tys os i (Some o) e keeps h =
      (let k = keeps o e in set_typed types widths made tys os i o (change o) h e k.0 k.1)

  calls_typed : (change : Object → Object) (calls : List Activation) (c v : ℕ) → ((o : Object) → slice_get (variables_in calls c) v ≡ Some o → Keeps change o)
      → Each (λ a. IsTypedCall types widths made a) calls → Each (λ a. IsTypedCall types widths made a) (changed_calls change calls c v)
  calls_typed change [] c v keeps h = tt
  calls_typed change (a ∷ calls) c v keeps h =
      elim (eqb_tells a.number c) [
        | inl w ↦ (let k : (o : Object) → slice_get a.variables v ≡ Some o → Keeps change o = rw w.0 at keeps in rw w.0 (
          record {
            made_before = h.0.made_before;
            variables = at_typed change (slice_index_or made.calls a.number []) a.variables v (slice_get a.variables v) refl k h.0.variables;
          },
          h.1,
        ))
        | inr w ↦ (let k : (o : Object) → slice_get (variables_in calls c) v ≡ Some o → Keeps change o = rw w.0 at keeps in
            rw w.0 (h.0, calls_typed change calls c v k h.1))
      ]

  blocks_typed : (change : Object → Object) (blocks : List HeapObject) (b : ℕ) → ((o : Object) → block_in blocks b ≡ Some o → Keeps change o)
      → Each (λ x. IsTypedBlock types widths made x) blocks → Each (λ x. IsTypedBlock types widths made x) (changed_blocks change blocks b)
  blocks_typed change [] b keeps h = tt
  blocks_typed change (x ∷ blocks) b keeps h =
      elim (eqb_tells x.number b) [
        | inl w ↦ (let k : (o : Object) → Some x.object ≡ Some o → Keeps change o = rw w.0 at keeps in rw w.0 (
          record { root = h.0.root ∙ ap (λ (r : Root). Some r) (sym (k x.object refl).0); object = (k x.object refl).1 },
          h.1,
        ))
        | inr w ↦ (let k : (o : Object) → block_in blocks b ≡ Some o → Keeps change o = rw w.0 at keeps in
            rw w.0 (h.0, blocks_typed change blocks b k h.1))
      ]

  without_typed : (blocks : List HeapObject) (b : ℕ) → Each (λ x. IsTypedBlock types widths made x) blocks → Each (λ x. IsTypedBlock types widths made x) (without_block blocks b)
  without_typed [] b h = tt
  without_typed (x ∷ blocks) b h =
      elim (eqb_tells x.number b) [
        | inl w ↦ rw w.0 h.1
        | inr w ↦ rw w.0 (h.0, without_typed blocks b h.1)
      ]

  -- other leaves from one on
  spliced_typed : (o : Object) (leaf : ℕ) (new : List Value) → T o → leaf + length new ≤ length o.leaves
      → ((k : ℕ) → k < length new → V (leaf_type types o.root.ty (leaf + k)) (slice_index_or new k indeterminate))
      → T (with_leaves o (spliced o.leaves leaf new))
  spliced_typed o leaf new t fits values =
      let front : length (take leaf o.leaves) ≡ leaf = length-take-le leaf o.leaves (omega (arith, fits)) in
      let behind = length-drop (leaf + length new) o.leaves in
      let last = length-append new (drop (leaf + length new) o.leaves) in
      let all = length-append (take leaf o.leaves) (new ++ drop (leaf + length new) o.leaves) in
      record {
        known = t.known;
        few = t.few;
        size = (let same : length (spliced o.leaves leaf new) ≡ length o.leaves = omega (arith, front, behind, last, all, fits) in same ∙ t.size);
        leaves = λ i.
            elim (dec_lt i leaf) [
              | inl less ↦
                  front_index (take leaf o.leaves) _ i (λ v. V (leaf_type types o.root.ty i) v) (omega (arith, front, less))
                  (take_index leaf o.leaves i (λ v. V (leaf_type types o.root.ty i) v) tt (λ l. t.leaves i))
              | inr more ↦
                  back_index (take leaf o.leaves) (new ++ drop (leaf + length new) o.leaves) i (i - leaf) (λ v. V (leaf_type types o.root.ty i) v) (omega (arith, front, more))
                  (elim (dec_lt (i - leaf) (length new)) [
                    | inl less ↦
                        front_index new _ (i - leaf) (λ v. V (leaf_type types o.root.ty i) v) less
                        (let e : leaf + (i - leaf) ≡ i = omega (arith, more) in
                        subst (λ k. V (leaf_type types o.root.ty k) (slice_index_or new (i - leaf) indeterminate)) e (values (i - leaf) less))
                    | inr far ↦
                        back_index new (drop (leaf + length new) o.leaves) (i - leaf) (i - leaf - length new) (λ v. V (leaf_type types o.root.ty i) v) (omega (arith, far))
                        (drop_index (leaf + length new) o.leaves (i - leaf - length new) i (λ v. V (leaf_type types o.root.ty i) v) (omega (arith, more, far)) (t.leaves i))
                  ])
            ];
      }
    where
      dec_lt : (a b : ℕ) → (a < b) ⊎ (b ≤ a)
      dec_lt zero zero = inr (omega arith)
      dec_lt zero (suc b) = inl (omega arith)
      dec_lt (suc a) zero = inr (omega arith)
      dec_lt (suc a) (suc b) =
          elim (dec_lt a b) [
            | inl l ↦ inl (omega (arith, l))
            | inr l ↦ inr (omega (arith, l))
          ]

  module _ (lawful : AreLawful types) (s : Store) (h : IsTypedStore types widths made s) where
    pub changed_typed : (change : Object → Object) (home : Home) → ((o : Object) → object_at s home ≡ Some o → Keeps change o)
        → IsTypedStore types widths made (changed change s home)
    changed_typed change (of_global g) keeps =
        record {
          called = h.called;
          allocated = h.allocated;
          globals = at_typed change made.globals s.globals g (slice_get s.globals g) refl keeps h.globals;
          calls = h.calls;
          blocks = h.blocks;
        }
    changed_typed change (of_call c v) keeps =
        record { called = h.called; allocated = h.allocated; globals = h.globals; calls = calls_typed change s.calls c v keeps h.calls; blocks = h.blocks }
    changed_typed change (of_block b) keeps =
        record { called = h.called; allocated = h.allocated; globals = h.globals; calls = h.calls; blocks = blocks_typed change s.blocks b keeps h.blocks }

    store_typed : (ty to : ℕ) (p v : Value) → slice_get types ty ≡ Some (Pointer to) → IsScalar (slice_get types to) → V ty p → V to v
        → Gives (IsTypedStore types widths made) (store s p v)
    store_typed ty to p v shape scalar a b =
        there_gives _ (seen s p) _ (there_gives _ (seen s v) _ (place_gives _ (seen s p) _ (λ home leaf e.
        (let points : Points types widths made ty home leaf = subst (λ x. V ty x) e (seen_typed types widths made lawful s h ty p a) in
        changed_typed (λ o. with_leaves o (slice_set o.leaves leaf (seen s v))) home (λ o at.
        (let t = (alive types widths made lawful s h home o at).typed in
        let same = lawful.only o.root.ty o.root.count leaf to t.known (in_object types widths made lawful s h ty to home leaf o shape points at) scalar in (
          refl,
          leaf_typed types widths made o leaf (seen s v) t
              (subst (λ k. V k (seen s v)) same (seen_typed types widths made lawful s h to v b)),
        )))))))

    -- the leaves that are copied
    copied_from : (ty to : ℕ) (other : Home) (first : ℕ) (found : Option Object) → object_at s other ≡ found → slice_get types ty ≡ Some (Pointer to)
        → Points types widths made ty other first
        → (length (leaves_from found first (leaves_of types to)) ≤ leaves_of types to)
        × ((k : ℕ) → k < length (leaves_from found first (leaves_of types to)) → V (leaf_type types to k) (slice_index_or (leaves_from found first (leaves_of types to)) k indeterminate))
    copied_from ty to other first None e shape points = (omega arith, λ k l. tt)
    copied_from ty to other first (Some o) e shape points =
        let t = (alive types widths made lawful s h other o e).typed in
        let sub = in_object types widths made lawful s h ty to other first o shape points e in
        let inside = lawful.inside o.root.ty o.root.count first to sub in
        let behind = length-drop first o.leaves in
        let size = t.size in
        let exact : length (take (leaves_of types to) (drop first o.leaves)) ≡ leaves_of types to =
        length-take-le (leaves_of types to) (drop first o.leaves) (omega (arith, inside, behind, size)) in (
          omega (arith, exact),
          λ k l.
              take_index (leaves_of types to) (drop first o.leaves) k (λ v. V (leaf_type types to k) v) tt (λ less.
              drop_index first o.leaves k (first + k) (λ v. V (leaf_type types to k) v) refl
              (subst (λ t. V t (slice_index_or o.leaves (first + k) indeterminate)) (lawful.subobjects o.root.ty o.root.count first to k sub less) (t.leaves (first + k)))),
        )

    copy_typed : (ty to : ℕ) (p q : Value) → slice_get types ty ≡ Some (Pointer to) → V ty p → V ty q
        → Gives (IsTypedStore types widths made) (copy (leaves_of types to) s p q)
    copy_typed ty to p q shape a b =
        there_gives _ (seen s p) _ (there_gives _ (seen s q) _ (place_gives _ (seen s p) _ (λ home leaf e. place_gives _ (seen s q) _ (λ other first f.
        (let points : Points types widths made ty home leaf = subst (λ x. V ty x) e (seen_typed types widths made lawful s h ty p a) in
        let from : Points types widths made ty other first = subst (λ x. V ty x) f (seen_typed types widths made lawful s h ty q b) in
        let new = leaves_from (object_at s other) first (leaves_of types to) in
        let copied = copied_from ty to other first (object_at s other) refl shape from in
        changed_typed (λ o. with_leaves o (spliced o.leaves leaf new)) home (λ o at.
        (let t = (alive types widths made lawful s h home o at).typed in
        let sub = in_object types widths made lawful s h ty to home leaf o shape points at in
        let inside = lawful.inside o.root.ty o.root.count leaf to sub in
        let size = t.size in
        let few = copied.0 in (
          refl,
          spliced_typed o leaf new t (omega (arith, inside, size, few))
              (λ k l.
              subst (λ t. V t (slice_index_or new k indeterminate))
              (sym (lawful.subobjects o.root.ty o.root.count leaf to k sub (omega (arith, l, few)))) (copied.1 k l)),
        ))))))))

    release_at_typed : (p : Value) → Gives (IsTypedStore types widths made) (release_at s p)
    release_at_typed (number z) = tt
    release_at_typed null = h
    release_at_typed (pointer (of_global g) leaf) = tt
    release_at_typed (pointer (of_call c v) leaf) = tt
    release_at_typed (pointer (of_block b) zero) =
        record { called = h.called; allocated = h.allocated; globals = h.globals; calls = h.calls; blocks = without_typed s.blocks b h.blocks }
    release_at_typed (pointer (of_block b) (suc leaf)) = tt
    release_at_typed (past home leaf until) = tt
    release_at_typed indeterminate = tt

    -- an allocation
    count_fits : (z : ℤ) → (int_lt z (pos 1) || int_lt (pos MOST_COUNT) z) ≡ false → (0 < unsigned_abs z) × (unsigned_abs z ≤ MOST_COUNT)
    count_fits (pos a) e = (grind (arith, ints), grind (arith, ints))
    count_fits (negsuc a) e = cc

    made_typed : (ty to : ℕ) (zeros : Bool) (count : ℕ) → slice_get types ty ≡ Some (Pointer to) → to < length types → 0 < count → count ≤ MOST_COUNT
        → let root : Root = record { ty = to; count = count } in
        IsMade types widths made ty (record { address = pointer (of_block s.allocated) 0; store = with_new_block s (block_of types zeros root) })
    made_typed ty to zeros count shape known some few =
        let root : Root = record { ty = to; count = count } in
        let later = with_block made root in
        let adds : Adds made later = record { globals = refl; calls = ([], sym (append-nil made.calls)); blocks = (root ∷ [], refl) } in
        let last : slice_get later.blocks s.allocated ≡ Some root = ap (λ k. slice_get later.blocks k) (sym h.allocated) ∙ get_last made.blocks root in
        record {
          later = later;
          adds = adds;
          address =
              record {
                to = to;
                shape = shape;
                root = root;
                here = last;
                subobject = (
                  record { first = 0; len = count },
                  record { is_row = elements_of_root; element = (0, some, omega arith) },
                );
              };
          typed =
              record {
                called = h.called;
                allocated = (let l = length-append made.blocks (root ∷ []) in let m = h.allocated in omega (arith, l, m));
                globals = objects_later types widths made later adds made.globals s.globals h.globals;
                calls = calls_later types widths made later adds s.calls h.calls;
                blocks =
                    each_append (λ b. IsTypedBlock types widths later b) s.blocks _ (blocks_later types widths made later adds s.blocks h.blocks)
                    (record { root = last ∙ ap (λ (r : Root). Some r) (sym (root_is zeros root)); object = block_typed types widths later zeros root lawful known few }, tt);
              };
          calls = refl;
        }
      where
        root_is : (zeros : Bool) (root : Root) → (block_of types zeros root).root ≡ root
        root_is true root = refl
        root_is false root = refl

        each_append : {A : Type 0} (P : A → Type 0) (xs ys : List A) → Each P xs → Each P ys → Each P (xs ++ ys)
        each_append P [] ys h k = k
        each_append P (x ∷ xs) ys h k = (h.0, each_append P xs ys h.1 k)

    allocate_by : (ty to : ℕ) (zeros : Bool) (z : ℤ) (bad : Bool) → (int_lt z (pos 1) || int_lt (pos MOST_COUNT) z) ≡ bad → slice_get types ty ≡ Some (Pointer to) → to < length types
        → Gives (IsMade types widths made ty) (if bad then Err act.Count else Ok (record {
          address = pointer (of_block s.allocated) 0;
          store = with_new_block s (block_of types zeros (record { ty = to; count = unsigned_abs z }));
        }))
    allocate_by ty to zeros z true e shape known = tt
    allocate_by ty to zeros z false e shape known =
        (let fits = count_fits z e in made_typed ty to zeros (unsigned_abs z) shape known fits.0 fits.1)

    enter_typed : (variables : List ℕ) (objects : List Object) → AreTyped types widths made variables objects
        → IsTypedStore types widths (with_call made variables) (entered s objects)
    enter_typed variables objects k =
        let later = with_call made variables in
        let adds : Adds made later = record { globals = refl; calls = (variables ∷ [], refl); blocks = ([], sym (append-nil made.blocks)) } in
        let l = length-append made.calls (variables ∷ []) in
        let m = h.called in
        let here : slice_index_or later.calls s.called [] ≡ variables = ap (λ k. slice_index_or later.calls k []) (sym m) ∙ index_last made.calls variables in
        record {
          called = omega (arith, l, m);
          allocated = h.allocated;
          globals = objects_later types widths made later adds made.globals s.globals h.globals;
          calls = (
            record {
              made_before = omega (arith, l, m);
              variables = subst (λ tys. AreTyped types widths later tys objects) (sym here) (objects_later types widths made later adds variables objects k);
            },
            calls_later types widths made later adds s.calls h.calls,
          );
          blocks = blocks_later types widths made later adds s.blocks h.blocks;
        }

    left_calls : (calls : List Activation) → Each (λ a. IsTypedCall types widths made a) calls → IsTypedStore types widths made (left (with_calls s calls))
    left_calls [] k = record { called = h.called; allocated = h.allocated; globals = h.globals; calls = tt; blocks = h.blocks }
    left_calls (a ∷ calls) k = record { called = h.called; allocated = h.allocated; globals = h.globals; calls = k.1; blocks = h.blocks }

    -- all of them
    pub keeps : KeepsTypes types widths made s
    keeps =
        record {
          objects = alive types widths made lawful s h;
          values = seen_typed types widths made lawful s h;
          loaded = load_typed types widths made lawful s h;
          members = member_typed types widths made lawful s h;
          steps = λ ty to p z shape v. step_typed types lawful widths made s h ty to shape p z;
          differences = λ ty to p q shape v w. difference_typed types lawful widths made s h ty to shape p q;
          stored = store_typed;
          copied = copy_typed;
          allocated = λ ty to zeros z shape known. allocate_by ty to zeros z (int_lt z (pos 1) || int_lt (pos MOST_COUNT) z) refl shape known;
          released = λ p. there_gives _ (seen s p) _ (release_at_typed (seen s p));
          forgets = λ home.
              changed_typed (λ o. with_leaves o (replicate (length o.leaves) indeterminate)) home
              (λ o at. (refl, forgotten_typed types widths made o (alive types widths made lawful s h home o at).typed));
          reaches = record { called = h.called; allocated = h.allocated; globals = h.globals; calls = h.calls; blocks = h.blocks };
          enters = enter_typed;
          leaves = left_calls s.calls h.calls;
        }
