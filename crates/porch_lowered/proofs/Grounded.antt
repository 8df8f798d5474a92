-- No operation makes a pointer to a temporary.
use Rattle.std.proofs.Common.{◌≡◌, ◌<◌, ℕ, zero, suc, ◌+◌, ◌-◌, ◌*◌, ◌/◌, ◌+ℤ◌, ℤ, pos, negsuc, List, [], ◌∷◌, ◌++◌, length, take, drop, map, refl, sym, ap, subst, ◌∙◌, inl, inr, arith, length-append, Option, Some, None}
use Rattle.std.proofs.lemmas.Bool.Decides.{eqb_tells}
use Rattle.std.specs.Prelude.{slice_get, slice_set, slice_index, replicate, if◌then◌else◌, ◌||◌, nat_lt, nat_eq, int_lt, Bool, true, false, Result, Ok, Err}
use Rattle.std.specs.Option.{option_map}
use Rattle.std.specs.List.{range_with_len}
use Rattle.porch_types.specs.declared.parts.Row.{Row}
use Rattle.porch_types.specs.declared.shapes.Ty.{Ty}
use Rattle.porch_types.specs.declared.shapes.Ty.TheVariants.{Whole, Pointer, Array, Struct}
use Rattle.porch_types.specs.Leaves.{leaves_of}
use Rattle.porch_types.specs.LeafTypes.{leaf_type}
use Rattle.porch_values.specs.declared.acts.Act.{Act}
use Rattle.porch_values.specs.declared.acts.Act.TheVariants as act
use Rattle.porch_objects.specs.Store.{Home, of_global, of_call, of_block, Value, number, null, pointer, past, indeterminate, Root, Object, Activation, HeapObject, Store, leaves_in, zero_of, changed_at, changed_calls, changed_blocks, changed, object_at, seen, leaf_at, with_leaves, forgotten, entered, left, with_calls}
use Rattle.porch_objects.specs.Pointers.{if_there, if_place, load, member, Position, row_in, position_of, is_shared, element_from, step_from, step, leaves_from, spliced, store, copy, Allocation, block_of, allocate, MOST_COUNT, without_block, release_at, release}
use Rattle.porch_sound.specs.Typing.{Each}
use Rattle.porch_lowered.specs.Beside.{IsDeclared, IsGrounded, HoldsGrounded, IsFrame, IsGroundedStore}
use Rattle.porch_sound.specs.Laws.{Gives}
use Rattle.porch_lowered.specs.Laws.{StaysGrounded}
use Rattle.porch_lowered.proofs.ReadAlike.{found_in, OnSome, object_holds, leaf_grounded, seen_grounded}

-- lists of which each element has a property

each_append : {A : Type 0} (P : A → Type 0) (xs ys : List A) → Each P xs → Each P ys → Each P (xs ++ ys)
each_append P [] ys h k = k
each_append P (x ∷ xs) ys h k = (h.0, each_append P xs ys h.1 k)

each_take : {A : Type 0} (P : A → Type 0) (i : ℕ) (xs : List A) → Each P xs → Each P (take i xs)
each_take P zero xs h = tt
each_take P (suc i) [] h = tt
each_take P (suc i) (x ∷ xs) h = (h.0, each_take P i xs h.1)

each_drop : {A : Type 0} (P : A → Type 0) (i : ℕ) (xs : List A) → Each P xs → Each P (drop i xs)
each_drop P zero xs h = h
each_drop P (suc i) [] h = tt
each_drop P (suc i) (x ∷ xs) h = each_drop P i xs h.1

each_set : {A : Type 0} (P : A → Type 0) (xs : List A) (i : ℕ) (x : A) → Each P xs → P x → Each P (slice_set xs i x)
each_set P [] i x h k = tt
each_set P (y ∷ xs) zero x h k = (k, h.1)
each_set P (y ∷ xs) (suc i) x h k = (h.0, each_set P xs i x h.1 k)

each_replicate : {A : Type 0} (P : A → Type 0) (count : ℕ) (x : A) → P x → Each P (replicate count x)
each_replicate P zero x h = tt
each_replicate P (suc count) x h = (h, each_replicate P count x h)

each_map : {A B : Type 0} (P : B → Type 0) (f : A → B) (xs : List A) → ((x : A) → P (f x)) → Each P (map f xs)
each_map P f [] h = tt
each_map P f (x ∷ xs) h = (h x, each_map P f xs h)

each_other : {A : Type 0} (P Q : A → Type 0) (xs : List A) → ((x : A) → P x → Q x) → Each P xs → Each Q xs
each_other P Q [] f h = tt
each_other P Q (x ∷ xs) f h = (f x h.0, each_other P Q xs f h.1)

length-set : (xs : List Object) (i : ℕ) (x : Object) → length (slice_set xs i x) ≡ length xs
length-set [] i x = refl
length-set (y ∷ xs) zero x = refl
length-set (y ∷ xs) (suc i) x = ap suc (length-set xs i x)

-- the count of a call's variables in a longer list
index_append : (declared more : List ℕ) (c v : ℕ) → v < slice_index declared c → v < slice_index (declared ++ more) c
index_append [] more c v h = absurd (omega (arith, h))
index_append (d ∷ declared) more zero v h = h
index_append (d ∷ declared) more (suc c) v h = index_append declared more c v h

index_kept : (declared more : List ℕ) (c : ℕ) → c < length declared → slice_index (declared ++ more) c ≡ slice_index declared c
index_kept [] more c h = absurd (omega arith)
index_kept (d ∷ declared) more zero h = refl
index_kept (d ∷ declared) more (suc c) h = index_kept declared more c (omega arith)

index_last : (declared : List ℕ) (k : ℕ) → slice_index (declared ++ k ∷ []) (length declared) ≡ k
index_last [] k = refl
index_last (d ∷ declared) k = index_last declared k

declared_more : (declared more : List ℕ) (home : Home) → IsDeclared declared home → IsDeclared (declared ++ more) home
declared_more declared more (of_global g) h = tt
declared_more declared more (of_call c v) h = index_append declared more c v h
declared_more declared more (of_block b) h = tt

grounded_more : (declared more : List ℕ) (v : Value) → IsGrounded declared v → IsGrounded (declared ++ more) v
grounded_more declared more (number z) h = tt
grounded_more declared more null h = tt
grounded_more declared more (pointer home leaf) h = declared_more declared more home h
grounded_more declared more (past home leaf until) h = declared_more declared more home h
grounded_more declared more indeterminate h = tt

holds_more : (declared more : List ℕ) (o : Object) → HoldsGrounded declared o → HoldsGrounded (declared ++ more) o
holds_more declared more o h = each_other (λ v. IsGrounded declared v) (λ v. IsGrounded (declared ++ more) v) o.leaves (λ v k. grounded_more declared more v k) h

objects_more : (declared more : List ℕ) (os : List Object) → Each (λ o. HoldsGrounded declared o) os → Each (λ o. HoldsGrounded (declared ++ more) o) os
objects_more declared more os h =
    each_other (λ o. HoldsGrounded declared o) (λ o. HoldsGrounded (declared ++ more) o) os (λ o k. holds_more declared more o k) h

frame_more : (declared more : List ℕ) (a : Activation) → IsFrame declared a → IsFrame (declared ++ more) a
frame_more declared more a h =
    record {
      made = (let l = length-append declared more in omega (arith, h.made, l));
      variables = h.variables ∙ sym (index_kept declared more a.number h.made);
      values = objects_more declared more a.variables h.values;
    }

module _ (declared : List ℕ) where
  abbrev G : Value → Type 0
  G v = IsGrounded declared v

  abbrev Holds : Object → Type 0
  Holds o = HoldsGrounded declared o

  zero_grounded : (ty : Option Ty) → G (zero_of ty)
  zero_grounded None = tt
  zero_grounded (Some (Pointer to)) = tt
  zero_grounded (Some (Whole kind)) = tt
  zero_grounded (Some (Array of count)) = tt
  zero_grounded (Some (Struct members)) = tt

  block_holds : (types : List Ty) (zeros : Bool) (root : Root) → Holds (block_of types zeros root)
  block_holds types true root =
      each_map G (λ leaf. zero_of (slice_get types (leaf_type types root.ty leaf))) (range_with_len 0 (leaves_in types root))
      (λ leaf. zero_grounded (slice_get types (leaf_type types root.ty leaf)))
  block_holds types false root = each_replicate G (leaves_in types root) indeterminate tt

  -- a change of one object that keeps it grounded

  at_holds : (change : Object → Object) (keeps : (o : Object) → Holds o → Holds (change o)) (os : List Object) (found : Option Object) (i : ℕ)
      → Each Holds os → OnSome Holds found → Each Holds (changed_at change os found i)
  at_holds change keeps os None i h k = h
  at_holds change keeps os (Some o) i h k = each_set Holds os i (change o) h (keeps o k)

  length-changed : (change : Object → Object) (os : List Object) (found : Option Object) (i : ℕ) → length (changed_at change os found i) ≡ length os
  length-changed change os None i = refl
  length-changed change os (Some o) i = length-set os i (change o)

  calls_hold : (change : Object → Object) (keeps : (o : Object) → Holds o → Holds (change o)) (calls : List Activation) (c v : ℕ)
      → Each (λ a. IsFrame declared a) calls → Each (λ a. IsFrame declared a) (changed_calls change calls c v)
  calls_hold change keeps [] c v h = tt
  calls_hold change keeps (a ∷ calls) c v h =
      elim (eqb_tells a.number c) [
        | inl w ↦ rw w.0 (
          record {
            made = h.0.made;
            variables = length-changed change a.variables (slice_get a.variables v) v ∙ h.0.variables;
            values = at_holds change keeps a.variables (slice_get a.variables v) v h.0.values (found_in Holds a.variables v h.0.values);
          },
          h.1,
        )
        | inr w ↦ rw w.0 (h.0, calls_hold change keeps calls c v h.1)
      ]

  blocks_hold : (change : Object → Object) (keeps : (o : Object) → Holds o → Holds (change o)) (blocks : List HeapObject) (b : ℕ)
      → Each (λ (x : HeapObject). Holds x.object) blocks → Each (λ (x : HeapObject). Holds x.object) (changed_blocks change blocks b)
  blocks_hold change keeps [] b h = tt
  blocks_hold change keeps (x ∷ blocks) b h =
      elim (eqb_tells x.number b) [
        | inl w ↦ rw w.0 (keeps x.object h.0, h.1)
        | inr w ↦ rw w.0 (h.0, blocks_hold change keeps blocks b h.1)
      ]

  without_holds : (blocks : List HeapObject) (b : ℕ) → Each (λ (x : HeapObject). Holds x.object) blocks
      → Each (λ (x : HeapObject). Holds x.object) (without_block blocks b)
  without_holds [] b h = tt
  without_holds (x ∷ blocks) b h =
      elim (eqb_tells x.number b) [
        | inl w ↦ rw w.0 h.1
        | inr w ↦ rw w.0 (h.0, without_holds blocks b h.1)
      ]

  module _ (s : Store) (h : IsGroundedStore declared s) where
    pub changed_grounded : (change : Object → Object) (keeps : (o : Object) → Holds o → Holds (change o)) (home : Home)
        → IsGroundedStore declared (changed change s home)
    changed_grounded change keeps (of_global g) =
        record {
          made = h.made;
          globals = at_holds change keeps s.globals (slice_get s.globals g) g h.globals (found_in Holds s.globals g h.globals);
          calls = h.calls;
          blocks = h.blocks;
        }
    changed_grounded change keeps (of_call c v) =
        record { made = h.made; globals = h.globals; calls = calls_hold change keeps s.calls c v h.calls; blocks = h.blocks }
    changed_grounded change keeps (of_block b) =
        record { made = h.made; globals = h.globals; calls = h.calls; blocks = blocks_hold change keeps s.blocks b h.blocks }

    pub forgotten_grounded : (home : Home) → IsGroundedStore declared (forgotten s home)
    forgotten_grounded home =
        changed_grounded (λ o. with_leaves o (replicate (length o.leaves) indeterminate)) (λ o k. each_replicate G (length o.leaves) indeterminate tt) home

    -- what a value leads to where it is used
    there_gives : {A : Type 0} (P : A → Type 0) (v : Value) (go : Value → Result A Act) → Gives P (go v) → Gives P (if_there v go)
    there_gives P (number z) go k = k
    there_gives P null go k = k
    there_gives P (pointer home leaf) go k = k
    there_gives P (past home leaf until) go k = k
    there_gives P indeterminate go k = tt

    place_gives : {A : Type 0} (P : A → Type 0) (p : Value) (go : Home → ℕ → Result A Act)
        → ((home : Home) (leaf : ℕ) → p ≡ pointer home leaf → Gives P (go home leaf)) → Gives P (if_place p go)
    place_gives P (number z) go k = tt
    place_gives P null go k = tt
    place_gives P (pointer home leaf) go k = k home leaf refl
    place_gives P (past home leaf until) go k = tt
    place_gives P indeterminate go k = tt

    load_gives : (p : Value) → Gives G (load s p)
    load_gives p =
        there_gives G (seen s p) _ (place_gives G (seen s p) _ (λ home leaf e.
        there_gives G (seen s (leaf_at s home leaf)) _ (seen_grounded declared s (leaf_at s home leaf) (leaf_grounded declared s h home leaf))))

    member_gives : (p : Value) (leaf : ℕ) → G p → Gives G (member s p leaf)
    member_gives p leaf g =
        there_gives G (seen s p) _ (place_gives G (seen s p) _ (λ home first e. subst (λ v. G v) e (seen_grounded declared s p g)))

    element_by : (before last : Bool) (home : Home) (leaf end : ℕ) (until : Option ℕ) → IsDeclared declared home
        → Gives G (if before then Ok (pointer home leaf) else (if last then Ok (past home end until) else Err act.Row))
    element_by true last home leaf end until d = d
    element_by false true home leaf end until d = d
    element_by false false home leaf end until d = tt

    element_gives : (types : List Ty) (pointee : ℕ) (home : Home) (row : Row) (z : ℤ) → IsDeclared declared home
        → Gives G (element_from types pointee s home row z)
    element_gives types pointee home row (pos index) d =
        element_by (nat_lt index row.len) (nat_eq index row.len) home (row.first + index * leaves_of types pointee) (row.first + (index - 1) * leaves_of types pointee)
        (if is_shared types pointee (object_at s home) (row.first + (index - 1) * leaves_of types pointee) then Some s.checkpoints else None) d
    element_gives types pointee home row (negsuc n) d = tt

    stored_keeps : (leaf : ℕ) (v : Value) → G v → (o : Object) → Holds o → Holds (with_leaves o (slice_set o.leaves leaf v))
    stored_keeps leaf v g o k = each_set G o.leaves leaf v k g

    store_gives : (p v : Value) → G v → Gives (IsGroundedStore declared) (store s p v)
    store_gives p v g =
        there_gives _ (seen s p) _ (there_gives _ (seen s v) _ (place_gives _ (seen s p) _ (λ home leaf e.
        changed_grounded (λ o. with_leaves o (slice_set o.leaves leaf (seen s v))) (stored_keeps leaf (seen s v) (seen_grounded declared s v g)) home)))

    leaves_hold : (found : Option Object) (first count : ℕ) → OnSome Holds found → Each G (leaves_from found first count)
    leaves_hold None first count k = tt
    leaves_hold (Some o) first count k = each_take G count (drop first o.leaves) (each_drop G first o.leaves k)

    spliced_keeps : (leaf : ℕ) (new : List Value) → Each G new → (o : Object) → Holds o → Holds (with_leaves o (spliced o.leaves leaf new))
    spliced_keeps leaf new g o k =
        each_append G (take leaf o.leaves) (new ++ drop (leaf + length new) o.leaves) (each_take G leaf o.leaves k)
        (each_append G new (drop (leaf + length new) o.leaves) g (each_drop G (leaf + length new) o.leaves k))

    copy_gives : (count : ℕ) (p q : Value) → Gives (IsGroundedStore declared) (copy count s p q)
    copy_gives count p q =
        there_gives _ (seen s p) _ (there_gives _ (seen s q) _ (place_gives _ (seen s p) _ (λ home leaf e. place_gives _ (seen s q) _ (λ other first f.
        changed_grounded (λ o. with_leaves o (spliced o.leaves leaf (leaves_from (object_at s other) first count)))
        (spliced_keeps leaf (leaves_from (object_at s other) first count) (leaves_hold (object_at s other) first count (object_holds declared s h other))) home))))

    release_at_gives : (p : Value) → Gives (IsGroundedStore declared) (release_at s p)
    release_at_gives (number z) = tt
    release_at_gives null = h
    release_at_gives (pointer (of_global g) leaf) = tt
    release_at_gives (pointer (of_call c v) leaf) = tt
    release_at_gives (pointer (of_block b) zero) =
        record { made = h.made; globals = h.globals; calls = h.calls; blocks = without_holds s.blocks b h.blocks }
    release_at_gives (pointer (of_block b) (suc leaf)) = tt
    release_at_gives (past home leaf until) = tt
    release_at_gives indeterminate = tt

    release_gives : (p : Value) → Gives (IsGroundedStore declared) (release s p)
    release_gives p = there_gives _ (seen s p) _ (release_at_gives (seen s p))

    abbrev IsMade : Allocation → Type 0
    IsMade made = G made.address × IsGroundedStore declared made.store

    where_made : (bad : Bool) (made : Allocation) → IsMade made → Gives IsMade (if bad then Err act.Count else Ok made)
    where_made true made k = tt
    where_made false made k = k

    allocate_gives : (types : List Ty) (ty : ℕ) (zeros : Bool) (count : ℤ) → Gives IsMade (allocate types ty zeros count s)
    allocate_gives types ty zeros count =
        where_made (int_lt count (pos 1) || int_lt (pos MOST_COUNT) count) _ (
          tt,
          record {
            made = h.made;
            globals = h.globals;
            calls = h.calls;
            blocks = each_append (λ (x : HeapObject). Holds x.object) s.blocks _ h.blocks (block_holds types zeros _, tt);
          },
        )

    entered_grounded : (variables : List Object) → Each Holds variables → IsGroundedStore (declared ++ length variables ∷ []) (entered s variables)
    entered_grounded variables k =
        let more = length variables ∷ [] in
        let longer = length-append declared more in
        let made = h.made in
        record {
          made = omega (arith, longer, made);
          globals = objects_more declared more s.globals h.globals;
          calls = (
            record {
              made = omega (arith, longer, made);
              variables = sym (index_last declared (length variables)) ∙ ap (λ c. slice_index (declared ++ more) c) h.made;
              values = objects_more declared more variables k;
            },
            each_other (λ a. IsFrame declared a) (λ a. IsFrame (declared ++ more) a) s.calls (λ a f. frame_more declared more a f) h.calls,
          );
          blocks = each_other (λ (x : HeapObject). Holds x.object) (λ (x : HeapObject). HoldsGrounded (declared ++ more) x.object) s.blocks (λ x f. holds_more declared more x.object f) h.blocks;
        }

    left_calls : (calls : List Activation) → Each (λ a. IsFrame declared a) calls → IsGroundedStore declared (left (with_calls s calls))
    left_calls [] k = record { made = h.made; globals = h.globals; calls = tt; blocks = h.blocks }
    left_calls (a ∷ calls) k = record { made = h.made; globals = h.globals; calls = k.1; blocks = h.blocks }

    standing_gives : (types : List Ty) (pointee : ℕ) (home : Home) (index : Row → ℕ) (found : Option Row) (z : ℤ) → IsDeclared declared home
        → Gives G (step_from types pointee s (option_map (λ (row : Row). let p : Position = record { home = home; row = row; index = index row } in p) found) z)
    standing_gives types pointee home index None z d = tt
    standing_gives types pointee home index (Some row) z d = element_gives types pointee home row (pos (index row) +ℤ z) d

    from_gives : (types : List Ty) (pointee : ℕ) (p : Value) (z : ℤ) → G p → Gives G (step_from types pointee s (position_of types pointee s p) z)
    from_gives types pointee (number x) z g = tt
    from_gives types pointee null z g = tt
    from_gives types pointee (pointer home leaf) z g =
        standing_gives types pointee home (λ row. (leaf - row.first) / leaves_of types pointee + 0) (row_in types pointee (object_at s home) leaf) z g
    from_gives types pointee (past home leaf until) z g =
        standing_gives types pointee home (λ row. (leaf - row.first) / leaves_of types pointee + 1) (row_in types pointee (object_at s home) leaf) z g
    from_gives types pointee indeterminate z g = tt

    step_gives : (types : List Ty) (pointee : ℕ) (p : Value) (z : ℤ) → G p → Gives G (step types pointee s p z)
    step_gives types pointee p z g = there_gives G (seen s p) _ (from_gives types pointee (seen s p) z (seen_grounded declared s p g))

-- all operations
pub stay : (types : List Ty) (declared : List ℕ) (s : Store) → IsGroundedStore declared s → StaysGrounded types declared s
stay types declared s h =
    record {
      leaves = leaf_grounded declared s h;
      values = seen_grounded declared s;
      loaded = load_gives declared s h;
      members = member_gives declared s h;
      steps = step_gives declared s h types;
      stored = store_gives declared s h;
      copied = copy_gives declared s h;
      allocated = allocate_gives declared s h types;
      released = release_gives declared s h;
      forgets = forgotten_grounded declared s h;
      reaches = record { made = h.made; globals = h.globals; calls = h.calls; blocks = h.blocks };
      enters = entered_grounded declared s h;
      ends = left_calls declared s h s.calls h.calls;
    }
