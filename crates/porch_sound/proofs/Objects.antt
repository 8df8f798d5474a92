-- Typed objects: a leaf that is written, objects in lists, and objects that are new.
use Rattle.std.proofs.Common.{◌≡◌, ◌<◌, ◌≤◌, ℕ, zero, suc, ◌+◌, List, [], ◌∷◌, length, map, refl, sym, ap, subst, ◌∙◌, arith, Option, Some, None}
use Rattle.std.specs.Prelude.{slice_get, slice_set, slice_index_or, replicate, Bool, true, false, not, ◌&&◌, ◌||◌, pos, IsTrue}
use Rattle.std.specs.List.{range_with_len}
use Rattle.porch_types.specs.declared.shapes.Kind.{Kind}
use Rattle.porch_types.specs.declared.shapes.Kind.TheVariants.{Char, UChar, Short, UShort, Int, UInt, Long, ULong}
use Rattle.porch_types.specs.declared.shapes.Ty.{Ty}
use Rattle.porch_types.specs.declared.shapes.Ty.TheVariants.{Whole, Pointer, Array, Struct}
use Rattle.porch_types.specs.LeafTypes.{IsScalar, leaf_type}
use Rattle.porch_values.specs.Integers.{is_value_of}
use Rattle.porch_values.specs.declared.widths.Widths.{Widths}
use Rattle.porch_objects.specs.Store.{Value, indeterminate, Root, Object, fresh, zeroed, zero_of, leaves_in, one_of, with_leaves}
use Rattle.porch_objects.specs.Pointers.{MOST_COUNT, block_of}
use Rattle.porch_sound.specs.Typing.{StoreTyping, IsValueOf, IsTypedObject, AreTyped}
use Rattle.porch_sound.proofs.Lawful.{AreLawful}

length-set : {A : Type 0} (xs : List A) (i : ℕ) (x : A) → length (slice_set xs i x) ≡ length xs
length-set [] i x = refl
length-set (y ∷ xs) zero x = refl
length-set (y ∷ xs) (suc i) x = ap suc (length-set xs i x)

-- a value at an index behind a change of one
set_index : (xs : List Value) (i j : ℕ) (x : Value) (P : Value → Type 0) → P (slice_index_or xs j indeterminate) → (j ≡ i → P x)
    → P (slice_index_or (slice_set xs i x) j indeterminate)
set_index [] i j x P h k = h
set_index (y ∷ xs) zero zero x P h k = k refl
set_index (y ∷ xs) zero (suc j) x P h k = h
set_index (y ∷ xs) (suc i) zero x P h k = h
set_index (y ∷ xs) (suc i) (suc j) x P h k = set_index xs i j x P h (λ e. k (ap suc e))

replicate_index : (n i : ℕ) → slice_index_or (replicate n indeterminate) i indeterminate ≡ indeterminate
replicate_index zero i = refl
replicate_index (suc n) zero = refl
replicate_index (suc n) (suc i) = replicate_index n i

length_replicate : (n : ℕ) (v : Value) → length (replicate n v) ≡ n
length_replicate zero v = refl
length_replicate (suc n) v = ap suc (length_replicate n v)

-- leaves that are counted up
counted_index : (f : ℕ → Value) (n from i : ℕ) (P : Value → Type 0) → P indeterminate → P (f (from + i)) → P (slice_index_or (map f (range_with_len from n)) i indeterminate)
counted_index f zero from i P h k = h
counted_index f (suc n) from zero P h k = (let e : from + 0 ≡ from = omega arith in subst (λ x. P (f x)) e k)
counted_index f (suc n) from (suc i) P h k =
    let e : from + suc i ≡ from + 1 + i = omega arith in counted_index f n (from + 1) i P h (subst (λ x. P (f x)) e k)

length_counted : (f : ℕ → Value) (n from : ℕ) → length (map f (range_with_len from n)) ≡ n
length_counted f zero from = refl
length_counted f (suc n) from = ap suc (length_counted f n (from + 1))

module _ (types : List Ty) (widths : Widths) (made : StoreTyping) where
  abbrev V : ℕ → Value → Type 0
  V ty v = IsValueOf types widths made ty v

  abbrev T : Object → Type 0
  T o = IsTypedObject types widths made o

  -- 0 is a value of each kind
  by_widths : (n w : Bool) (t u : Bool) → IsTrue t → IsTrue u → IsTrue ((not n || t) && (not w || u))
  by_widths true true t u a b = rw (a, b) refl
  by_widths true false t u a b = rw a refl
  by_widths false true t u a b = rw b refl
  by_widths false false t u a b = refl

  zero_in_range : (kind : Kind) → IsTrue (is_value_of kind widths (pos 0))
  zero_in_range Char = by_widths widths.narrow widths.wide _ _ refl refl
  zero_in_range UChar = by_widths widths.narrow widths.wide _ _ refl refl
  zero_in_range Short = by_widths widths.narrow widths.wide _ _ refl refl
  zero_in_range UShort = by_widths widths.narrow widths.wide _ _ refl refl
  zero_in_range Int = by_widths widths.narrow widths.wide _ _ refl refl
  zero_in_range UInt = by_widths widths.narrow widths.wide _ _ refl refl
  zero_in_range Long = by_widths widths.narrow widths.wide _ _ refl refl
  zero_in_range ULong = by_widths widths.narrow widths.wide _ _ refl refl

  zero_is : (ty : ℕ) (shape : Option Ty) → slice_get types ty ≡ shape → IsScalar shape → V ty (zero_of shape)
  zero_is ty None at s = absurd s
  zero_is ty (Some (Whole kind)) at s = (kind, at, zero_in_range kind)
  zero_is ty (Some (Pointer to)) at s = (to, at)
  zero_is ty (Some (Array of count)) at s = absurd s
  zero_is ty (Some (Struct members)) at s = absurd s

  pub fresh_typed : (root : Root) → root.ty < length types → root.count ≤ MOST_COUNT → T (fresh types root)
  fresh_typed root known few =
      record {
        known = known;
        few = few;
        size = length_replicate (leaves_in types root) indeterminate;
        leaves = λ leaf. subst (λ v. V (leaf_type types root.ty leaf) v) (sym (replicate_index (leaves_in types root) leaf)) tt;
      }

  pub zeroed_typed : (root : Root) → AreLawful types → root.ty < length types → root.count ≤ MOST_COUNT → T (zeroed types root)
  zeroed_typed root lawful known few =
      record {
        known = known;
        few = few;
        size = length_counted (λ leaf. zero_of (slice_get types (leaf_type types root.ty leaf))) (leaves_in types root) 0;
        leaves = λ leaf.
            counted_index (λ leaf. zero_of (slice_get types (leaf_type types root.ty leaf))) (leaves_in types root) 0 leaf
            (λ v. V (leaf_type types root.ty leaf) v) tt
            (let e : leaf ≡ 0 + leaf = omega arith in
            subst (λ x. V (leaf_type types root.ty leaf) (zero_of (slice_get types (leaf_type types root.ty x)))) e
            (zero_is (leaf_type types root.ty leaf) (slice_get types (leaf_type types root.ty leaf)) refl (lawful.scalar root.ty leaf known)));
      }

  pub block_typed : (zeros : Bool) (root : Root) → AreLawful types → root.ty < length types → root.count ≤ MOST_COUNT → T (block_of types zeros root)
  block_typed true root lawful known few = zeroed_typed root lawful known few
  block_typed false root lawful known few = fresh_typed root known few

  -- a leaf becomes a value of its type
  pub leaf_typed : (o : Object) (leaf : ℕ) (v : Value) → T o → V (leaf_type types o.root.ty leaf) v → T (with_leaves o (slice_set o.leaves leaf v))
  leaf_typed o leaf v t h =
      record {
        known = t.known;
        few = t.few;
        size = length-set o.leaves leaf v ∙ t.size;
        leaves = λ i.
            set_index o.leaves leaf i v (λ x. V (leaf_type types o.root.ty i) x) (t.leaves i)
            (λ e. subst (λ k. V (leaf_type types o.root.ty k) v) (sym e) h);
      }

  pub forgotten_typed : (o : Object) → T o → T (with_leaves o (replicate (length o.leaves) indeterminate))
  forgotten_typed o t =
      record {
        known = t.known;
        few = t.few;
        size = length_replicate (length o.leaves) indeterminate ∙ t.size;
        leaves = λ leaf. subst (λ v. V (leaf_type types o.root.ty leaf) v) (sym (replicate_index (length o.leaves) leaf)) tt;
      }

  -- an object of a list, and one that is changed
  pub typed_in : (tys : List ℕ) (os : List Object) (i : ℕ) (o : Object) → AreTyped types widths made tys os → slice_get os i ≡ Some o
      → (slice_get tys i ≡ Some o.root.ty) × (o.root ≡ one_of o.root.ty) × T o
  typed_in [] [] i o h e = cc
  typed_in [] (x ∷ os) i o h e = absurd h
  typed_in (ty ∷ tys) [] i o h e = cc
  typed_in (ty ∷ tys) (x ∷ os) zero o h e =
      let same : x ≡ o = some_is x o e in
      let ty_is : x.root.ty ≡ ty = ap (λ (r : Root). r.ty) h.0 in
      subst (λ (o : Object). (Some ty ≡ Some o.root.ty) × (o.root ≡ one_of o.root.ty) × T o) same (ap (λ t. Some t) (sym ty_is), h.0 ∙ ap (λ t. one_of t) (sym ty_is), h.1)
    where
      some_is : (x o : Object) → Some x ≡ Some o → x ≡ o
      some_is x o e = cc
  typed_in (ty ∷ tys) (x ∷ os) (suc i) o h e = typed_in tys os i o h.2 e

  pub set_typed : (tys : List ℕ) (os : List Object) (i : ℕ) (o o' : Object) → AreTyped types widths made tys os → slice_get os i ≡ Some o
      → o'.root ≡ o.root → T o' → AreTyped types widths made tys (slice_set os i o')
  set_typed [] [] i o o' h e r t = tt
  set_typed [] (x ∷ os) i o o' h e r t = absurd h
  set_typed (ty ∷ tys) [] i o o' h e r t = absurd h
  set_typed (ty ∷ tys) (x ∷ os) zero o o' h e r t = (r ∙ ap (λ (y : Object). y.root) (some_is o x (sym e)) ∙ h.0, t, h.2)
    where
      some_is : (x o : Object) → Some x ≡ Some o → x ≡ o
      some_is x o e = cc
  set_typed (ty ∷ tys) (x ∷ os) (suc i) o o' h e r t = (h.0, h.1, set_typed tys os i o o' h.2 e r t)
