-- An allocation is found as long as it wasn't freed.
use Rattle.std.proofs.Common.{◌≡◌, ℕ, true, false, List, [], ◌∷◌, ◌++◌, refl, ap, nat_eq, inl, inr, Some, None}
use Rattle.std.proofs.lemmas.Bool.Decides.{eqb_tells}
use Rattle.std.specs.Prelude.{◌+◌, Ok}
use Rattle.porch_objects.specs.Store.{of_block, pointer, Object, HeapObject, Store, block_in, with_allocated}
use Rattle.porch_objects.specs.Pointers.{with_block, without_block, release}
use Rattle.porch_objects.specs.Laws.{EndsWhereFreed}

abbrev one_more : ℕ → Object → HeapObject
one_more n object = record { number = n; object = object }

-- where the first has the number, there is one
not_there : (h : HeapObject) (more : List HeapObject) (n : ℕ) → nat_eq h.number n ≡ true → block_in (h ∷ more) n ≡ None → ⊥
not_there h more n e none = let found : Some h.object ≡ None = rw e at none in cc

later : (h : HeapObject) (more : List HeapObject) (n : ℕ) → nat_eq h.number n ≡ false → block_in (h ∷ more) n ≡ None → block_in more n ≡ None
later h more n e none = rw e at none

found_last : (blocks : List HeapObject) (n : ℕ) (object : Object) → block_in blocks n ≡ None → block_in (blocks ++ one_more n object ∷ []) n ≡ Some object
found_last [] n object none = elim (eqb_tells n n) [ inl w ↦ rw w.0 refl | inr w ↦ absurd (w.1 refl) ]
found_last (h ∷ more) n object none =
    elim (eqb_tells h.number n) [
      | inl w ↦ absurd (not_there h more n w.0 none)
      | inr w ↦ rw w.0 (found_last more n object (later h more n w.0 none))
    ]

without_last : (blocks : List HeapObject) (n : ℕ) (object : Object) → block_in blocks n ≡ None → without_block (blocks ++ one_more n object ∷ []) n ≡ blocks
without_last [] n object none = elim (eqb_tells n n) [ inl w ↦ rw w.0 refl | inr w ↦ absurd (w.1 refl) ]
without_last (h ∷ more) n object none =
    elim (eqb_tells h.number n) [
      | inl w ↦ absurd (not_there h more n w.0 none)
      | inr w ↦ rw w.0 (ap (λ (hs : List HeapObject). h ∷ hs) (without_last more n object (later h more n w.0 none)))
    ]

released : (s : Store) (object : Object) → block_in s.blocks s.allocated ≡ None
    → release (with_block s object) (pointer (of_block s.allocated) 0) ≡ Ok (with_allocated s (s.allocated + 1))
released s object none =
    rw (found_last s.blocks s.allocated object none, without_last s.blocks s.allocated object none) refl

pub ends_where_freed : (s : Store) (object : Object) → EndsWhereFreed s object
ends_where_freed s object = record { lives = found_last s.blocks s.allocated object; ended = released s object }
