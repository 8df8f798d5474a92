-- The runs of a type, found one after the other.
use Rattle.std.proofs.Common.{◌≡◌, ℕ, zero, suc, ◌+◌, ◌-◌, ◌*◌, ◌<◌, ◌≤◌, ◌⊎◌, inl, inr, List, [], ◌∷◌, ◌++◌, length, slice_get, Some, refl, ap, sym, ◌∙◌, subst, arith}
use Rattle.std.proofs.lemmas.Bool.{cases_order}
use Rattle.std.proofs.lemmas.Option.{none-some, same_Some, slice_get_within}
use Rattle.porch_types.specs.declared.shapes.Ty.{Ty}
use Rattle.porch_types.specs.Leaves.{leaves_of}
use Rattle.porch_types.specs.LeafTypes.{leaf_type}
use Rattle.porch_metrics.specs.Extents.{extent_of, ucf_layout}
use Rattle.porch_metrics.specs.Places.{place_of}
use Rattle.porch_ucf.specs.declared.leaf_test.LeafTest.{LeafTest}
use Rattle.porch_ucf.specs.declared.leaves.Sought.{Sought}
use Rattle.porch_ucf.specs.declared.runs.Run.{Run}
use Rattle.porch_ucf.specs.declared.runs.Stretch.{Stretch}
use Rattle.porch_ucf.specs.inside.LeafTests.{CanTest, IsTestOf, IsUntested}
use Rattle.porch_ucf.specs.inside.Runs.{AreRuns, IsInRun, IsRun, IsStretch}
use Rattle.porch_ucf.proofs.PlacedInOrder.{at_end}

still_there : {X : Type 0} (xs : List X) (x : X) (i : ℕ) (a : X) → slice_get xs i ≡ Some a → slice_get (xs ++ x ∷ []) i ≡ Some a
still_there [] x i a e = absurd (none-some a e)
still_there (y ∷ xs) x zero a e = e
still_there (y ∷ xs) x (suc i) a e = still_there xs x i a e

last_there : {X : Type 0} (xs : List X) (x : X) → slice_get (xs ++ x ∷ []) (length xs) ≡ Some x
last_there [] x = refl
last_there (y ∷ xs) x = last_there xs x

module _ (sought : Sought) (types : List Ty) (root : ℕ) where
  pub none_yet : AreRuns sought types root 0 []
  none_yet = record {
    each = λ i run e. absurd (none-some run e);
    ended = λ i run e. absurd (none-some run e);
    apart = λ i j a b lt e f. absurd (none-some a e);
    whole = λ leaf lt. absurd (omega (arith, lt));
  }

  module _ (leaf : ℕ) (runs : List Run) (all : AreRuns sought types root leaf runs) (s : Stretch) (stretch : IsStretch types root leaf s) where
    type_there : (l : ℕ) → (l < leaf → ⊥) → l < leaf + s.len → s.ty ≡ leaf_type types root l
    type_there l behind lt =
        let k : ℕ = l - leaf in
        let same : leaf + k ≡ l = omega (arith, behind) in
        sym (stretch.typed k (omega (arith, same, lt))) ∙ ap (leaf_type types root) same

    -- leaves of which no test is made
    pub passed_over : IsUntested sought (slice_get types s.ty) → AreRuns sought types root (leaf + s.len) runs
    passed_over untested = record {
      each = all.each;
      ended = λ i run e. omega (arith, all.ended i run e);
      apart = all.apart;
      whole = λ l lt. elim (below l leaf) [
        | inl before ↦ all.whole l before
        | inr behind ↦ inl (subst (λ ty. IsUntested sought (slice_get types ty)) (type_there l behind lt) untested)
      ];
    }
      where
        below : (a b : ℕ) → (a < b) ⊎ (a < b → ⊥)
        below a b = elim (cases_order a b) [
          | inl same ↦ inr (λ lt. omega (arith, same, lt))
          | inr apart ↦ elim apart [ inl less ↦ inl less | inr more ↦ inr (λ lt. omega (arith, more, lt)) ]
        ]

    -- leaves of which one is made
    module _ (test : LeafTest) (place : ℕ) (tested : IsTestOf sought (slice_get types s.ty) test) (can : CanTest types test) (place_is : place ≡ place_of ucf_layout types root leaf) (eight : (extent_of ucf_layout types s.ty).size ≡ 8) where
      abbrev run : Run
      run = record { test = test; first = leaf; len = s.len; place = place }

      is_run : IsRun sought types root run
      is_run = record {
        some = stretch.some;
        within = stretch.within;
        can_test = can;
        tests = λ k lt. subst (λ ty. IsTestOf sought (slice_get types ty) test) (sym (stretch.typed k lt)) tested;
        placed = λ k lt.
            let size : k * (extent_of ucf_layout types s.ty).size ≡ k * 8 = ap (λ n. k * n) eight in
            omega (arith, stretch.placed k lt, size, place_is);
      }

      pub one_more : AreRuns sought types root (leaf + s.len) (runs ++ run ∷ [])
      one_more = record {
        each = λ i r e. elim (at_end runs run i r e) [
          | inl old ↦ all.each i r old
          | inr new ↦ subst (IsRun sought types root) new.1 is_run
        ];
        ended = λ i r e. elim (at_end runs run i r e) [
          | inl old ↦ omega (arith, all.ended i r old)
          | inr new ↦ omega (arith, ap (λ (x : Run). x.first + x.len) new.1)
        ];
        apart = λ i j a b lt e f. elim (at_end runs run j b f) [
          | inl later ↦ elim (at_end runs run i a e) [
            | inl old ↦ all.apart i j a b lt old later
            | inr new ↦ absurd (omega (arith, lt, new.0, slice_get_within runs j b later))
          ]
          | inr last ↦ elim (at_end runs run i a e) [
            | inl old ↦ omega (arith, all.ended i a old, ap (λ (x : Run). x.first) last.1)
            | inr new ↦ absurd (omega (arith, lt, new.0, last.0))
          ]
        ];
        whole = λ l lt. elim (below l leaf) [
          | inl before ↦ elim (all.whole l before) [
            | inl untested ↦ inl untested
            | inr r ↦ inr (record { number = r.number; run = r.run; is_run = still_there runs run r.number r.run r.is_run; begun = r.begun; not_ended = r.not_ended })
          ]
          | inr behind ↦ inr (record { number = length runs; run = run; is_run = last_there runs run; begun = omega (arith, behind); not_ended = lt })
        ];
      }
        where
          below : (a b : ℕ) → (a < b) ⊎ (a < b → ⊥)
          below a b = elim (cases_order a b) [
            | inl same ↦ inr (λ lt. omega (arith, same, lt))
            | inr apart ↦ elim apart [ inl less ↦ inl less | inr more ↦ inr (λ lt. omega (arith, more, lt)) ]
          ]
