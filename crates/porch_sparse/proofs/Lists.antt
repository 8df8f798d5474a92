-- Lists whose values are given by their index.
use Rattle.std.proofs.Common.{◌≡◌, ℕ, zero, suc, ◌+◌, ◌-◌, ◌<◌, ◌≤◌, List, [], ◌∷◌, map, take, drop, replicate, Option, Some, None, slice_get, refl, sym, ap, ◌∙◌, inl, inr, arith}
use Rattle.std.specs.Prelude.{slice_set}
use Rattle.std.specs.List.{range_with_len}
use Rattle.std.proofs.lemmas.List.{take_all}
use Rattle.std.proofs.lemmas.List.FromFn.{length-map-range_with_len, get_or-map-range_with_len, take-map-range_with_len}
use Rattle.std.proofs.lemmas.Option.{slice_get_past, slice_get-get_or}
use Rattle.std.proofs.lemmas.Bool.Decides.{leb_tells}

module _ {V : Type 0} where
  pub same_values : (f g : ℕ → V) (is : List ℕ) → ((i : ℕ) → f i ≡ g i) → map f is ≡ map g is
  same_values f g [] same = refl
  same_values f g (i ∷ more) same = rw (same i) (ap (λ (vs : List V). g i ∷ vs) (same_values f g more same))

  pub there : (f : ℕ → V) (n i : ℕ) → i < n → slice_get (map f (range_with_len 0 n)) i ≡ Some (f i)
  there f n i within =
      slice_get-get_or (map f (range_with_len 0 n)) i (f i) (omega (arith, length-map-range_with_len f 0 n, within))
      ∙ ap (λ (v : V). let o : Option V = Some v in o) (get_or-map-range_with_len f 0 n i i (f i) within (omega arith))

  pub past : (f : ℕ → V) (n i : ℕ) → n ≤ i → slice_get (map f (range_with_len 0 n)) i ≡ None
  past f n i out = slice_get_past (map f (range_with_len 0 n)) i (omega (arith, length-map-range_with_len f 0 n, out))

  pub all_one : (f : ℕ → V) (v : V) (a n : ℕ) → ((i : ℕ) → f i ≡ v) → map f (range_with_len a n) ≡ replicate n v
  all_one f v a zero one = refl
  all_one f v a (suc n) one = rw (one a) (ap (λ (vs : List V). v ∷ vs) (all_one f v (a + 1) n one))

  pub drops : (f : ℕ → V) (a n k : ℕ) → drop k (map f (range_with_len a n)) ≡ map f (range_with_len (a + k) (n - k))
  drops f a n zero = rw (let e : a + 0 ≡ a = omega arith in e, let d : n - 0 ≡ n = omega arith in d) refl
  drops f a zero (suc k) = rw (let e : 0 - suc k ≡ 0 = omega arith in e) refl
  drops f a (suc n) (suc k) =
      drops f (a + 1) n k ∙ ap (λ b. map f (range_with_len b (n - k))) (let e : a + 1 + k ≡ a + suc k = omega arith in e)
      ∙ ap (λ m. map f (range_with_len (a + suc k) m)) (let e : n - k ≡ suc n - suc k = omega arith in e)

  dropped : (f : ℕ → V) (len at : ℕ) → drop at (map f (range_with_len 0 len)) ≡ map f (range_with_len at (len - at))
  dropped f len at = drops f 0 len at ∙ ap (λ b. map f (range_with_len b (len - at))) (let e : 0 + at ≡ at = omega arith in e)

  -- so many of them from an index on, or as many as there are
  pub parted : (f : ℕ → V) (len at count k : ℕ) → (count ≤ len - at → k ≡ count) → (len - at ≤ count → k ≡ len - at)
      → map f (range_with_len at k) ≡ take count (drop at (map f (range_with_len 0 len)))
  parted f len at count k less more =
      elim (leb_tells count (len - at)) [
        | inl w ↦ rw (less w.1) (sym (ap (λ (vs : List V). take count vs) (dropped f len at) ∙ take-map-range_with_len f at (len - at) count w.1))
        | inr w ↦ rw (more (omega (arith, w.1))) (sym (ap (λ (vs : List V). take count vs) (dropped f len at)
            ∙ take_all count (map f (range_with_len at (len - at))) (omega (arith, w.1, length-map-range_with_len f at (len - at)))))
      ]

  -- the same from an index on
  pub same_behind : (f g : ℕ → V) (a n : ℕ) → ((i : ℕ) → a ≤ i → f i ≡ g i) → map f (range_with_len a n) ≡ map g (range_with_len a n)
  same_behind f g a zero same = refl
  same_behind f g a (suc n) same =
      rw (same a (omega arith)) (ap (λ (vs : List V). g a ∷ vs) (same_behind f g (a + 1) n (λ i l. same i (omega (arith, l)))))

  -- the first one becomes another
  pub first_set : (f g : ℕ → V) (n : ℕ) (v : V) → g 0 ≡ v → ((i : ℕ) → 1 ≤ i → g i ≡ f i)
      → map g (range_with_len 0 n) ≡ slice_set (map f (range_with_len 0 n)) 0 v
  first_set f g zero v is same = refl
  first_set f g (suc n) v is same = rw is (ap (λ (vs : List V). v ∷ vs) (same_behind g f 1 n same))

  -- one of them becomes another
  pub one_set : (f g : ℕ → V) (a n k : ℕ) (v : V) → k < n → g (a + k) ≡ v → ((i : ℕ) → (i ≡ a + k → ⊥) → g i ≡ f i)
      → map g (range_with_len a n) ≡ slice_set (map f (range_with_len a n)) k v
  one_set f g a zero k v within is same = absurd (omega (arith, within))
  one_set f g a (suc n) zero v within is same =
      let here : a + 0 ≡ a = omega arith in
      ap (λ (x : V). x ∷ map g (range_with_len (a + 1) n)) (ap g (sym here) ∙ is)
      ∙ ap (λ (vs : List V). v ∷ vs) (same_behind g f (a + 1) n (λ i l. same i (λ e. omega (arith, e, l))))
  one_set f g a (suc n) (suc k) v within is same =
      ap (λ (x : V). x ∷ map g (range_with_len (a + 1) n)) (same a (λ e. omega (arith, e)))
      ∙ ap (λ (vs : List V). f a ∷ vs) (one_set f g (a + 1) n k v (omega (arith, within))
      (ap g (let e : a + 1 + k ≡ a + suc k = omega arith in e) ∙ is) (λ i apart. same i (λ e. apart (omega (arith, e)))))
