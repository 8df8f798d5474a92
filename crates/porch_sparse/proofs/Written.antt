-- Values by place after some were written.
use Rattle.std.proofs.Common.{◌≡◌, ℕ, zero, suc, ◌+◌, ◌-◌, ◌*◌, ◌<◌, ◌≤◌, ◌%◌, nat_eq, List, [], ◌∷◌, ◌++◌, map, take, drop, length, get_or, refl, sym, ap, ◌∙◌, inl, inr, arith}
use Rattle.std.specs.Prelude.{if◌then◌else◌, slice_set}
use Rattle.std.specs.Option.{unwrap_or}
use Rattle.std.specs.Ordering.{nat_cmp}
use Rattle.std.specs.List.{range_with_len}
use Rattle.std.specs.BTreeMap.{BTreeMap, get}
use Rattle.std.proofs.lemmas.List.{length-take, length-drop, length-append, length-take-le, get_or_append_left, get_or-append_right, get_or-take, get_or-drop, get_or_default, get_or_past}
use Rattle.std.proofs.lemmas.List.FromFn.{fill_by_all, length-map-range_with_len, get_or-map-range_with_len}
use Rattle.std.proofs.lemmas.Option.{unwrap_or-slice_get}
use Rattle.std.proofs.lemmas.Bool.Decides.{leb_tells, eqb_tells}
use Rattle.std.proofs.lemmas.Nat.{mod_below, mod-mul-add}
use Rattle.porch_sparse.specs.inside.Places.{value_at, among}

zero_mod : (n : ℕ) → 0 < n → 0 % n ≡ 0
zero_mod n some = ap (λ m. m % n) (let e : 0 ≡ 0 * n + 0 = omega arith in e) ∙ mod-mul-add 0 n 0 some

module _ {V : Type 0} where
  among_before : (at : ℕ) (vs : List V) (i : ℕ) (e : V) → i < at → among at vs i e ≡ e
  among_before at vs i e before = elim (leb_tells at i) [ inl w ↦ absurd (omega (arith, w.1, before)) | inr w ↦ rw w.0 refl ]

  among_from : (at : ℕ) (vs : List V) (i : ℕ) (e : V) → at ≤ i → among at vs i e ≡ get_or vs (i - at) e
  among_from at vs i e from = elim (leb_tells at i) [ inl w ↦ rw w.0 (unwrap_or-slice_get vs (i - at) e) | inr w ↦ absurd (omega (arith, w.1, from)) ]

  -- no value
  pub among_none : (at i : ℕ) (e : V) → e ≡ among at [] i e
  among_none at i e = elim (leb_tells at i) [ inl w ↦ rw w.0 refl | inr w ↦ rw w.0 refl ]

  taken : (vs : List V) (k j : ℕ) (e : V) → (j ≡ k → ⊥) → get_or (take k vs) j e ≡ get_or (take (k + 1) vs) j e
  taken vs k j e apart = elim (leb_tells k j) [
    | inl u ↦ get_or_past (take k vs) j e (omega (arith, u.1, length-take k vs)) ∙ sym (get_or_past (take (k + 1) vs) j e (omega (arith, u.1, apart, length-take (k + 1) vs)))
    | inr u ↦ get_or-take k vs j e u.1 ∙ sym (get_or-take (k + 1) vs j e (omega (arith, u.1)))
  ]

  -- one value more
  pub among_more : (at k : ℕ) (vs : List V) (i : ℕ) (v e : V) → k < length vs → v ≡ get_or vs k v
      → (if nat_eq i (at + k) then v else among at (take k vs) i e) ≡ among at (take (k + 1) vs) i e
  among_more at k vs i v e within is =
      elim (eqb_tells i (at + k)) [
        | inl w ↦ rw w.0 (sym (among_from at (take (k + 1) vs) i e (omega (arith, w.1))
            ∙ ap (λ j. get_or (take (k + 1) vs) j e) (let j : i - at ≡ k = omega (arith, w.1) in j)
            ∙ get_or-take (k + 1) vs k e (omega arith) ∙ get_or_default vs k e v within ∙ sym is))
        | inr w ↦ rw w.0 (elim (leb_tells at i) [
          | inr u ↦ among_before at (take k vs) i e u.1 ∙ sym (among_before at (take (k + 1) vs) i e u.1)
          | inl u ↦ among_from at (take k vs) i e u.1 ∙ taken vs k (i - at) e (λ same. w.1 (omega (arith, same, u.1))) ∙ sym (among_from at (take (k + 1) vs) i e u.1)
        ])
      ]

  module _ (f : ℕ → V) (n at : ℕ) (vs : List V) where
    abbrev old : List V
    old = map f (range_with_len 0 n)

    behind : (k : ℕ) (d : V) → k < n → at ≤ k → get_or (vs ++ drop (at + length vs) old) (k - at) d ≡ get_or vs (k - at) (f k)
    behind k d within from = elim (leb_tells (length vs) (k - at)) [
      | inr u ↦ get_or_append_left vs (drop (at + length vs) old) d (k - at) u.1 ∙ get_or_default vs (k - at) d (f k) u.1
      | inl u ↦ get_or-append_right vs (drop (at + length vs) old) (length vs) (k - at) d refl u.1
          ∙ get_or-drop (at + length vs) old (k - at - length vs) d
          ∙ ap (λ j. get_or old j d) (let j : at + length vs + (k - at - length vs) ≡ k = omega (arith, u.1, from) in j)
          ∙ get_or-map-range_with_len f 0 n k k d within (omega arith) ∙ sym (get_or_past vs (k - at) (f k) u.1)
    ]

    one : (k : ℕ) (d : V) → k < n → length (take at old) ≡ at
        → get_or (take at old ++ (vs ++ drop (at + length vs) old)) k d ≡ among at vs k (f k)
    one k d within front = elim (leb_tells at k) [
      | inr u ↦ get_or_append_left (take at old) (vs ++ drop (at + length vs) old) d k (omega (arith, front, u.1))
          ∙ get_or-take at old k d u.1 ∙ get_or-map-range_with_len f 0 n k k d within (omega arith) ∙ sym (among_before at vs k (f k) u.1)
      | inl u ↦ get_or-append_right (take at old) (vs ++ drop (at + length vs) old) at k d front u.1
          ∙ behind k d within u.1 ∙ sym (among_from at vs k (f k) u.1)
    ]

    all : (xs : List V) → length xs ≡ n → ((k : ℕ) (d : V) → k < n → get_or xs k d ≡ among at vs k (f k)) → xs ≡ map (λ i. among at vs i (f i)) (range_with_len 0 n)
    all [] len each = rw (← len) refl
    all (x ∷ xs) len each = fill_by_all (λ i. among at vs i (f i)) (x ∷ xs) n x len (λ k within. each k x within)

    -- the list with these values from a place on
    pub written_in : at + length vs ≤ n → map (λ i. among at vs i (f i)) (range_with_len 0 n) ≡ take at old ++ (vs ++ drop (at + length vs) old)
    written_in fits =
        let long : length old ≡ n = length-map-range_with_len f 0 n in
        let front : length (take at old) ≡ at = length-take-le at old (omega (arith, long, fits)) in
        let rest : length (drop (at + length vs) old) ≡ n - (at + length vs) = length-drop (at + length vs) old ∙ ap (λ m. m - (at + length vs)) long in
        sym (all (take at old ++ (vs ++ drop (at + length vs) old))
        (omega (arith, length-append (take at old) (vs ++ drop (at + length vs) old), length-append vs (drop (at + length vs) old), front, rest, fits))
        (λ k d within. one k d within front))

  -- another first value
  pub other_first : (v w : V) (pattern : List V) (written : BTreeMap ℕ V) (i : ℕ) → 0 < length pattern → 1 ≤ i
      → value_at v pattern written i ≡ value_at w pattern written i
  other_first v w pattern written i some from = elim (eqb_tells i 0) [
    | inl u ↦ absurd (omega (arith, u.1, from))
    | inr u ↦ rw u.0 (ap (λ (d : V). unwrap_or (get nat_cmp written i) d) (get_or_default pattern (i % length pattern) v w (mod_below i (length pattern) some)))
  ]

  at_one : (v : V) (j : ℕ) → get_or (v ∷ []) j v ≡ v
  at_one v zero = refl
  at_one v (suc j) = refl

  -- one value everywhere
  pub value_of_one : (v : V) (pattern : List V) (written : BTreeMap ℕ V) (i : ℕ) → pattern ≡ v ∷ [] → written.entries ≡ [] → value_at v pattern written i ≡ v
  value_of_one v pattern written i is none = elim (eqb_tells i 0) [
    | inl u ↦ rw u.0 refl
    | inr u ↦ rw (u.0, is, none) (at_one v (i % 1))
  ]

  -- a pattern where nothing was written
  pub begins : (first : V) (more : List V) (written : BTreeMap ℕ V) (i : ℕ) → written.entries ≡ []
      → value_at first (first ∷ more) written i ≡ get_or (first ∷ more) (i % length (first ∷ more)) first
  begins first more written i none = elim (eqb_tells i 0) [
    | inl u ↦ rw (u.0, u.1, zero_mod (length (first ∷ more)) (omega arith)) refl
    | inr u ↦ rw (u.0, none) refl
  ]

  -- the first value of a list
  pub begins_with : (xs : List V) (v : V) → 0 < length xs → v ≡ get_or xs 0 v → (more : List V) × (xs ≡ v ∷ more)
  begins_with [] v some is = absurd (omega (arith, some))
  begins_with (x ∷ xs) v some is = (xs, ap (λ (y : V). y ∷ xs) (sym is))

  -- what is left of a pattern
  pub only : (old new : List V) (v : V) → new ≡ take 1 old → 0 < length old → slice_set new 0 v ≡ v ∷ []
  only [] new v is some = absurd (omega (arith, some))
  only (x ∷ old) new v is some = rw is refl

  -- the value at a place that was written, and at another
  pub one_written : (at : ℕ) (v e : V) (i : ℕ) (w : V) → i ≡ at → w ≡ (if nat_eq i at then v else e) → w ≡ v
  one_written at v e i w here is = elim (eqb_tells i at) [ inl u ↦ is ∙ rw u.0 refl | inr u ↦ absurd (u.1 here) ]

  pub others_stay : (at i : ℕ) (v e w : V) → (i ≡ at → ⊥) → w ≡ (if nat_eq i at then v else e) → w ≡ e
  others_stay at i v e w apart is = elim (eqb_tells i at) [ inl u ↦ absurd (apart u.1) | inr u ↦ is ∙ rw u.0 refl ]
