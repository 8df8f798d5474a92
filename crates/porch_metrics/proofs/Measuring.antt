-- A table of measures with one more type.
use Rattle.std.proofs.Common.{◌≡◌, ◌⊎◌, inl, inr, ℕ, zero, suc, ◌+◌, ◌<◌, ◌≤◌, List, [], ◌∷◌, ◌++◌, length, get_or, slice_get, Some, refl, arith, ap, sym, ◌∙◌, subst, map, take, drop, All}
use Rattle.std.proofs.lemmas.Option.{slice_get_within, slice_get-get_or}
use Rattle.std.proofs.lemmas.List.{length-take-le, map-append, take-append-drop}
use Rattle.porch_types.specs.declared.shapes.Ty.{Ty}
use Rattle.porch_types.specs.declared.shapes.Ty.TheVariants.{Whole, Pointer, Array, Struct}
use Rattle.porch_types.specs.Leaves.{parts_of, leaves_together, leaf_count, leaves_of, IsFormed}
use Rattle.porch_layout.specs.declared.layout.Layout.{Layout}
use Rattle.porch_layout.specs.Layouts.{IsLayout}
use Rattle.porch_metrics.specs.declared.table.Measured.{Measured}
use Rattle.porch_metrics.specs.Extents.{Extent, greatest_align, type_extent, extent_in, extents_of, extent_of}
use Rattle.porch_metrics.specs.inside.Tables.{AreCounted, extent, places_of, AreMeasured, IsSmall}
use Rattle.porch_metrics.proofs.Extended.{extents_kept, extents_next, places_same}
use Rattle.porch_metrics.proofs.Bounds.{IsBounded, bounded, power_some}

pub greatest_le : (f : ℕ → Extent) (least : ℕ) (ms : List ℕ) → least ≤ greatest_align f least ms
greatest_le f least [] = omega arith
greatest_le f least (m ∷ ms) = omega (arith, greatest_le f least ms)

pub take_next : {A : Type 0} (xs : List A) (i : ℕ) (y : A) → slice_get xs i ≡ Some y → take (suc i) xs ≡ take i xs ++ y ∷ []
take_next [] i y h = cc
take_next (x ∷ xs) zero y h = let e : x ≡ y = cc in ap (λ z. z ∷ []) e
take_next (x ∷ xs) (suc i) y h = ap (λ r. x ∷ r) (take_next xs i y h)

pub take_all : {A : Type 0} (xs : List A) (i : ℕ) → length xs ≤ i → take i xs ≡ xs
take_all [] zero h = refl
take_all [] (suc i) h = refl
take_all (x ∷ xs) zero h = absurd (omega arith)
take_all (x ∷ xs) (suc i) h = ap (λ r. x ∷ r) (take_all xs i (omega (arith, h)))

-- what stands in a list with one more element stood there, or is that element
at_end : {A : Type 0} (xs : List A) (y z : A) (n : ℕ) → slice_get (xs ++ y ∷ []) n ≡ Some z
    → ((n < length xs) × (slice_get xs n ≡ Some z)) ⊎ ((n ≡ length xs) × (z ≡ y))
at_end [] y z zero h = let e : z ≡ y = cc in inr (refl, e)
at_end [] y z (suc n) h = cc
at_end (x ∷ xs) y z zero h = inl (omega arith, h)
at_end (x ∷ xs) y z (suc n) h =
    elim (at_end xs y z n h) as (λ _. ((suc n < suc (length xs)) × (slice_get xs n ≡ Some z)) ⊎ ((suc n ≡ suc (length xs)) × (z ≡ y)))
    [ inl p ↦ inl (omega (arith, p.0), p.1) | inr p ↦ inr (ap suc p.0, p.1) ]

slice_get_take : {A : Type 0} (xs : List A) (i n : ℕ) (y : A) → slice_get (take i xs) n ≡ Some y → slice_get xs n ≡ Some y
slice_get_take [] zero n y h = cc
slice_get_take [] (suc i) n y h = cc
slice_get_take (x ∷ xs) zero n y h = cc
slice_get_take (x ∷ xs) (suc i) zero y h = h
slice_get_take (x ∷ xs) (suc i) (suc n) y h = slice_get_take xs i n y h

together_many : (f : ℕ → ℕ) (ms : List ℕ) → ((k : ℕ) → k < length ms → 0 < f (get_or ms k 0)) → length ms ≤ leaves_together f ms
together_many f [] e = omega arith
together_many f (m ∷ ms) e = let here : 0 < f m = e 0 (omega arith) in omega (arith, here, together_many f ms (λ k lt. e (suc k) (omega (arith, lt))))

parts_leaves : (types : List Ty) (n : ℕ) (ty : Ty) → AreCounted types → n < length types → IsFormed types n ty → leaves_of types n ≡ leaf_count (leaves_of types) ty → length (parts_of ty) ≤ 1048576
parts_leaves types n (Whole kind) formed within f is = omega arith
parts_leaves types n (Pointer to) formed within f is = omega arith
parts_leaves types n (Array of count) formed within f is = omega arith
parts_leaves types n (Struct members) formed within f is =
    omega (
      arith,
      f.small,
      is,
      together_many (leaves_of types) members
          (λ k lt. let e : get_or members k 0 < n = f.earlier k 0 lt in formed.some (get_or members k 0) (omega (arith, e, within))),
    )

-- a type has few parts, since each has a leaf
pub parts_few : (types : List Ty) (n : ℕ) (ty : Ty) → AreCounted types → slice_get types n ≡ Some ty → length (parts_of ty) ≤ 1048576
parts_few types n ty formed at =
    let f : IsFormed types n ty = formed.each n ty at in
    parts_leaves types n ty formed (slice_get_within types n ty at) f (formed.together n ty at)

first_kept : (l : Layout) (types : List Ty) (i n : ℕ) → n < i → i ≤ length types → extent_of l (take i types) n ≡ extent_of l types n
first_kept l types i n lt le =
    sym (extents_kept l (take i types) (drop i types) n (omega (arith, lt, length-take-le i types le)))
    ∙ ap (λ ts. extent_of l ts n) (take-append-drop i types)

pub few_leaves : (types : List Ty) (n : ℕ) → AreCounted types → n < length types → leaves_of types n ≤ 1048576
few_leaves types n formed within =
    let ty : Ty = get_or types n (Pointer 0) in
    (formed.each n ty (slice_get-get_or types n (Pointer 0) within)).small

-- what was measured is small
pub measured_small : (l : Layout) (types : List Ty) (measured : List Measured) (i n : ℕ) → IsLayout l → AreCounted types → AreMeasured l (take i types) measured
    → n < i → i ≤ length types → IsSmall (extent_in (map extent measured) n)
measured_small l types measured i n is formed first lt le =
    let e : extent_in (map extent measured) n ≡ extent_of l types n = ap (λ es. extent_in es n) first.extents ∙ first_kept l types i n lt le in
    let b : IsBounded (extent_of l types n) (leaves_of types n) = bounded l types n is formed (omega (arith, lt, le)) in
    let p : (0 < (extent_of l types n).align) × ((extent_of l types n).align ≤ 8) = power_some (extent_of l types n).align b.power in
    let few : leaves_of types n ≤ 1048576 = few_leaves types n formed (omega (arith, lt, le)) in
    subst IsSmall (sym e) (record { size = omega (arith, b.size, few); some = p.0; align = p.1 })

placed_put : (l : Layout) (types : List Ty) (ty : Ty) (measured : List Measured) (new : Measured) → AreMeasured l types measured → length measured ≡ length types
    → new.places.items ≡ places_of (extent_of l types) ty → All (λ p. p < length types) (parts_of ty)
    → (n : ℕ) (this : Ty) (m : Measured) → All (λ p. p < n) (parts_of this)
    → ((n < length types) × (slice_get types n ≡ Some this)) ⊎ ((n ≡ length types) × (this ≡ ty))
    → ((n < length measured) × (slice_get measured n ≡ Some m)) ⊎ ((n ≡ length measured) × (m ≡ new))
    → m.places.items ≡ places_of (extent_of l (types ++ ty ∷ [])) this
placed_put l types ty measured new are count places earlier n this m below (inl a) (inl b) =
    are.placed n this m a.1 b.1
    ∙ places_same (extent_of l types) (extent_of l (types ++ ty ∷ [])) n this below (λ p lt. sym (extents_kept l types (ty ∷ []) p (omega (arith, lt, a.0))))
placed_put l types ty measured new are count places earlier n this m below (inl a) (inr b) = absurd (omega (arith, a.0, b.0, count))
placed_put l types ty measured new are count places earlier n this m below (inr a) (inl b) = absurd (omega (arith, a.0, b.0, count))
placed_put l types ty measured new are count places earlier n this m below (inr a) (inr b) =
    ap (λ (x : Measured). x.places.items) b.1 ∙ places
    ∙ places_same (extent_of l types) (extent_of l (types ++ ty ∷ [])) (length types) ty earlier (λ p lt. sym (extents_kept l types (ty ∷ []) p lt))
    ∙ ap (places_of (extent_of l (types ++ ty ∷ []))) (sym a.1)

measured_next : (l : Layout) (whole types : List Ty) (ty : Ty) (measured : List Measured) (new : Measured) → AreCounted whole → AreMeasured l types measured → length measured ≡ length types
    → ((n : ℕ) (this : Ty) → slice_get (types ++ ty ∷ []) n ≡ Some this → slice_get whole n ≡ Some this)
    → extent new ≡ type_extent l (extent_of l types) ty → new.places.items ≡ places_of (extent_of l types) ty → All (λ p. p < length types) (parts_of ty)
    → AreMeasured l (types ++ ty ∷ []) (measured ++ new ∷ [])
measured_next l whole types ty measured new formed are count inside e places earlier = record {
  extents = map-append extent measured (new ∷ [])
      ∙ ap (λ xs. xs ++ extent new ∷ []) are.extents
      ∙ ap (λ x. extents_of l types ++ x ∷ []) e
      ∙ sym (extents_next l types ty);
  placed = λ n this m at there.
      placed_put l types ty measured new are count places earlier n this m (formed.each n this (inside n this at)).earlier
      (at_end types ty this n at) (at_end measured new m n there);
}

-- one more type is measured
pub measured_put : (l : Layout) (types : List Ty) (i : ℕ) (ty : Ty) (measured : List Measured) (new : Measured) → AreCounted types → AreMeasured l (take i types) measured → length measured ≡ i
    → slice_get types i ≡ Some ty → extent new ≡ type_extent l (extent_in (map extent measured)) ty → new.places.items ≡ places_of (extent_in (map extent measured)) ty
    → AreMeasured l (take (i + 1) types) (measured ++ new ∷ [])
measured_put l types i ty measured new formed are count at e places =
    let t : take (suc i) types ≡ take i types ++ ty ∷ [] = take_next types i ty at in
    let s : suc i ≡ i + 1 = omega arith in
    let within : i < length types = slice_get_within types i ty at in
    let len : length (take i types) ≡ i = length-take-le i types (omega (arith, within)) in
    let f : IsFormed types i ty = formed.each i ty at in
    let next : AreMeasured l (take i types ++ ty ∷ []) (measured ++ new ∷ []) =
    measured_next l types (take i types) ty measured new formed are (count ∙ sym len)
    (λ n this h. slice_get_take types (suc i) n this (subst (λ ts. slice_get ts n ≡ Some this) (sym t) h))
    (e ∙ ap (λ es. type_extent l (extent_in es) ty) are.extents)
    (places ∙ ap (λ es. places_of (extent_in es) ty) are.extents)
    (subst (λ k. All (λ p. p < k) (parts_of ty)) (sym len) f.earlier) in
    subst (λ n. AreMeasured l (take n types) (measured ++ new ∷ [])) s (subst (λ ts. AreMeasured l ts (measured ++ new ∷ [])) (sym t) next)
