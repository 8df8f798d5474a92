-- How large types are: at most eight bytes for each leaf, at alignments of 1, 2, 4 or 8.
use Rattle.std.proofs.Common.{◌≡◌, ◌⊎◌, inl, inr, ℕ, zero, suc, ◌+◌, ◌*◌, ◌<◌, ◌≤◌, max, List, [], ◌∷◌, length, get_or, slice_get, Some, refl, arith, sym, subst, All, take, nat_lt, true, false}
use Rattle.std.proofs.lemmas.Bool.{ltb-true, ltb-false}
use Rattle.std.proofs.lemmas.Option.{slice_get-get_or}
use Rattle.std.proofs.Math.Nat.{mul-le-mul_left}
use Rattle.porch_types.specs.declared.shapes.Kind.{Kind}
use Rattle.porch_types.specs.declared.shapes.Kind.TheVariants.{Char, UChar, Short, UShort, Int, UInt, Long, ULong}
use Rattle.porch_types.specs.declared.shapes.Ty.{Ty}
use Rattle.porch_types.specs.declared.shapes.Ty.TheVariants.{Whole, Pointer, Array, Struct}
use Rattle.porch_types.specs.Leaves.{parts_of, leaves_together, leaf_count, leaves_of, IsFormed}
use Rattle.porch_layout.specs.declared.layout.Layout.{Layout}
use Rattle.porch_layout.specs.Layouts.{IsAlignment, IsLayout, IsSize}
use Rattle.porch_metrics.specs.Extents.{Extent, kind_extent, round_up, greatest_align, member_places, members_end, type_extent, extent_of}
use Rattle.porch_metrics.specs.inside.Tables.{AreCounted}
use Rattle.porch_metrics.proofs.Extended.{extent_is}

pub record IsBounded (e : Extent) (leaves : ℕ) : Type 0 where
  pub power : IsAlignment e.align
  pub size : e.size ≤ 8 * leaves

round_1 : (p x : ℕ) → p ≤ 8 * x → round_up p 1 ≤ 8 * x
round_1 p x h = omega (arith, h)

round_2 : (p x : ℕ) → p ≤ 8 * x → round_up p 2 ≤ 8 * x
round_2 p x h = omega (arith, h)

round_4 : (p x : ℕ) → p ≤ 8 * x → round_up p 4 ≤ 8 * x
round_4 p x h = omega (arith, h)

round_8 : (p x : ℕ) → p ≤ 8 * x → round_up p 8 ≤ 8 * x
round_8 p x h = omega (arith, h)

-- a bound that is a multiple of eight outlasts rounding
pub round_bound : (p x a : ℕ) → IsAlignment a → p ≤ 8 * x → round_up p a ≤ 8 * x
round_bound p x a (inl e) h = subst (λ n. round_up p n ≤ 8 * x) (sym e) (round_1 p x h)
round_bound p x a (inr (inl e)) h = subst (λ n. round_up p n ≤ 8 * x) (sym e) (round_2 p x h)
round_bound p x a (inr (inr (inl e))) h = subst (λ n. round_up p n ≤ 8 * x) (sym e) (round_4 p x h)
round_bound p x a (inr (inr (inr e))) h = subst (λ n. round_up p n ≤ 8 * x) (sym e) (round_8 p x h)

pub power_some : (a : ℕ) → IsAlignment a → (0 < a) × (a ≤ 8)
power_some a (inl e) = (omega arith, omega arith)
power_some a (inr (inl e)) = (omega arith, omega arith)
power_some a (inr (inr (inl e))) = (omega arith, omega arith)
power_some a (inr (inr (inr e))) = (omega arith, omega arith)

max_is : (a b : ℕ) → (max a b ≡ a) ⊎ (max a b ≡ b)
max_is a b =
    elim (nat_lt a b) as (λ t. nat_lt a b ≡ t → (max a b ≡ a) ⊎ (max a b ≡ b)) [
      | true ↦ λ e. let h : a < b = ltb-true a b e in inr (omega arith)
      | false ↦ λ e. let h : b ≤ a = ltb-false a b e in inl (omega arith)
    ] refl

max_power : (a b : ℕ) → IsAlignment a → IsAlignment b → IsAlignment (max a b)
max_power a b p q = elim (max_is a b) as (λ _. IsAlignment (max a b)) [ inl e ↦ subst IsAlignment (sym e) p | inr e ↦ subst IsAlignment (sym e) q ]

size_le : (n : ℕ) → IsSize n → n ≤ 8 * 1
size_le n (inl e) = omega arith
size_le n (inr e) = omega arith

kind_bounded : (l : Layout) (kind : Kind) → IsLayout l → IsBounded (kind_extent l kind) 1
kind_bounded l Char is = record { power = inl refl; size = omega arith }
kind_bounded l UChar is = record { power = inl refl; size = omega arith }
kind_bounded l Short is = record { power = is.align_short.alignment; size = omega arith }
kind_bounded l UShort is = record { power = is.align_short.alignment; size = omega arith }
kind_bounded l Int is = record { power = is.align_int.alignment; size = omega arith }
kind_bounded l UInt is = record { power = is.align_int.alignment; size = omega arith }
kind_bounded l Long is = record { power = is.align_long.alignment; size = size_le l.long is.long }
kind_bounded l ULong is = record { power = is.align_long.alignment; size = size_le l.long is.long }

greatest_power : (f : ℕ → Extent) (leaves : ℕ → ℕ) (least : ℕ) (ms : List ℕ) → IsAlignment least → All (λ m. IsBounded (f m) (leaves m)) ms → IsAlignment (greatest_align f least ms)
greatest_power f leaves least [] p a = p
greatest_power f leaves least (m ∷ ms) p a =
    max_power (f m).align (greatest_align f least ms) (a 0 0 (omega arith)).power (greatest_power f leaves least ms p (λ k d lt. a (suc k) d (omega (arith, lt))))

member_bound : (e : Extent) (end x leaves : ℕ) → IsBounded e leaves → end ≤ 8 * x → round_up end e.align + e.size ≤ 8 * (x + leaves)
member_bound e end x leaves b h = omega (arith, round_bound end x e.align b.power h, b.size)

pub end_bound : (f : ℕ → Extent) (leaves : ℕ → ℕ) (end x : ℕ) (ms : List ℕ) → All (λ m. IsBounded (f m) (leaves m)) ms → end ≤ 8 * x → members_end f end ms ≤ 8 * (x + leaves_together leaves ms)
end_bound f leaves end x [] a h = omega (arith, h)
end_bound f leaves end x (m ∷ ms) a h =
    omega (
      arith,
      end_bound f leaves (round_up end (f m).align + (f m).size) (x + leaves m) ms (λ k d lt. a (suc k) d (omega (arith, lt)))
          (member_bound (f m) end x (leaves m) (a 0 0 (omega arith)) h),
    )

pub place_bound : (f : ℕ → Extent) (leaves : ℕ → ℕ) (end x : ℕ) (ms : List ℕ) (i : ℕ) → All (λ m. IsBounded (f m) (leaves m)) ms → end ≤ 8 * x → i < length ms
    → get_or (member_places f end ms) i 0 ≤ 8 * (x + leaves_together leaves (take i ms))
place_bound f leaves end x [] i a h lt = absurd (omega arith)
place_bound f leaves end x (m ∷ ms) zero a h lt = omega (arith, round_bound end x (f m).align (a 0 0 (omega arith)).power h)
place_bound f leaves end x (m ∷ ms) (suc i) a h lt =
    omega (
      arith,
      place_bound f leaves (round_up end (f m).align + (f m).size) (x + leaves m) ms i (λ k d lt. a (suc k) d (omega (arith, lt)))
          (member_bound (f m) end x (leaves m) (a 0 0 (omega arith)) h) (omega (arith, lt)),
    )

pub array_bound : (count size leaves : ℕ) → size ≤ 8 * leaves → count * size ≤ 8 * (count * leaves)
array_bound count size leaves h =
    let m : count * size ≤ count * (8 * leaves) = mul-le-mul_left count h in
    let e : count * (8 * leaves) ≡ 8 * (count * leaves) = grind arith in
    omega (arith, m, e)

type_bounded : (l : Layout) (f : ℕ → Extent) (leaves : ℕ → ℕ) (ty : Ty) → IsLayout l → All (λ m. IsBounded (f m) (leaves m)) (parts_of ty) → IsBounded (type_extent l f ty) (leaf_count leaves ty)
type_bounded l f leaves (Whole kind) is a = kind_bounded l kind is
type_bounded l f leaves (Pointer to) is a = record { power = is.align_pointer.alignment; size = size_le l.pointer is.pointer }
type_bounded l f leaves (Array of count) is a =
    let b : IsBounded (f of) (leaves of) = a 0 0 (omega arith) in
    record { power = b.power; size = array_bound count (f of).size (leaves of) b.size }
type_bounded l f leaves (Struct members) is a =
    let p : IsAlignment (greatest_align f l.least_struct members) = greatest_power f leaves l.least_struct members is.least_struct.alignment a in
    record { power = p; size = round_bound (members_end f 0 members) (leaves_together leaves members) (greatest_align f l.least_struct members) p (omega (arith, end_bound f leaves 0 0 members a (omega arith))) }

bounded_below : (l : Layout) (types : List Ty) → IsLayout l → AreCounted types → (bound n : ℕ) → n < bound → n < length types → IsBounded (extent_of l types n) (leaves_of types n)
bounded_below l types is formed zero n lt within = absurd (omega arith)
bounded_below l types is formed (suc bound) n lt within =
    let ty : Ty = get_or types n (Pointer 0) in
    let at : slice_get types n ≡ Some ty = slice_get-get_or types n (Pointer 0) within in
    let f : IsFormed types n ty = formed.each n ty at in
    let parts : All (λ m. IsBounded (extent_of l types m) (leaves_of types m)) (parts_of ty) =
    λ k d h. let e : get_or (parts_of ty) k d < n = f.earlier k d h in
    bounded_below l types is formed bound (get_or (parts_of ty) k d) (omega (arith, e, lt)) (omega (arith, e, within)) in
    let b : IsBounded (type_extent l (extent_of l types) ty) (leaf_count (leaves_of types) ty) = type_bounded l (extent_of l types) (leaves_of types) ty is parts in
    subst (λ e. IsBounded e (leaves_of types n)) (sym (extent_is l types n ty f.earlier at))
    (subst (λ x. IsBounded (type_extent l (extent_of l types) ty) x) (sym (formed.together n ty at)) b)

-- each type has at most eight bytes for each leaf
pub bounded : (l : Layout) (types : List Ty) (n : ℕ) → IsLayout l → AreCounted types → n < length types → IsBounded (extent_of l types n) (leaves_of types n)
bounded l types n is formed within = bounded_below l types is formed (suc n) n (omega arith) within
