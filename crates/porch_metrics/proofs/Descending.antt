-- Going down to a leaf: where parts begin, and how far that is.
use Rattle.std.proofs.Common.{◌≡◌, ℕ, zero, suc, ◌+◌, ◌-◌, ◌*◌, ◌/◌, ◌<◌, ◌≤◌, cond, nat_lt, true, false, List, [], ◌∷◌, length, get_or, slice_get, Option, Some, None, refl, arith, ap, sym, ◌∙◌, subst, take, All}
use Rattle.std.specs.Option.{option_map_or}
use Rattle.std.proofs.lemmas.Bool.{ltb-true, ltb-false}
use Rattle.std.proofs.lemmas.Option.{slice_get_within, get_or_from_slice_get}
use Rattle.std.proofs.Math.Nat.{div-mul-le_self, lt-div-mul-add}
use Rattle.porch_types.specs.declared.shapes.Ty.{Ty}
use Rattle.porch_types.specs.declared.shapes.Ty.TheVariants.{Whole, Pointer, Array, Struct}
use Rattle.porch_types.specs.declared.parts.Part.{Part}
use Rattle.porch_types.specs.Leaves.{leaves_together, leaves_of, IsFormed}
use Rattle.porch_types.specs.Rows.{part_at, part_of, element_at, member_at}
use Rattle.porch_layout.specs.declared.layout.Layout.{Layout}
use Rattle.porch_layout.specs.Layouts.{IsLayout}
use Rattle.porch_metrics.specs.Extents.{extent_of, member_places}
use Rattle.porch_metrics.specs.Places.{part_place, place_within}
use Rattle.porch_metrics.specs.inside.Tables.{AreCounted}
use Rattle.porch_metrics.proofs.Bounds.{IsBounded, bounded, place_bound, array_bound}

-- a part that holds a leaf, which is number `part.index` of its whole
pub record Holds (types : List Ty) (ty leaf : ℕ) (part : Part) : Type 0 where
  pub below : part.first ≤ leaf
  pub inside : leaf < part.first + leaves_of types part.ty
  pub earlier : part.ty < ty

pub record MemberIs (f : ℕ → ℕ) (ms : List ℕ) (index first place : ℕ) (part : Part) : Type 0 where
  pub i : ℕ
  pub is : part.index ≡ index + i
  pub at : slice_get ms i ≡ Some part.ty
  pub begins : part.first ≡ first + leaves_together f (take i ms)
  pub below : part.first ≤ place
  pub inside : place < part.first + f part.ty

member_here : (f : ℕ → ℕ) (m : ℕ) (ms : List ℕ) (index first place : ℕ) (part : Part) → first ≤ place → place < first + f m
    → Some (record { ty = m; index = index; first = first; row = record { first = first; len = 1 } }) ≡ Some part → MemberIs f (m ∷ ms) index first place part
member_here f m ms index first place part le lt h =
    let this : Part = record { ty = m; index = index; first = first; row = record { first = first; len = 1 } } in
    let e : this ≡ part = cc in
    let at : MemberIs f (m ∷ ms) index first place this = record { i = 0; is = omega arith; at = refl; begins = omega arith; below = le; inside = lt } in
    subst (MemberIs f (m ∷ ms) index first place) e at

member_there : (f : ℕ → ℕ) (m : ℕ) (ms : List ℕ) (index first place : ℕ) (part : Part) → MemberIs f ms (index + 1) (first + f m) place part → MemberIs f (m ∷ ms) index first place part
member_there f m ms index first place part h =
    record { i = suc h.i; is = omega (arith, h.is); at = h.at; begins = omega (arith, h.begins); below = h.below; inside = h.inside }

pub member_is : (f : ℕ → ℕ) (ms : List ℕ) (index first place : ℕ) (part : Part) → first ≤ place → member_at f ms index first place ≡ Some part → MemberIs f ms index first place part
member_is f [] index first place part le h = cc
member_is f (m ∷ ms) index first place part le h =
    elim (nat_lt place (first + f m)) as (λ b. nat_lt place (first + f m) ≡ b
    → cond b (Some (record { ty = m; index = index; first = first; row = record { first = first; len = 1 } })) (member_at f ms (index + 1) (first + f m) place) ≡ Some part
    → MemberIs f (m ∷ ms) index first place part) [
      | true ↦ λ e s. member_here f m ms index first place part le (ltb-true place (first + f m) e) s
      | false ↦ λ e s. member_there f m ms index first place part (member_is f ms (index + 1) (first + f m) place part (ltb-false place (first + f m) e) s)
    ] refl h

pub record ElementIs (of leaves count place : ℕ) (part : Part) : Type 0 where
  pub ty : part.ty ≡ of
  pub index : part.index < count
  pub begins : part.first ≡ part.index * leaves
  pub below : part.first ≤ place
  pub inside : place < part.first + leaves

pub element_is : (of leaves count place : ℕ) (part : Part) → 0 < leaves → element_at of leaves count place ≡ Some part → ElementIs of leaves count place part
element_is of leaves count place part some h =
    elim (nat_lt (place / leaves) count) as (λ b. nat_lt (place / leaves) count ≡ b
    → cond b (Some (record { ty = of; index = place / leaves; first = place / leaves * leaves; row = record { first = 0; len = count } })) None ≡ Some part
    → ElementIs of leaves count place part) [
      | true ↦ λ e s.
          let this : Part = record { ty = of; index = place / leaves; first = place / leaves * leaves; row = record { first = 0; len = count } } in
          let same : this ≡ part = cc in
          let at : ElementIs of leaves count place this = record {
            ty = refl;
            index = ltb-true (place / leaves) count e;
            begins = refl;
            below = div-mul-le_self place leaves;
            inside = lt-div-mul-add some;
          } in
          subst (ElementIs of leaves count place) same at
      | false ↦ λ e s. cc
    ] refl h

-- how a part that holds a leaf lies in its whole
pub record Lies (l : Layout) (types : List Ty) (ty leaf : ℕ) (o : Option Ty) (part : Part) : Type 0 where
  pub holds : Holds types ty leaf part
  pub bound : part_place (extent_of l types) o part.index ≤ 8 * part.first

lies_array : (l : Layout) (types : List Ty) (ty leaf of n : ℕ) (part : Part) → IsLayout l → AreCounted types → slice_get types ty ≡ Some (Array of n) → part_of types (Some (Array of n)) leaf ≡ Some part
    → Lies l types ty leaf (Some (Array of n)) part
lies_array l types ty leaf of n part is formed at h =
    let earlier : of < ty = (formed.each ty (Array of n) at).earlier 0 0 (omega arith) in
    let within : of < length types = omega (arith, earlier, slice_get_within types ty (Array of n) at) in
    let e : ElementIs of (leaves_of types of) n leaf part = element_is of (leaves_of types of) n leaf part (formed.some of within) h in
    let b : IsBounded (extent_of l types of) (leaves_of types of) = bounded l types of is formed within in
    record {
      holds = record { below = e.below; inside = subst (λ x. leaf < part.first + leaves_of types x) (sym e.ty) e.inside; earlier = omega (arith, e.ty, earlier) };
      bound = omega (arith, e.begins, array_bound part.index (extent_of l types of).size (leaves_of types of) b.size);
    }

lies_struct : (l : Layout) (types : List Ty) (ty leaf : ℕ) (members : List ℕ) (part : Part) → IsLayout l → AreCounted types → slice_get types ty ≡ Some (Struct members)
    → part_of types (Some (Struct members)) leaf ≡ Some part → Lies l types ty leaf (Some (Struct members)) part
lies_struct l types ty leaf members part is formed at h =
    let m : MemberIs (leaves_of types) members 0 0 leaf part = member_is (leaves_of types) members 0 0 leaf part (omega arith) h in
    let f : IsFormed types ty (Struct members) = formed.each ty (Struct members) at in
    let within : ty < length types = slice_get_within types ty (Struct members) at in
    let at_i : m.i < length members = slice_get_within members m.i part.ty m.at in
    let e : get_or members m.i 0 ≡ part.ty = get_or_from_slice_get members m.i part.ty 0 m.at in
    let index : part.index ≡ m.i = omega (arith, m.is) in
    let each : All (λ x. IsBounded (extent_of l types x) (leaves_of types x)) members =
    λ k d lt. let below : get_or members k d < ty = f.earlier k d lt in bounded l types (get_or members k d) is formed (omega (arith, below, within)) in
    let p : get_or (member_places (extent_of l types) 0 members) m.i 0 ≤ 8 * (0 + leaves_together (leaves_of types) (take m.i members)) =
    place_bound (extent_of l types) (leaves_of types) 0 0 members m.i each (omega arith) at_i in
    record {
      holds = record { below = m.below; inside = m.inside; earlier = subst (λ x. x < ty) e (f.earlier m.i 0 at_i) };
      bound = subst (λ i. get_or (member_places (extent_of l types) 0 members) i 0 ≤ 8 * part.first) (sym index) (omega (arith, p, m.begins));
    }

lies_option : (l : Layout) (types : List Ty) (ty leaf : ℕ) (o : Option Ty) (part : Part) → IsLayout l → AreCounted types → slice_get types ty ≡ o → part_of types o leaf ≡ Some part → Lies l types ty leaf o part
lies_option l types ty leaf None part is formed at h = cc
lies_option l types ty leaf (Some (Whole kind)) part is formed at h = cc
lies_option l types ty leaf (Some (Pointer to)) part is formed at h = cc
lies_option l types ty leaf (Some (Array of n)) part is formed at h = lies_array l types ty leaf of n part is formed at h
lies_option l types ty leaf (Some (Struct members)) part is formed at h = lies_struct l types ty leaf members part is formed at h

pub lies : (l : Layout) (types : List Ty) (ty leaf : ℕ) (part : Part) → IsLayout l → AreCounted types → part_at types ty leaf ≡ Some part → Lies l types ty leaf (slice_get types ty) part
lies l types ty leaf part is formed h = lies_option l types ty leaf (slice_get types ty) part is formed refl h

same_option : (l : Layout) (types : List Ty) (n m ty leaf : ℕ) (o : Option Part) → ((part : Part) → o ≡ Some part → place_within n l types part.ty (leaf - part.first) ≡ place_within m l types part.ty (leaf - part.first))
    → option_map_or (λ part. part_place (extent_of l types) (slice_get types ty) part.index + place_within n l types part.ty (leaf - part.first)) o 0
    ≡ option_map_or (λ part. part_place (extent_of l types) (slice_get types ty) part.index + place_within m l types part.ty (leaf - part.first)) o 0
same_option l types n m ty leaf None e = refl
same_option l types n m ty leaf (Some part) e = ap (λ x. part_place (extent_of l types) (slice_get types ty) part.index + x) (e part refl)

-- a descent that may go deeper comes to the same place
pub place_same : (l : Layout) (types : List Ty) (n m ty leaf : ℕ) → IsLayout l → AreCounted types → ty < n → ty < m → place_within n l types ty leaf ≡ place_within m l types ty leaf
place_same l types zero m ty leaf is formed a b = absurd (omega (arith, a))
place_same l types (suc n) zero ty leaf is formed a b = absurd (omega (arith, b))
place_same l types (suc n) (suc m) ty leaf is formed a b =
    same_option l types n m ty leaf (part_at types ty leaf)
    (λ part h. let d : Lies l types ty leaf (slice_get types ty) part = lies l types ty leaf part is formed h in
    place_same l types n m part.ty (leaf - part.first) is formed (omega (arith, a, d.holds.earlier)) (omega (arith, b, d.holds.earlier)))

pub place_down : (l : Layout) (types : List Ty) (ty leaf : ℕ) (part : Part) → IsLayout l → AreCounted types → part_at types ty leaf ≡ Some part
    → place_within (suc ty) l types ty leaf ≡ part_place (extent_of l types) (slice_get types ty) part.index + place_within (suc part.ty) l types part.ty (leaf - part.first)
place_down l types ty leaf part is formed h =
    let d : Lies l types ty leaf (slice_get types ty) part = lies l types ty leaf part is formed h in
    ap (λ o. option_map_or (λ part. part_place (extent_of l types) (slice_get types ty) part.index + place_within ty l types part.ty (leaf - part.first)) o 0) h
    ∙ ap (λ x. part_place (extent_of l types) (slice_get types ty) part.index + x)
    (place_same l types ty (suc part.ty) part.ty (leaf - part.first) is formed d.holds.earlier (omega arith))

pub place_end : (l : Layout) (types : List Ty) (ty leaf : ℕ) → part_at types ty leaf ≡ None → place_within (suc ty) l types ty leaf ≡ 0
place_end l types ty leaf h = ap (λ o. option_map_or (λ part. part_place (extent_of l types) (slice_get types ty) part.index + place_within ty l types part.ty (leaf - part.first)) o 0) h
