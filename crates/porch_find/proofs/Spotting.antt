-- At most one spot is at a byte.
use Rattle.std.proofs.Common.{◌≡◌, ◌↔◌, ℕ, ◌+◌, ◌-◌, ◌*◌, ◌/◌, ◌<◌, ◌≤◌, Bool, true, false, List, length, Option, Some, None, IsTrue, refl, ap, sym, ◌∙◌, subst, arith}
use Rattle.std.proofs.Math.Bool.{not}
use Rattle.std.proofs.Math.Nat.{mul-div_cancel}
use Rattle.porch_types.specs.declared.shapes.Ty.{Ty}
use Rattle.porch_types.specs.declared.parts.Row.{Row}
use Rattle.porch_types.specs.Leaves.{leaves_of}
use Rattle.porch_types.specs.Rows.{IsRowAt, IsSubobject}
use Rattle.porch_layout.specs.declared.layout.Layout.{Layout}
use Rattle.porch_metrics.specs.Extents.{extent_of}
use Rattle.porch_metrics.specs.Places.{place_of}
use Rattle.porch_find.specs.declared.spot.Spot.{Spot}
use Rattle.porch_find.specs.Spots.{BeginsAt, EndsAt, IsSpot}
use Rattle.porch_find.specs.inside.Measured.{AreMeasured}
use Rattle.porch_find.proofs.Rising.{follows, is_before, is_one}
use Rattle.porch_find.proofs.Elements.{place_within}

-- a leaf at which a subobject begins is one of the object
pub is_within : (l : Layout) (types : List Ty) (root count pointee leaf : ℕ) → AreMeasured l types → root < length types → IsSubobject types root count leaf pointee → leaf < count * leaves_of types root
is_within l types root count pointee leaf m known sub =
    omega (arith, m.inside root count leaf pointee sub, m.some pointee (m.known root count leaf pointee known sub))

pub begins_one : (l : Layout) (types : List Ty) (root count byte pointee a b : ℕ) → AreMeasured l types → root < length types → BeginsAt l types root count byte pointee a → BeginsAt l types root count byte pointee b → a ≡ b
begins_one l types root count byte pointee a b m known x y = is_one (place_of l types root) a b (λ i j. m.rise root i j known) (sym x.at ∙ y.at)

pub ends_one : (l : Layout) (types : List Ty) (root count byte pointee a b : ℕ) → AreMeasured l types → root < length types → EndsAt l types root count byte pointee a → EndsAt l types root count byte pointee b → a ≡ b
ends_one l types root count byte pointee a b m known x y =
    let same : place_of l types root a ≡ place_of l types root b = omega (arith, x.at, y.at) in
    is_one (place_of l types root) a b (λ i j. m.rise root i j known) same

-- where a subobject begins no unshared end of one lies
pub not_both : (l : Layout) (types : List Ty) (root count byte pointee a b : ℕ) → AreMeasured l types → root < length types → EndsAt l types root count byte pointee a → BeginsAt l types root count byte pointee b → ⊥
not_both l types root count byte pointee a b m known x y =
    let p = place_of l types root in
    let n = leaves_of types pointee in
    let s = (extent_of l types pointee).size in
    let rise : (i j : ℕ) → i < j → p i < p j = λ i j. m.rise root i j known in
    let sub : IsSubobject types root count a pointee = (x.is.row, x.is.is) in
    let there : pointee < length types = m.known root count a pointee known sub in
    let later : a < b = is_before p a b rise (omega (arith, x.at, y.at, m.sizes pointee there)) in
    let outside : b < a + n → ⊥ = λ lt.
    let d : ℕ = b - a in
    let back : a + d ≡ b = omega (arith, later) in
    let within : d < n = omega (arith, lt, later) in
    let at : p (a + d) ≡ p a + place_of l types pointee d = m.leaves root count a pointee d known sub within in
    omega (arith, at, ap p back, place_within l types pointee d m there within, x.at, y.at) in
    let far : a + n ≤ b = omega (arith, outside) in
    let ends : p a + s ≤ p (a + n) = m.apart root count a pointee (a + n) known sub (omega arith) in
    let same : p (a + n) ≡ p b = omega (arith, ends, follows p (a + n) b rise far, x.at, y.at) in
    let next : a + n ≡ b = is_one p (a + n) b rise same in
    x.is.unshared (subst (λ i. IsSubobject types root count i pointee) (sym next) y.is)

abbrev spot_at : ℕ → Bool → Option Spot
spot_at leaf past = Some (record { leaf = leaf; past = past })

abbrev pub Answers : Layout → List Ty → ℕ → ℕ → ℕ → ℕ → Option Spot → Type 0
Answers l types root count byte pointee found = (spot : Spot) → (found ≡ Some spot) ↔ IsSpot l types root count byte pointee spot

abbrev pub OnSpot : (Spot → Type 0) → Option Spot → Type 0
OnSpot P None = ⊥
OnSpot P (Some spot) = P spot

begin_only : (l : Layout) (types : List Ty) (root count byte pointee leaf other : ℕ) (past : Bool) → AreMeasured l types → root < length types → BeginsAt l types root count byte pointee leaf
    → IsSpot l types root count byte pointee (record { leaf = other; past = past }) → spot_at leaf false ≡ spot_at other past
begin_only l types root count byte pointee leaf other true m known at h = absurd (not_both l types root count byte pointee other leaf m known h at)
begin_only l types root count byte pointee leaf other false m known at h = ap (λ x. spot_at x false) (begins_one l types root count byte pointee leaf other m known at h)

end_only : (l : Layout) (types : List Ty) (root count byte pointee leaf other : ℕ) (past : Bool) → AreMeasured l types → root < length types → EndsAt l types root count byte pointee leaf
    → IsSpot l types root count byte pointee (record { leaf = other; past = past }) → spot_at leaf true ≡ spot_at other past
end_only l types root count byte pointee leaf other true m known at h = ap (λ x. spot_at x true) (ends_one l types root count byte pointee leaf other m known at h)
end_only l types root count byte pointee leaf other false m known at h = absurd (not_both l types root count byte pointee leaf other m known at h)

nothing_there : (l : Layout) (types : List Ty) (root count byte pointee other : ℕ) (past : Bool) → ((leaf : ℕ) → BeginsAt l types root count byte pointee leaf → ⊥) → ((leaf : ℕ) → EndsAt l types root count byte pointee leaf → ⊥)
    → IsSpot l types root count byte pointee (record { leaf = other; past = past }) → ⊥
nothing_there l types root count byte pointee other true begins ends h = ends other h
nothing_there l types root count byte pointee other false begins ends h = begins other h

pub begin_answers : (l : Layout) (types : List Ty) (root count byte pointee leaf : ℕ) → AreMeasured l types → root < length types → BeginsAt l types root count byte pointee leaf
    → Answers l types root count byte pointee (Some (record { leaf = leaf; past = false }))
begin_answers l types root count byte pointee leaf m known at spot =
    (λ e. subst (OnSpot (IsSpot l types root count byte pointee)) e at, λ h. begin_only l types root count byte pointee leaf spot.leaf spot.past m known at h)

pub end_answers : (l : Layout) (types : List Ty) (root count byte pointee leaf : ℕ) → AreMeasured l types → root < length types → EndsAt l types root count byte pointee leaf
    → Answers l types root count byte pointee (Some (record { leaf = leaf; past = true }))
end_answers l types root count byte pointee leaf m known at spot =
    (λ e. subst (OnSpot (IsSpot l types root count byte pointee)) e at, λ h. end_only l types root count byte pointee leaf spot.leaf spot.past m known at h)

pub none_answers : (l : Layout) (types : List Ty) (root count byte pointee : ℕ) → ((leaf : ℕ) → BeginsAt l types root count byte pointee leaf → ⊥) → ((leaf : ℕ) → EndsAt l types root count byte pointee leaf → ⊥)
    → Answers l types root count byte pointee None
none_answers l types root count byte pointee begins ends spot =
    (λ e. cc, λ h. absurd (nothing_there l types root count byte pointee spot.leaf spot.past begins ends h))

-- the last subobject of a row, by its number in it
pub record IsNumbered (types : List Ty) (pointee leaf : ℕ) (row : Row) : Type 0 where
  pub number : ℕ
  pub counted : (leaf - row.first) / leaves_of types pointee ≡ number
  pub at : leaf ≡ row.first + number * leaves_of types pointee
  pub next : leaf + leaves_of types pointee ≡ row.first + (number + 1) * leaves_of types pointee

numbered : (types : List Ty) (root count pointee leaf : ℕ) (row : Row) → 0 < leaves_of types pointee → IsRowAt types root count leaf pointee row → IsNumbered types pointee leaf row
numbered types root count pointee leaf row some is =
    let n = leaves_of types pointee in
    let k = is.element.0 in
    let at : leaf ≡ row.first + k * n = is.element.2 in
    let off : leaf - row.first ≡ k * n = omega (arith, at) in
    let one_more : (k + 1) * n ≡ k * n + n = grind arith in
    record {
      number = k;
      counted = ap (λ x. x / n) off ∙ mul-div_cancel k some;
      at = at;
      next = omega (arith, at, one_more);
    }

pub last_of : (types : List Ty) (root count pointee leaf : ℕ) (row : Row) → 0 < leaves_of types pointee → IsRowAt types root count leaf pointee row
    → (leaf - row.first) / leaves_of types pointee + 1 ≡ row.len → leaf + leaves_of types pointee ≡ row.first + row.len * leaves_of types pointee
last_of types root count pointee leaf row some is last =
    let h = numbered types root count pointee leaf row some is in
    let len : h.number + 1 ≡ row.len = omega (arith, h.counted, last) in
    h.next ∙ ap (λ x. row.first + x * leaves_of types pointee) len

pub last_back : (types : List Ty) (root count pointee leaf : ℕ) (row : Row) → 0 < leaves_of types pointee → IsRowAt types root count leaf pointee row
    → leaf + leaves_of types pointee ≡ row.first + row.len * leaves_of types pointee → (leaf - row.first) / leaves_of types pointee + 1 ≡ row.len
last_back types root count pointee leaf row some is last =
    let n = leaves_of types pointee in
    let h = numbered types root count pointee leaf row some is in
    let same : (h.number + 1) * n ≡ row.len * n = omega (arith, h.next, last) in
    let len : h.number + 1 ≡ row.len = sym (mul-div_cancel (h.number + 1) some) ∙ ap (λ x. x / n) same ∙ mul-div_cancel row.len some in
    omega (arith, h.counted, len)

-- the test is no where the fact isn't
pub not_yes : IsTrue false → ⊥
not_yes h = cc

pub not_then : (b : Bool) (P : Type 0) → IsTrue b ↔ P → IsTrue (not b) → P → ⊥
not_then true P is h p = not_yes h
not_then false P is h p = not_yes (is.1 p)

pub then_not : (b : Bool) (P : Type 0) → IsTrue b ↔ P → (P → ⊥) → IsTrue (not b)
then_not true P is h = absurd (h (is.0 refl))
then_not false P is h = refl

pub not_so : (b : Bool) (P : Type 0) → IsTrue b ↔ P → b ≡ false → P → ⊥
not_so true P is e p = cc
not_so false P is e p = not_yes (is.1 p)

only_named : (a b : Spot) → Some a ≡ Some b → a ≡ b
only_named a b e = subst (OnSpot (λ s. a ≡ s)) e refl

spots_one_at : (l : Layout) (types : List Ty) (root count byte pointee leaf other : ℕ) (past more : Bool) → AreMeasured l types → root < length types
    → IsSpot l types root count byte pointee (record { leaf = leaf; past = past }) → IsSpot l types root count byte pointee (record { leaf = other; past = more }) → spot_at leaf past ≡ spot_at other more
spots_one_at l types root count byte pointee leaf other false more m known a b = begin_only l types root count byte pointee leaf other more m known a b
spots_one_at l types root count byte pointee leaf other true more m known a b = end_only l types root count byte pointee leaf other more m known a b

pub spots_one : (l : Layout) (types : List Ty) (root count byte pointee : ℕ) (a b : Spot) → AreMeasured l types → root < length types → IsSpot l types root count byte pointee a → IsSpot l types root count byte pointee b → a ≡ b
spots_one l types root count byte pointee a b m known x y = only_named a b (spots_one_at l types root count byte pointee a.leaf b.leaf a.past b.past m known x y)

pub ends_inside : (l : Layout) (types : List Ty) (root count pointee leaf : ℕ) → AreMeasured l types → root < length types → IsSubobject types root count leaf pointee
    → place_of l types root leaf + (extent_of l types pointee).size ≤ count * (extent_of l types root).size
ends_inside l types root count pointee leaf m known sub =
    omega (arith, m.apart root count leaf pointee (count * leaves_of types root) known sub (m.inside root count leaf pointee sub), m.elements root count known)
