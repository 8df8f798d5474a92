-- A leaf of an array is one of its elements, found by division.
use Rattle.std.proofs.Common.{◌≡◌, ℕ, ◌+◌, ◌-◌, ◌*◌, ◌/◌, ◌%◌, ◌<◌, ◌≤◌, List, length, slice_get, Some, refl, ap, sym, ◌∙◌, arith}
use Rattle.std.proofs.lemmas.Nat.{div-add-mod', mul-le}
use Rattle.porch_types.specs.declared.shapes.Ty.{Ty}
use Rattle.porch_types.specs.declared.shapes.Ty.TheVariants.{Array}
use Rattle.porch_types.specs.Leaves.{leaves_of}
use Rattle.porch_layout.specs.declared.layout.Layout.{Layout}
use Rattle.porch_metrics.specs.Extents.{extent_of}
use Rattle.porch_metrics.specs.Places.{place_of}
use Rattle.porch_find.specs.inside.Measured.{AreMeasured}
use Rattle.porch_find.proofs.Elements.{lies, holds}

-- a leaf of `ty` at the byte lies in `whole`, which begins `before` leaves in, at `inner`
abbrev pub LiesDown : Layout → List Ty → ℕ → ℕ → ℕ → ℕ → ℕ → Type 0
LiesDown l types ty byte whole before inner = (leaf : ℕ) → leaf < leaves_of types ty → place_of l types ty leaf ≡ byte
    → (before ≤ leaf) × (leaf - before < leaves_of types whole) × (place_of l types whole (leaf - before) ≡ inner)

-- and the other way round
abbrev pub LiesUp : Layout → List Ty → ℕ → ℕ → ℕ → ℕ → ℕ → Type 0
LiesUp l types ty byte whole before inner = (leaf : ℕ) → leaf < leaves_of types whole → place_of l types whole leaf ≡ inner → place_of l types ty (before + leaf) ≡ byte

pub record InElement (l : Layout) (types : List Ty) (of n inner leaf : ℕ) : Type 0 where
  pub index : inner / (extent_of l types of).size < n
  pub before : inner / (extent_of l types of).size * leaves_of types of ≤ leaf
  pub within : leaf - inner / (extent_of l types of).size * leaves_of types of < leaves_of types of
  pub at : place_of l types of (leaf - inner / (extent_of l types of).size * leaves_of types of) ≡ inner % (extent_of l types of).size

pub in_element_of : (l : Layout) (types : List Ty) (whole of n inner leaf : ℕ) → AreMeasured l types → of < length types → slice_get types whole ≡ Some (Array of n) → leaf < leaves_of types whole → place_of l types whole leaf ≡ inner → InElement l types of n inner leaf
in_element_of l types whole of n inner leaf m known array lt at =
    let many = leaves_of types of in
    let less : leaf < n * many = omega (arith, lt, m.counts whole of n array) in
    let h = holds l types of n inner leaf m known less (sym (m.arrays whole of n leaf array less) ∙ at) in
    let front : leaf / many * many ≡ inner / (extent_of l types of).size * many = ap (λ x. x * many) h.index in
    let all : leaf / many * many + leaf % many ≡ leaf = div-add-mod' leaf many in
    let rest : leaf - inner / (extent_of l types of).size * many ≡ leaf % many = omega (arith, front, all) in
    record {
      index = h.element;
      before = omega (arith, front, all);
      within = omega (arith, rest, h.within);
      at = ap (place_of l types of) rest ∙ h.inner;
    }

pub down_next : (l : Layout) (types : List Ty) (ty byte whole of n before inner : ℕ) → AreMeasured l types → of < length types → slice_get types whole ≡ Some (Array of n) → LiesDown l types ty byte whole before inner
    → LiesDown l types ty byte of (before + inner / (extent_of l types of).size * leaves_of types of) (inner % (extent_of l types of).size)
down_next l types ty byte whole of n before inner m known array down leaf lt at =
    let d = down leaf lt at in
    let k = inner / (extent_of l types of).size * leaves_of types of in
    let s = in_element_of l types whole of n inner (leaf - before) m known array d.1 d.2 in
    let same : leaf - (before + k) ≡ leaf - before - k = omega (arith, d.0, s.before) in
    (omega (arith, d.0, s.before), omega (arith, same, s.within), ap (place_of l types of) same ∙ s.at)

pub up_next : (l : Layout) (types : List Ty) (ty byte whole of n before inner : ℕ) → AreMeasured l types → of < length types → slice_get types whole ≡ Some (Array of n) → inner / (extent_of l types of).size < n → LiesUp l types ty byte whole before inner
    → LiesUp l types ty byte of (before + inner / (extent_of l types of).size * leaves_of types of) (inner % (extent_of l types of).size)
up_next l types ty byte whole of n before inner m known array less up leaf lt at =
    let many = leaves_of types of in
    let k = inner / (extent_of l types of).size * many in
    let s = lies l types of n inner leaf (extent_of l types of).size many m known refl refl less lt at in
    let joined : before + k + leaf ≡ before + (k + leaf) = omega arith in
    ap (place_of l types ty) joined ∙ up (k + leaf) (omega (arith, s.within, m.counts whole of n array)) (m.arrays whole of n (k + leaf) array s.within ∙ s.at)

pub room_next : (n index many whole : ℕ) → whole ≡ n * many → index < n → index * many + many ≤ whole
room_next n index many whole is less =
    let most : (index + 1) * many ≤ n * many = mul-le (index + 1) many n many (omega (arith, less)) (omega arith) in
    let one_more : (index + 1) * many ≡ index * many + many = grind arith in
    omega (arith, is, most, one_more)

pub part_known : (l : Layout) (types : List Ty) (whole of n : ℕ) → AreMeasured l types → whole < length types → slice_get types whole ≡ Some (Array of n) → of < length types
part_known l types whole of n m known array = omega (arith, m.earlier whole of n array, known)
