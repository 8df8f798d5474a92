-- The elements of an object, and where a leaf lies in its element.
use Rattle.std.proofs.Common.{◌≡◌, ℕ, ◌+◌, ◌*◌, ◌/◌, ◌%◌, ◌<◌, ◌≤◌, List, length, ap, sym, ◌∙◌, arith}
use Rattle.std.proofs.Math.Nat.{lt_of_mul-lt-mul_right, mod-lt}
use Rattle.std.proofs.lemmas.Nat.{div-mul-add, mod-mul-add, mul-add-lt, mul-le, div-add-mod'}
use Rattle.porch_types.specs.declared.shapes.Ty.{Ty}
use Rattle.porch_types.specs.Leaves.{leaves_of}
use Rattle.porch_types.specs.Rows.{IsSubobject, elements_of_root}
use Rattle.porch_layout.specs.declared.layout.Layout.{Layout}
use Rattle.porch_metrics.specs.Extents.{extent_of}
use Rattle.porch_metrics.specs.Places.{place_of}
use Rattle.porch_find.specs.inside.Measured.{AreMeasured}
use Rattle.porch_find.proofs.Rising.{at_least}

pub element_is : (types : List Ty) (root k : ℕ) → IsSubobject types root (k + 1) (k * leaves_of types root) root
element_is types root k = (record { first = 0; len = k + 1 }, record { is_row = elements_of_root; element = (k, omega arith, omega arith) })

pub in_element : (l : Layout) (types : List Ty) (root k leaf : ℕ) → AreMeasured l types → root < length types → leaf < leaves_of types root
    → place_of l types root (k * leaves_of types root + leaf) ≡ k * (extent_of l types root).size + place_of l types root leaf
in_element l types root k leaf m known within =
    m.leaves root (k + 1) (k * leaves_of types root) root leaf known (element_is types root k) within
    ∙ ap (λ x. x + place_of l types root leaf) (m.elements root k known)

pub at_end : (l : Layout) (types : List Ty) (ty : ℕ) → AreMeasured l types → ty < length types → place_of l types ty (leaves_of types ty) ≡ (extent_of l types ty).size
at_end l types ty m known =
    let one : 1 * leaves_of types ty ≡ leaves_of types ty = omega arith in
    let once : 1 * (extent_of l types ty).size ≡ (extent_of l types ty).size = omega arith in
    sym (ap (place_of l types ty) one) ∙ m.elements ty 1 known ∙ once

pub place_within : (l : Layout) (types : List Ty) (ty leaf : ℕ) → AreMeasured l types → ty < length types → leaf < leaves_of types ty → place_of l types ty leaf < (extent_of l types ty).size
place_within l types ty leaf m known lt = omega (arith, m.rise ty leaf (leaves_of types ty) known lt, at_end l types ty m known)

-- the leaf that was found in its element is one of the object, at the byte, and is no greater than it
pub record Lies (l : Layout) (types : List Ty) (root count byte leaf : ℕ) : Type 0 where
  pub within : leaf < count * leaves_of types root
  pub at : place_of l types root leaf ≡ byte
  pub few : leaf ≤ byte

pub lies : (l : Layout) (types : List Ty) (root count byte inner size leaves : ℕ) → AreMeasured l types → root < length types
    → size ≡ (extent_of l types root).size → leaves ≡ leaves_of types root → byte / size < count → inner < leaves_of types root → place_of l types root inner ≡ byte % size
    → Lies l types root count byte (byte / size * leaves + inner)
lies l types root count byte inner size leaves m known size_is leaves_is lt within at =
    let k = byte / size in
    let whole : k * size + byte % size ≡ byte = div-add-mod' byte size in
    let least : leaves_of types root ≤ (extent_of l types root).size = omega (arith, at_least (place_of l types root) (leaves_of types root) (λ a b. m.rise root a b known), at_end l types root m known) in
    let fewer : leaves ≤ size = omega (arith, least, size_is, leaves_is) in
    let before : k * leaves ≤ k * size = mul-le k leaves k size (omega arith) fewer in
    let in_leaves : k * leaves + inner < leaves * count = mul-add-lt k leaves inner count lt (omega (arith, within, leaves_is)) in
    let same : k * leaves + inner ≡ k * leaves_of types root + inner = ap (λ x. k * x + inner) leaves_is in
    let turned : leaves * count ≡ count * leaves_of types root = ap (λ x. x * count) leaves_is ∙ grind arith in
    let times : k * (extent_of l types root).size ≡ k * size = ap (λ x. k * x) (sym size_is) in
    record {
      within = omega (arith, in_leaves, turned);
      at = ap (place_of l types root) same ∙ in_element l types root k inner m known within ∙ omega (arith, times, at, whole);
      few = omega (arith, before, at_least (place_of l types root) inner (λ a b. m.rise root a b known), at, whole);
    }

-- the element that holds a leaf holds its byte
pub record Holds (l : Layout) (types : List Ty) (root count byte leaf : ℕ) : Type 0 where
  pub element : byte / (extent_of l types root).size < count
  pub inner : place_of l types root (leaf % leaves_of types root) ≡ byte % (extent_of l types root).size
  pub within : leaf % leaves_of types root < leaves_of types root
  pub index : leaf / leaves_of types root ≡ byte / (extent_of l types root).size

pub holds : (l : Layout) (types : List Ty) (root count byte leaf : ℕ) → AreMeasured l types → root < length types → leaf < count * leaves_of types root → place_of l types root leaf ≡ byte
    → Holds l types root count byte leaf
holds l types root count byte leaf m known lt at =
    let n = leaves_of types root in
    let s = (extent_of l types root).size in
    let k = leaf / n in
    let j = leaf % n in
    let whole : k * n + j ≡ leaf = div-add-mod' leaf n in
    let less : j < n = mod-lt leaf (m.some root known) in
    let inner : place_of l types root j < s = place_within l types root j m known less in
    let byte_is : k * s + place_of l types root j ≡ byte = sym (in_element l types root k j m known less) ∙ ap (place_of l types root) whole ∙ at in
    let before : k * n < count * n = omega (arith, whole, lt) in
    let element : k < count = lt_of_mul-lt-mul_right n before in
    let quotient : byte / s ≡ k = ap (λ x. x / s) (sym byte_is) ∙ div-mul-add k s (place_of l types root j) inner in
    let rest : byte % s ≡ place_of l types root j = ap (λ x. x % s) (sym byte_is) ∙ mod-mul-add k s (place_of l types root j) inner in
    record {
      element = omega (arith, quotient, element);
      inner = sym rest;
      within = less;
      index = sym quotient;
    }
