-- Leaves of one type in a row, and the leaves of elements.
use Rattle.std.proofs.Common.{◌≡◌, ℕ, ◌+◌, ◌-◌, ◌*◌, ◌<◌, ◌≤◌, List, length, slice_get, Option, Some, None, refl, ap, sym, ◌∙◌, subst, arith}
use Rattle.porch_types.specs.declared.parts.Row.{Row}
use Rattle.porch_types.specs.declared.shapes.Ty.{Ty}
use Rattle.porch_types.specs.declared.shapes.Ty.TheVariants.{Whole, Pointer, Array, Struct}
use Rattle.porch_types.specs.Leaves.{IsTypes, leaf_count, leaves_of}
use Rattle.porch_types.specs.LeafTypes.{IsScalar, leaf_type}
use Rattle.porch_types.specs.Rows.{IsRow, IsRowAt, IsSubobject, elements_of_root}
use Rattle.porch_layout.specs.Layouts.{IsLayout}
use Rattle.porch_metrics.specs.Bounds.{ElementsHavePlaces}
use Rattle.porch_metrics.specs.Extents.{extent_of, ucf_layout}
use Rattle.porch_metrics.specs.PlacedRows.{ElementsStandInRows, LeavesStandInSubobjects}
use Rattle.porch_metrics.specs.Places.{place_of}
use Rattle.porch_ucf.specs.inside.Runs.{ElementsRepeat, IsStretch}

-- a type without parts has one leaf
one_leaf : (types : List Ty) (ty : ℕ) (this : Option Ty) → ((t : Ty) → slice_get types ty ≡ Some t → leaves_of types ty ≡ leaf_count (leaves_of types) t) → slice_get types ty ≡ this → IsScalar this
    → leaves_of types ty ≡ 1
one_leaf types ty (Some (Whole kind)) together e scalar = together (Whole kind) e
one_leaf types ty (Some (Pointer to)) together e scalar = together (Pointer to) e
one_leaf types ty (Some (Array of count)) together e scalar = absurd scalar
one_leaf types ty (Some (Struct members)) together e scalar = absurd scalar
one_leaf types ty None together e scalar = absurd scalar

-- the laws of rows
pub record RowLaws (types : List Ty) (root : ℕ) : Type 0 where
  pub together : (ty : ℕ) (t : Ty) → slice_get types ty ≡ Some t → leaves_of types ty ≡ leaf_count (leaves_of types) t
  pub inside : (ty first len : ℕ) → IsRow types root 1 ty first len → first + len * leaves_of types ty ≤ 1 * leaves_of types root
  pub typed : (ty first len leaf : ℕ) → IsRow types root 1 ty first len → leaf < len * leaves_of types ty → leaf_type types root (first + leaf) ≡ leaf_type types ty leaf
  pub scalar : (ty leaf : ℕ) → IsScalar (slice_get types ty) → leaf_type types ty leaf ≡ ty
  pub placed : (ty first len k : ℕ) → IsRow types root 1 ty first len → k < len
      → place_of ucf_layout types root (first + k * leaves_of types ty) ≡ place_of ucf_layout types root first + k * (extent_of ucf_layout types ty).size

module _ (types : List Ty) (root leaf ty : ℕ) (row : Row) (laws : RowLaws types root) (known : ty < length types) (scalar : IsScalar (slice_get types ty)) (at : IsRowAt types root 1 leaf ty row) where
  abbrev begun : ℕ
  begun = at.element.0

  leaves_one : leaves_of types ty ≡ 1
  leaves_one = one_leaf types ty (slice_get types ty) (laws.together ty) refl scalar

  times_one : (k : ℕ) → k * leaves_of types ty ≡ k
  times_one k = ap (λ n. k * n) leaves_one ∙ omega arith

  pub at_element : leaf ≡ row.first + begun
  at_element = at.element.2 ∙ ap (λ n. row.first + n) (times_one begun)

  pub row_holds : leaf < row.first + row.len
  row_holds = omega (arith, at_element, at.element.1)

  placed_at : (k : ℕ) → begun + k < row.len → place_of ucf_layout types root (leaf + k) ≡ place_of ucf_layout types root row.first + (begun + k) * (extent_of ucf_layout types ty).size
  placed_at k lt =
      let here : row.first + (begun + k) * leaves_of types ty ≡ leaf + k = omega (arith, times_one (begun + k), at_element) in
      sym (ap (place_of ucf_layout types root) here) ∙ laws.placed ty row.first row.len (begun + k) at.is_row lt

  pub stretch_of : IsStretch types root leaf (record { ty = ty; len = row.first + row.len - leaf })
  stretch_of = record {
    some = omega (arith, row_holds);
    within = omega (arith, row_holds, laws.inside ty row.first row.len at.is_row, times_one row.len);
    known = known;
    typed = λ k lt.
        let here : row.first + (begun + k) ≡ leaf + k = omega (arith, at_element) in
        let less : begun + k < row.len * leaves_of types ty = omega (arith, lt, at_element, times_one row.len) in
        sym (ap (leaf_type types root) here) ∙ laws.typed ty row.first row.len (begun + k) at.is_row less ∙ laws.scalar ty (begun + k) scalar;
    placed = λ k lt.
        let s = (extent_of ucf_layout types ty).size in
        let none : leaf + 0 ≡ leaf = omega arith in
        let bare : begun + 0 ≡ begun = omega arith in
        let first : place_of ucf_layout types root leaf ≡ place_of ucf_layout types root row.first + begun * s =
        sym (ap (place_of ucf_layout types root) none) ∙ placed_at 0 (omega (arith, at.element.1)) ∙ ap (λ n. place_of ucf_layout types root row.first + n * s) bare in
        let sum : (begun + k) * s ≡ begun * s + k * s = grind arith in
        omega (arith, first, sum, placed_at k (omega (arith, lt, at_element)));
  }

pub repeats : ((types : List Ty) (ty leaf elements : ℕ) → leaf_type types ty (elements * leaves_of types ty + leaf) ≡ leaf_type types ty leaf) → LeavesStandInSubobjects → ElementsHavePlaces → IsLayout ucf_layout → ElementsRepeat
repeats again subobjects elements allowed = λ types ty element leaf is known lt.
    let n = leaves_of types ty in
    let sub : IsSubobject types ty (element + 1) (element * n) ty = (record { first = 0; len = element + 1 }, record { is_row = elements_of_root; element = (element, omega arith, omega arith) }) in (
      again types ty leaf element,
      subobjects ucf_layout types ty (element + 1) (element * n) ty leaf allowed is known sub lt ∙ ap (λ x. x + place_of ucf_layout types ty leaf) (elements ucf_layout types ty element allowed is known),
    )
