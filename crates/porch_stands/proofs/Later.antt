-- What a leaf holds it still holds where the store has changed, as long as its objects that live on keep their roots.
use Rattle.std.proofs.Common.{◌≡◌, ◌≤◌, ℕ, ◌+◌, ℤ, pos, refl, ap, subst, arith, Bool, true, false, Option, Some, None}
use Rattle.std.specs.Prelude.{slice_get, nat_eq, if◌then◌else◌, ◌&&◌, is_some}
use Rattle.std.proofs.lemmas.Bool.{and_parts, and_from, eqb-true, eq-eqb}
use Rattle.porch_types.specs.declared.shapes.Ty.{Ty}
use Rattle.porch_types.specs.declared.shapes.Ty.TheVariants.{Whole, Pointer, Array, Struct}
use Rattle.porch_types.specs.LeafTypes.{pointee_of}
use Rattle.porch_types.specs.Rows.{IsRowAt, has_shared_end}
use Rattle.porch_values.specs.declared.widths.Widths.{Widths}
use Rattle.porch_objects.specs.Store.{Home, Value, number, null, pointer, past, indeterminate, Root, Object, Store, object_at, seen}
use Rattle.porch_flat.specs.declared.whole.Flat.{Flat}
use Rattle.porch_bytes.specs.State.{Setting}
use Rattle.porch_bytes.specs.Column.{size_of, leaf_place}
use Rattle.porch_bytes.specs.StandsFor.{WasMade, IsOfType, IsElement, IsEnd, IsNumberOf, HoldsLeaf}

-- A later store: what was made is made, what lives of it lived before, with the same root, and no fewer
-- checkpoint() were reached.
pub record IsLater (s t : Store) : Type 0 where
  pub made : (home : Home) → WasMade s home → WasMade t home
  pub lived : (home : Home) (o : Object) → WasMade s home → object_at t home ≡ Some o
      → (p : Object) × (object_at s home ≡ Some p) × (p.root ≡ o.root)
  pub reached : s.checkpoints ≤ t.checkpoints

module _ (flat : Flat) (on : Setting) (address : Home → ℕ) (s t : Store) (later : IsLater s t) where
  alive_before : (home : Home) → WasMade s home → (x : Option Object) → object_at t home ≡ x → is_some x ≡ true → is_some (object_at s home) ≡ true
  alive_before home made None e h = absurd (let k = h in cc)
  alive_before home made (Some o) e h = ap is_some (later.lived home o made e).1

  good_before : (until : ℕ) → until ≤ s.checkpoints → nat_eq until t.checkpoints ≡ true → nat_eq until s.checkpoints ≡ true
  good_before until few h = eq-eqb until s.checkpoints (let e = eqb-true until t.checkpoints h in omega (arith, e, few, later.reached))

  element_later : (to : ℕ) (home : Home) (o p : Object) (leaf : ℕ) (z : ℤ) → p.root ≡ o.root → IsElement flat on address s to home p leaf z → IsElement flat on address t to home o leaf z
  element_later to home o p leaf z e h = record {
    row = h.row;
    in_row = subst (λ (r : Root). IsRowAt flat.types r.ty r.count leaf to h.row) e h.in_row;
    address_is = subst (λ (r : Root). z ≡ pos (address home + leaf_place flat on r.ty leaf)) e h.address_is;
  }

  end_later : (to : ℕ) (home : Home) (o p : Object) (leaf : ℕ) (until : Option ℕ) (z : ℤ) → p.root ≡ o.root → IsEnd flat on address s to home p leaf until z
      → IsEnd flat on address t to home o leaf until z
  end_later to home o p leaf until z e h = record {
    row = h.row;
    in_row = subst (λ (r : Root). IsRowAt flat.types r.ty r.count leaf to h.row) e h.in_row;
    is_last = h.is_last;
    address_is = subst (λ (r : Root). z ≡ pos (address home + leaf_place flat on r.ty leaf + size_of flat on to)) e h.address_is;
    is_shared = subst (λ (r : Root). has_shared_end flat.types r.ty r.count leaf to ≡ is_some until) e h.is_shared;
  }

  pointer_by : (to : ℕ) (home : Home) (leaf : ℕ) (z : ℤ) → WasMade s home → (b c : Bool) → (b ≡ true → c ≡ true)
      → IsNumberOf flat on address s to (if c then pointer home leaf else indeterminate) z → IsNumberOf flat on address t to (if b then pointer home leaf else indeterminate) z
  pointer_by to home leaf z made true true k h = λ o e. (let p = later.lived home o made e in element_later to home o p.0 leaf z p.2 (h p.0 p.1))
  pointer_by to home leaf z made true false k h = absurd (let g = k refl in cc)
  pointer_by to home leaf z made false c k h = tt

  past_by : (to : ℕ) (home : Home) (leaf : ℕ) (until : Option ℕ) (z : ℤ) → WasMade s home → (b c : Bool) → (b ≡ true → c ≡ true)
      → IsNumberOf flat on address s to (if c then past home leaf until else indeterminate) z → IsNumberOf flat on address t to (if b then past home leaf until else indeterminate) z
  past_by to home leaf until z made true true k h = λ o e. (let p = later.lived home o made e in end_later to home o p.0 leaf until z p.2 (h p.0 p.1))
  past_by to home leaf until z made true false k h = absurd (let g = k refl in cc)
  past_by to home leaf until z made false c k h = tt

  number_later : (ty : Option Ty) (to : ℕ) (v : Value) (z : ℤ) → IsOfType s ty v → IsNumberOf flat on address s to (seen s v) z → IsNumberOf flat on address t to (seen t v) z
  number_later ty to (number x) z k h = h
  number_later ty to null z k h = h
  number_later ty to indeterminate z k h = tt
  number_later (Some (Pointer at)) to (pointer home leaf) z k h =
      pointer_by to home leaf z k (is_some (object_at t home)) (is_some (object_at s home)) (alive_before home k (object_at t home) refl) h
  number_later (Some (Pointer at)) to (past home leaf None) z k h =
      past_by to home leaf None z k (is_some (object_at t home) && true) (is_some (object_at s home) && true)
      (λ b. and_from (is_some (object_at s home)) true (alive_before home k (object_at t home) refl (and_parts (is_some (object_at t home)) true b).0) refl) h
  number_later (Some (Pointer at)) to (past home leaf (Some until)) z k h =
      past_by to home leaf (Some until) z k.0 (is_some (object_at t home) && nat_eq until t.checkpoints) (is_some (object_at s home) && nat_eq until s.checkpoints)
      (λ b. (let both = and_parts (is_some (object_at t home)) (nat_eq until t.checkpoints) b in
      and_from (is_some (object_at s home)) (nat_eq until s.checkpoints) (alive_before home k.0 (object_at t home) refl both.0) (good_before until k.1 both.1))) h
  number_later None to (pointer home leaf) z k h = absurd k
  number_later None to (past home leaf until) z k h = absurd k
  number_later (Some (Whole kind)) to (pointer home leaf) z k h = absurd k
  number_later (Some (Whole kind)) to (past home leaf until) z k h = absurd k
  number_later (Some (Array of count)) to (pointer home leaf) z k h = absurd k
  number_later (Some (Array of count)) to (past home leaf until) z k h = absurd k
  number_later (Some (Struct members)) to (pointer home leaf) z k h = absurd k
  number_later (Some (Struct members)) to (past home leaf until) z k h = absurd k

  type_later : (ty : Option Ty) (v : Value) → IsOfType s ty v → IsOfType t ty v
  type_later ty indeterminate k = tt
  type_later None (number x) k = absurd k
  type_later None null k = absurd k
  type_later None (pointer home leaf) k = absurd k
  type_later None (past home leaf until) k = absurd k
  type_later (Some (Whole kind)) (number x) k = tt
  type_later (Some (Whole kind)) null k = absurd k
  type_later (Some (Whole kind)) (pointer home leaf) k = absurd k
  type_later (Some (Whole kind)) (past home leaf until) k = absurd k
  type_later (Some (Pointer to)) (number x) k = absurd k
  type_later (Some (Pointer to)) null k = tt
  type_later (Some (Pointer to)) (pointer home leaf) k = later.made home k
  type_later (Some (Pointer to)) (past home leaf None) k = later.made home k
  type_later (Some (Pointer to)) (past home leaf (Some until)) k = (later.made home k.0, omega (arith, k.1, later.reached))
  type_later (Some (Array of count)) (number x) k = absurd k
  type_later (Some (Array of count)) null k = absurd k
  type_later (Some (Array of count)) (pointer home leaf) k = absurd k
  type_later (Some (Array of count)) (past home leaf until) k = absurd k
  type_later (Some (Struct members)) (number x) k = absurd k
  type_later (Some (Struct members)) null k = absurd k
  type_later (Some (Struct members)) (pointer home leaf) k = absurd k
  type_later (Some (Struct members)) (past home leaf until) k = absurd k

  pub leaf_later : (w : Widths) (ty : ℕ) (v : Value) (z : ℤ) → HoldsLeaf flat on address s w ty v z → HoldsLeaf flat on address t w ty v z
  leaf_later w ty v z h = record {
    of_type = type_later (slice_get flat.types ty) v h.of_type;
    number_is = number_later (slice_get flat.types ty) (pointee_of (slice_get flat.types ty)) v z h.of_type h.number_is;
    within = h.within;
  }
