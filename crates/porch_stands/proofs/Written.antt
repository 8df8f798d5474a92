-- What is written to a leaf is read there, and every other leaf is as it was.
use Rattle.std.proofs.Common.{◌≡◌, ◌≢◌, ◌<◌, ◌≤◌, ◌⊎◌, inl, inr, ℕ, ◌+◌, ◌*◌, ℤ, List, length, refl, sym, ap, subst, ◌∙◌, arith, Option, Some, None, Bool, true, false, IsTrue}
use Rattle.std.specs.Prelude.{slice_get}
use Rattle.std.proofs.lemmas.Bool.{cases_eq, cases_lt}
use Rattle.std.proofs.lemmas.Option.{same_Some}
use Rattle.porch_types.specs.declared.shapes.Kind.{Kind}
use Rattle.porch_types.specs.declared.shapes.Kind.TheVariants.{Char, UChar, Short, UShort, Int, UInt, Long, ULong}
use Rattle.porch_types.specs.declared.shapes.Ty.{Ty}
use Rattle.porch_types.specs.declared.shapes.Ty.TheVariants.{Whole, Pointer, Array, Struct}
use Rattle.porch_types.specs.LeafTypes.{IsScalar, leaf_type}
use Rattle.porch_layout.specs.declared.layout.Layout.{Layout}
use Rattle.porch_layout.specs.Layouts.{IsSize}
use Rattle.porch_values.specs.declared.widths.Widths.{Widths}
use Rattle.porch_metrics.specs.Extents.{Extent, kind_extent, extent_of}
use Rattle.porch_objects.specs.Store.{Home, of_global, of_call, of_block, Object, leaves_in, object_at}
use Rattle.porch_flat.specs.declared.whole.Flat.{Flat}
use Rattle.porch_abstract.specs.Machine as abstract
use Rattle.porch_bytes.specs.Leaf.{decoded, encoded, number_at, with_number, has_sign, leaf_value, with_leaf_value, PartsStay}
use Rattle.porch_bytes.specs.Shapes.{size_in, has_sign_in, signed_of, unsigned_of, kind_shape, shape_of, is_in_shape}
use Rattle.porch_bytes.specs.declared.shape.Shape.{Shape}
use Rattle.porch_bytes.specs.State.{Setting, State}
use Rattle.porch_bytes.specs.Column.{size_of, leaf_place}
use Rattle.porch_stands.specs.Follows.{IsStoodFor}
use Rattle.porch_stands.specs.Placed.{HasTypes}
use Rattle.porch_stands.specs.Leaves.{IsLeafOf, AreTwo}
use Rattle.porch_stands.specs.inside.Measured.{AreMeasured}
use Rattle.porch_stands.proofs.Placed.{placed}

-- whether two names are one
pub same_home : (a b : Home) → (a ≡ b) ⊎ (a ≢ b)
same_home (of_global g) (of_global k) =
    elim (cases_eq g k) [
      | inl e ↦ inl (ap of_global e)
      | inr ne ↦ inr (λ e. ne (let f = e in cc))
    ]
same_home (of_call c v) (of_call d u) =
    elim (cases_eq c d) [
      | inl e ↦
          elim (cases_eq v u) [
            | inl i ↦ inl (ap (λ (n : ℕ). of_call n v) e ∙ ap (of_call d) i)
            | inr ne ↦ inr (λ f. ne (let g = f in cc))
          ]
      | inr ne ↦ inr (λ f. ne (let g = f in cc))
    ]
same_home (of_block b) (of_block d) =
    elim (cases_eq b d) [
      | inl e ↦ inl (ap of_block e)
      | inr ne ↦ inr (λ e. ne (let f = e in cc))
    ]
same_home (of_global g) (of_call d u) = inr (λ e. (let f = e in cc))
same_home (of_global g) (of_block d) = inr (λ e. (let f = e in cc))
same_home (of_call c v) (of_global k) = inr (λ e. (let f = e in cc))
same_home (of_call c v) (of_block d) = inr (λ e. (let f = e in cc))
same_home (of_block b) (of_global k) = inr (λ e. (let f = e in cc))
same_home (of_block b) (of_call d u) = inr (λ e. (let f = e in cc))

-- the bytes of a leaf are those of its shape
long_size : (n : ℕ) → IsSize n → n ≡ size_in (signed_of n)
long_size n (inl e) = subst (λ (k : ℕ). k ≡ size_in (signed_of k)) (sym e) refl
long_size n (inr e) = subst (λ (k : ℕ). k ≡ size_in (signed_of k)) (sym e) refl

plain_size : (n : ℕ) → IsSize n → n ≡ size_in (unsigned_of n)
plain_size n (inl e) = subst (λ (k : ℕ). k ≡ size_in (unsigned_of k)) (sym e) refl
plain_size n (inr e) = subst (λ (k : ℕ). k ≡ size_in (unsigned_of k)) (sym e) refl

long_sign : (n : ℕ) → IsSize n → true ≡ has_sign_in (signed_of n)
long_sign n (inl e) = subst (λ (k : ℕ). true ≡ has_sign_in (signed_of k)) (sym e) refl
long_sign n (inr e) = subst (λ (k : ℕ). true ≡ has_sign_in (signed_of k)) (sym e) refl

plain_sign : (n : ℕ) → IsSize n → false ≡ has_sign_in (unsigned_of n)
plain_sign n (inl e) = subst (λ (k : ℕ). false ≡ has_sign_in (unsigned_of k)) (sym e) refl
plain_sign n (inr e) = subst (λ (k : ℕ). false ≡ has_sign_in (unsigned_of k)) (sym e) refl

module _ (under : Layout) (types : List Ty) (measured : AreMeasured under types) where
  kind_size : (kind : Kind) → (kind_extent under kind).size ≡ size_in (kind_shape under kind)
  kind_size Char = refl
  kind_size UChar = refl
  kind_size Short = refl
  kind_size UShort = refl
  kind_size Int = refl
  kind_size UInt = refl
  kind_size Long = long_size under.long measured.is.long
  kind_size ULong = plain_size under.long measured.is.long

  pub leaf_size : (ty : ℕ) (t : Option Ty) → slice_get types ty ≡ t → IsScalar t → (extent_of under types ty).size ≡ size_in (shape_of under t)
  leaf_size ty (Some (Whole kind)) e s = ap (λ (x : Extent). x.size) (measured.adds_up ty (Whole kind) e) ∙ kind_size kind
  leaf_size ty (Some (Pointer to)) e s = ap (λ (x : Extent). x.size) (measured.adds_up ty (Pointer to) e) ∙ plain_size under.pointer measured.is.pointer
  leaf_size ty (Some (Array of count)) e s = absurd s
  leaf_size ty (Some (Struct members)) e s = absurd s
  leaf_size ty None e s = absurd s

  pub leaf_sign : (t : Option Ty) → IsScalar t → has_sign t ≡ has_sign_in (shape_of under t)
  leaf_sign (Some (Whole Char)) s = refl
  leaf_sign (Some (Whole UChar)) s = refl
  leaf_sign (Some (Whole Short)) s = refl
  leaf_sign (Some (Whole UShort)) s = refl
  leaf_sign (Some (Whole Int)) s = refl
  leaf_sign (Some (Whole UInt)) s = refl
  leaf_sign (Some (Whole Long)) s = long_sign under.long measured.is.long
  leaf_sign (Some (Whole ULong)) s = plain_sign under.long measured.is.long
  leaf_sign (Some (Pointer to)) s = plain_sign under.pointer measured.is.pointer
  leaf_sign (Some (Array of count)) s = absurd s
  leaf_sign (Some (Struct members)) s = absurd s
  leaf_sign None s = absurd s

  -- a number that is written is read
  pub read_back : (memory : List ℕ) (at ty : ℕ) (z : ℤ) → IsScalar (slice_get types ty) → at + (extent_of under types ty).size ≤ length memory
      → IsTrue (is_in_shape (shape_of under (slice_get types ty)) z)
      → leaf_value under types (with_leaf_value under types memory at ty z) at ty ≡ z
  read_back memory at ty z scalar fits in_shape =
      let shape : Shape = shape_of under (slice_get types ty) in
      let size = leaf_size ty (slice_get types ty) refl scalar in
      subst (λ (n : ℕ). number_at under.big (has_sign (slice_get types ty)) n (with_number under.big n memory at z) at ≡ z) (sym size)
      (subst (λ (b : Bool). number_at under.big b (size_in shape) (with_number under.big (size_in shape) memory at z) at ≡ z) (sym (leaf_sign (slice_get types ty) scalar))
      (measured.back under.big shape memory at z (subst (λ (n : ℕ). at + n ≤ length memory) size fits) in_shape))

  -- a number that is written before or behind a leaf leaves it as it is
  module _ (memory : List ℕ) (at ty : ℕ) (z : ℤ) (fits : at + (extent_of under types ty).size ≤ length memory) (there type : ℕ) where
    abbrev the_size : ℕ
    the_size = (extent_of under types ty).size

    abbrev the_bytes : List ℕ
    the_bytes = encoded under.big the_size z

    stays : PartsStay memory at the_bytes
    stays = measured.stay memory at the_bytes (subst (λ (n : ℕ). at + n ≤ length memory) (sym (measured.sizes under.big the_size z)) fits)

    abbrev Same : Type 0
    Same = leaf_value under types (with_leaf_value under types memory at ty z) there type ≡ leaf_value under types memory there type

    pub before_it : there + (extent_of under types type).size ≤ at → Same
    before_it h = ap (decoded under.big (has_sign (slice_get types type))) (stays.before there (extent_of under types type).size h)

    pub behind_it : at + the_size ≤ there → Same
    behind_it h =
        ap (decoded under.big (has_sign (slice_get types type)))
        (stays.after there (extent_of under types type).size (subst (λ (n : ℕ). at + n ≤ there) (sym (measured.sizes under.big the_size z)) h))

module _ (flat : Flat) (on : Setting) (measured : AreMeasured on.layout flat.types) where
  -- a leaf ends where its object does, or before
  pub leaf_inside : (o : Object) (leaf : ℕ) → o.root.ty < length flat.types → leaf < leaves_in flat.types o.root
      → leaf_place flat on o.root.ty leaf + size_of flat on (leaf_type flat.types o.root.ty leaf) ≤ o.root.count * size_of flat on o.root.ty
  leaf_inside o leaf known few =
      subst (λ (n : ℕ). leaf_place flat on o.root.ty leaf + size_of flat on (leaf_type flat.types o.root.ty leaf) ≤ n) (measured.elements o.root.ty o.root.count known)
      (measured.apart o.root.ty leaf (leaves_in flat.types o.root) known few)

module _ (flat : Flat) (on : Setting) (w : Widths) (m : State) (s : abstract.State) (known : HasTypes flat) (measured : AreMeasured on.layout flat.types) (h : IsStoodFor flat on w m s) where
  -- a leaf lies in memory
  pub fits_in : (home : Home) (leaf at ty : ℕ) → IsLeafOf flat on w m s h home leaf at ty → at + size_of flat on ty ≤ length m.memory
  fits_in home leaf at ty l =
      let p = placed flat on w m s known measured h home l.object l.lives in
      let i = leaf_inside flat on measured l.object leaf p.known l.within in
      let j = p.inside in
      subst (λ (t : ℕ). at + size_of flat on t ≤ length m.memory) (sym l.type_is)
      (subst (λ (n : ℕ). n + size_of flat on (leaf_type flat.types l.object.root.ty leaf) ≤ length m.memory) (sym l.address_is) (omega (arith, i, j)))

  pub is_scalar_leaf : (home : Home) (leaf at ty : ℕ) → IsLeafOf flat on w m s h home leaf at ty → IsScalar (slice_get flat.types ty)
  is_scalar_leaf home leaf at ty l =
      let p = placed flat on w m s known measured h home l.object l.lives in
      subst (λ (t : ℕ). IsScalar (slice_get flat.types t)) (sym l.type_is) (measured.scalar l.object.root.ty leaf p.known)

  pub written : (home : Home) (leaf at ty : ℕ) → IsLeafOf flat on w m s h home leaf at ty → (z : ℤ) → IsTrue (is_in_shape (shape_of on.layout (slice_get flat.types ty)) z)
      → leaf_value on.layout flat.types (with_leaf_value on.layout flat.types m.memory at ty z) at ty ≡ z
  written home leaf at ty l z in_shape =
      read_back on.layout flat.types measured m.memory at ty z (is_scalar_leaf home leaf at ty l) (fits_in home leaf at ty l) in_shape

  module _ (home : Home) (leaf at ty : ℕ) (l : IsLeafOf flat on w m s h home leaf at ty) (other : Home) (k there type : ℕ)
      (o : IsLeafOf flat on w m s h other k there type) (z : ℤ) where
    abbrev Stays : Type 0
    Stays = leaf_value on.layout flat.types (with_leaf_value on.layout flat.types m.memory at ty z) there type ≡ leaf_value on.layout flat.types m.memory there type

    ahead : there + size_of flat on type ≤ at → Stays
    ahead = before_it on.layout flat.types measured m.memory at ty z (fits_in home leaf at ty l) there type

    behind : at + size_of flat on ty ≤ there → Stays
    behind = behind_it on.layout flat.types measured m.memory at ty z (fits_in home leaf at ty l) there type

    -- two leaves of objects that lie apart
    abbrev place_o : ℕ
    place_o = leaf_place flat on o.object.root.ty k

    abbrev size_l : ℕ
    size_l = size_of flat on (leaf_type flat.types l.object.root.ty leaf)

    abbrev size_o : ℕ
    size_o = size_of flat on (leaf_type flat.types o.object.root.ty k)

    in_two : home ≢ other → Stays
    in_two ne =
        let p = placed flat on w m s known measured h home l.object l.lives in
        let q = placed flat on w m s known measured h other o.object o.lives in
        let i = leaf_inside flat on measured l.object leaf p.known l.within in
        let j = leaf_inside flat on measured o.object k q.known o.within in
        let a = l.address_is in
        let b = o.address_is in
        let x : size_of flat on ty ≡ size_l = ap (size_of flat on) l.type_is in
        let y : size_of flat on type ≡ size_o = ap (size_of flat on) o.type_is in
        elim (h.stands.apart home other l.object o.object l.lives o.lives ne) [
          | inl e ↦ behind (omega (arith, e, i, a, b, x))
          | inr e ↦ ahead (omega (arith, e, j, a, b, y))
        ]

    in_one : home ≡ other → leaf ≢ k → Stays
    in_one e ne =
        let p = placed flat on w m s known measured h home l.object l.lives in
        let same : l.object ≡ o.object = same_Some l.object o.object (sym l.lives ∙ ap (object_at s.store) e ∙ o.lives) in
        let root : ℕ = l.object.root.ty in
        let a = l.address_is in
        let b : there ≡ h.stands.address home + leaf_place flat on root k =
        o.address_is ∙ ap (λ (x : Home). h.stands.address x + place_o) (sym e) ∙ ap (λ (x : Object). h.stands.address home + leaf_place flat on x.root.ty k) (sym same) in
        let x : size_of flat on ty ≡ size_of flat on (leaf_type flat.types root leaf) = ap (size_of flat on) l.type_is in
        let y : size_of flat on type ≡ size_of flat on (leaf_type flat.types root k) =
        ap (size_of flat on) o.type_is ∙ ap (λ (x : Object). size_of flat on (leaf_type flat.types x.root.ty k)) (sym same) in
        elim (cases_lt leaf k) [
          | inl less ↦ (let g = measured.apart root leaf k p.known less in behind (omega (arith, g, a, b, x)))
          | inr more ↦
              elim (cases_eq leaf k) [
                | inl is ↦ absurd (ne is)
                | inr not ↦ (let less : k < leaf = grind (arith, more, not) in let g = measured.apart root k leaf p.known less in ahead (omega (arith, g, a, b, y)))
              ]
        ]

    pub others_stay : AreTwo home leaf other k → Stays
    others_stay two =
        elim (same_home home other) [
          | inl e ↦ in_one e (two e)
          | inr ne ↦ in_two ne
        ]
