-- Rows and subobjects begin at multiples of their alignment, and so does their root.
use Rattle.std.proofs.Common.{◌≡◌, ℕ, zero, suc, ◌+◌, ◌-◌, ◌*◌, ◌/◌, ◌%◌, ◌<◌, ◌≤◌, List, [], ◌∷◌, length, get_or, slice_get, Some, refl, arith, ap, sym, ◌∙◌, subst, take}
use Rattle.std.proofs.Math.Nat.{mul-mod_left}
use Rattle.std.proofs.lemmas.Option.{slice_get_within}
use Rattle.porch_types.specs.declared.shapes.Ty.{Ty}
use Rattle.porch_types.specs.declared.shapes.Ty.TheVariants.{Array, Struct}
use Rattle.porch_types.specs.Leaves.{leaves_of, leaves_together, IsFormed}
use Rattle.porch_types.specs.Rows.{IsRow, elements_of_root, elements_of_array, member_of_struct, IsSubobject}
use Rattle.porch_layout.specs.declared.layout.Layout.{Layout}
use Rattle.porch_layout.specs.Layouts.{IsLayout}
use Rattle.porch_metrics.specs.Extents.{Extent, extent_of, round_up, greatest_align, member_places}
use Rattle.porch_metrics.specs.Places.{place_of}
use Rattle.porch_metrics.specs.inside.Tables.{AreCounted}
use Rattle.porch_metrics.proofs.Bounds.{bounded}
use Rattle.porch_metrics.proofs.Extended.{extent_is}
use Rattle.porch_metrics.proofs.Rising.{Multiple, by_power, times_multiple, multiple_below}
use Rattle.porch_metrics.proofs.RowPlaces.{Stands, row_stands, element_begins, member_begins, member_known, zero_place}

pub is_multiple : (n a : ℕ) → Multiple n a → n % a ≡ 0
is_multiple n a m = ap (λ x. x % a) m.is ∙ mul-mod_left m.q a

together : (p q a : ℕ) → p * a + q * a ≡ (p + q) * a
together p q a = grind arith

sum_multiple : (m n a : ℕ) → Multiple m a → Multiple n a → Multiple (m + n) a
sum_multiple m n a p q = record { q = p.q + q.q; is = ap (λ x. x + n) p.is ∙ ap (λ x. p.q * a + x) q.is ∙ together p.q q.q a }

multiple_through : (n a b : ℕ) → Multiple n a → Multiple a b → Multiple n b
multiple_through n a b p q = subst (λ x. Multiple x b) (sym p.is) (times_multiple p.q a b q)

greatest_ge : (f : ℕ → Extent) (least : ℕ) (ms : List ℕ) (i m : ℕ) → slice_get ms i ≡ Some m → (f m).align ≤ greatest_align f least ms
greatest_ge f least [] i m at = cc
greatest_ge f least (o ∷ ms) zero m at = let e : (f o).align ≡ (f m).align = cc in omega (arith, e)
greatest_ge f least (o ∷ ms) (suc i) m at = omega (arith, greatest_ge f least ms i m at)

member_multiple : (f : ℕ → Extent) (end : ℕ) (ms : List ℕ) (i m : ℕ) → slice_get ms i ≡ Some m → Multiple (get_or (member_places f end ms) i 0) (f m).align
member_multiple f end [] i m at = cc
member_multiple f end (o ∷ ms) zero m at =
    let e : o ≡ m = cc in
    subst (λ x. Multiple (round_up end (f o).align) (f x).align) e (record { q = (end + ((f o).align - 1)) / (f o).align; is = refl })
member_multiple f end (o ∷ ms) (suc i) m at = member_multiple f (round_up end (f o).align + (f o).size) ms i m at

-- the alignment of an array is its elements', and of a struct a multiple of each member's
array_align : (l : Layout) (types : List Ty) (ty of n : ℕ) → AreCounted types → slice_get types ty ≡ Some (Array of n) → (extent_of l types ty).align ≡ (extent_of l types of).align
array_align l types ty of n formed at = ap (λ (x : Extent). x.align) (extent_is l types ty (Array of n) (formed.each ty (Array of n) at).earlier at)

struct_align : (l : Layout) (types : List Ty) (ty i m : ℕ) (members : List ℕ) → IsLayout l → AreCounted types → slice_get types ty ≡ Some (Struct members) → slice_get members i ≡ Some m
    → Multiple (extent_of l types ty).align (extent_of l types m).align
struct_align l types ty i m members is formed at at_i =
    let e = extent_of l types in
    let f : IsFormed types ty (Struct members) = formed.each ty (Struct members) at in
    let known : ty < length types = slice_get_within types ty (Struct members) at in
    let align : (e ty).align ≡ greatest_align e l.least_struct members = ap (λ (x : Extent). x.align) (extent_is l types ty (Struct members) f.earlier at) in
    by_power (e ty).align (e m).align (bounded l types ty is formed known).power
    (bounded l types m is formed (omega (arith, known, member_known types ty i m members formed at at_i))).power
    (omega (arith, align, greatest_ge e l.least_struct members i m at_i))

-- how a row of a root is aligned
pub record Aligned (l : Layout) (types : List Ty) (root ty first : ℕ) : Type 0 where
  pub place : Multiple (place_of l types root first) (extent_of l types ty).align
  pub root_is : Multiple (extent_of l types root).align (extent_of l types ty).align

element_aligned : (l : Layout) (types : List Ty) (root count ty first len k : ℕ) → IsLayout l → AreCounted types → Stands l types root count ty first len → Aligned l types root ty first → k < len
    → Multiple (place_of l types root first + k * (extent_of l types ty).size) (extent_of l types ty).align
element_aligned l types root count ty first len k is formed s a lt =
    let e = extent_of l types ty in
    let size : Multiple e.size e.align = multiple_below l types is formed (suc ty) ty (omega arith) s.known in
    sum_multiple (place_of l types root first) (k * e.size) e.align a.place (times_multiple k e.size e.align size)

aligned_root : (l : Layout) (types : List Ty) (root : ℕ) → IsLayout l → AreCounted types → root < length types → Aligned l types root root 0
aligned_root l types root is formed known = record {
  place = record { q = 0; is = omega (arith, zero_place l types root is formed known) };
  root_is = record { q = 1; is = omega arith };
}

aligned_elements : (l : Layout) (types : List Ty) (root count ty first len k of n : ℕ) → IsLayout l → AreCounted types → Stands l types root count ty first len → Aligned l types root ty first → k < len
    → slice_get types ty ≡ Some (Array of n) → Aligned l types root of (first + k * leaves_of types ty)
aligned_elements l types root count ty first len k of n is formed s a lt at =
    let same : (extent_of l types ty).align ≡ (extent_of l types of).align = array_align l types ty of n formed at in
    let begins = element_begins l types root count ty first len k is formed s lt in
    record {
      place = subst (λ x. Multiple x (extent_of l types of).align) (sym begins)
          (subst (Multiple (place_of l types root first + k * (extent_of l types ty).size)) same (element_aligned l types root count ty first len k is formed s a lt));
      root_is = subst (Multiple (extent_of l types root).align) same a.root_is;
    }

aligned_member : (l : Layout) (types : List Ty) (root count ty first len k i m : ℕ) (members : List ℕ) → IsLayout l → AreCounted types → Stands l types root count ty first len → Aligned l types root ty first → k < len
    → slice_get types ty ≡ Some (Struct members) → slice_get members i ≡ Some m
    → Aligned l types root m (first + k * leaves_of types ty + leaves_together (leaves_of types) (take i members))
aligned_member l types root count ty first len k i m members is formed s a lt at at_i =
    let e = extent_of l types in
    let whole : Multiple (e ty).align (e m).align = struct_align l types ty i m members is formed at at_i in
    let before = place_of l types root first + k * (e ty).size in
    let p = get_or (member_places e 0 members) i 0 in
    let here : Multiple before (e m).align = multiple_through before (e ty).align (e m).align (element_aligned l types root count ty first len k is formed s a lt) whole in
    record {
      place = subst (λ x. Multiple x (e m).align) (sym (member_begins l types root count ty first len k i m members is formed s lt at at_i))
          (sum_multiple before p (e m).align here (member_multiple e 0 members i m at_i));
      root_is = multiple_through (e root).align (e ty).align (e m).align a.root_is whole;
    }

row_aligned : (l : Layout) (types : List Ty) (root count ty first len : ℕ) → IsLayout l → AreCounted types → root < length types → IsRow types root count ty first len → Aligned l types root ty first
row_aligned l types root count ty first len is formed known elements_of_root = aligned_root l types root is formed known
row_aligned l types root count ty first len is formed known (elements_of_array {ty = whole} {first = begin} {len = many} {k = k} {n = n} row lt at) =
    aligned_elements l types root count whole begin many k ty n is formed (row_stands l types root count whole begin many is formed known row)
    (row_aligned l types root count whole begin many is formed known row) lt at
row_aligned l types root count ty first len is formed known (member_of_struct {ty = whole} {first = begin} {len = many} {k = k} {members = members} i row lt at at_i) =
    aligned_member l types root count whole begin many k i ty members is formed (row_stands l types root count whole begin many is formed known row)
    (row_aligned l types root count whole begin many is formed known row) lt at at_i

-- a subobject is aligned, and its root too
pub record IsAlignedIn (l : Layout) (types : List Ty) (root ty place : ℕ) : Type 0 where
  pub place_is : place_of l types root place % (extent_of l types ty).align ≡ 0
  pub root_is : (extent_of l types root).align % (extent_of l types ty).align ≡ 0

pub subobject_aligned : (l : Layout) (types : List Ty) (root count place ty : ℕ) → IsLayout l → AreCounted types → root < length types → IsSubobject types root count place ty → IsAlignedIn l types root ty place
subobject_aligned l types root count place ty is formed known sub =
    let row = sub.0 in
    let h = sub.1 in
    let k = h.element.0 in
    let e = extent_of l types ty in
    let s : Stands l types root count ty row.first row.len = row_stands l types root count ty row.first row.len is formed known h.is_row in
    let a : Aligned l types root ty row.first = row_aligned l types root count ty row.first row.len is formed known h.is_row in
    let at : place_of l types root place ≡ place_of l types root row.first + k * e.size =
    ap (place_of l types root) h.element.2 ∙ element_begins l types root count ty row.first row.len k is formed s h.element.1 in
    record {
      place_is = ap (λ x. x % e.align) at ∙ is_multiple (place_of l types root row.first + k * e.size) e.align (element_aligned l types root count ty row.first row.len k is formed s a h.element.1);
      root_is = is_multiple (extent_of l types root).align e.align a.root_is;
    }
