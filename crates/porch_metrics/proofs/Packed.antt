-- In a UCF file subobjects stand right after each other.
use Rattle.std.proofs.Common.{◌≡◌, inl, inr, ℕ, zero, suc, ◌+◌, ◌*◌, ◌<◌, nat_lt, true, false, List, [], ◌∷◌, length, get_or, slice_get, Some, refl, arith, ap, sym, ◌∙◌, take, All}
use Rattle.std.proofs.lemmas.Bool.{ltb-true, ltb-false}
use Rattle.std.proofs.lemmas.Option.{slice_get_within, slice_get-get_or}
use Rattle.porch_types.specs.declared.shapes.Kind.{Kind}
use Rattle.porch_types.specs.declared.shapes.Kind.TheVariants.{Char, UChar, Short, UShort, Int, UInt, Long, ULong}
use Rattle.porch_types.specs.declared.shapes.Ty.{Ty}
use Rattle.porch_types.specs.declared.shapes.Ty.TheVariants.{Whole, Pointer, Array, Struct}
use Rattle.porch_types.specs.Leaves.{parts_of, leaves_of, leaves_together, IsFormed}
use Rattle.porch_types.specs.Rows.{IsRow, elements_of_root, elements_of_array, member_of_struct, IsSubobject}
use Rattle.porch_layout.specs.Layouts.{IsLayout}
use Rattle.porch_metrics.specs.Extents.{Extent, kind_extent, extent_of, round_up, greatest_align, member_places, members_end, type_extent, ucf_layout}
use Rattle.porch_metrics.specs.Places.{place_of}
use Rattle.porch_metrics.specs.inside.Tables.{AreCounted}
use Rattle.porch_metrics.proofs.Extended.{extent_is}
use Rattle.porch_metrics.proofs.Rising.{element_place}
use Rattle.porch_metrics.proofs.RowPlaces.{Stands, row_stands, stands_elements, element_begins, member_begins}
use Rattle.porch_metrics.proofs.RowsApart.{one_more}

pub is_layout : IsLayout ucf_layout
is_layout = record {
  long = inr refl;
  pointer = inr refl;
  align_short = record { alignment = inl refl; within = omega arith };
  align_int = record { alignment = inl refl; within = omega arith };
  align_long = record { alignment = inl refl; within = omega arith };
  align_pointer = record { alignment = inl refl; within = omega arith };
  least_struct = record { alignment = inl refl; within = omega arith };
}

-- each type has alignment 1
abbrev Ones : (ℕ → Extent) → List ℕ → Type 0
Ones f ms = All (λ m. (f m).align ≡ 1) ms

kind_one : (kind : Kind) → (kind_extent ucf_layout kind).align ≡ 1
kind_one Char = refl
kind_one UChar = refl
kind_one Short = refl
kind_one UShort = refl
kind_one Int = refl
kind_one UInt = refl
kind_one Long = refl
kind_one ULong = refl

rest_ones : (f : ℕ → Extent) (m : ℕ) (ms : List ℕ) → Ones f (m ∷ ms) → Ones f ms
rest_ones f m ms a = λ k d lt. a (suc k) d (omega (arith, lt))

greatest_one : (f : ℕ → Extent) (ms : List ℕ) → Ones f ms → greatest_align f 1 ms ≡ 1
greatest_one f [] a = refl
greatest_one f (m ∷ ms) a = omega (arith, a 0 0 (omega arith), greatest_one f ms (rest_ones f m ms a))

type_one : (f : ℕ → Extent) (ty : Ty) → Ones f (parts_of ty) → (type_extent ucf_layout f ty).align ≡ 1
type_one f (Whole kind) a = kind_one kind
type_one f (Pointer to) a = refl
type_one f (Array of n) a = a 0 0 (omega arith)
type_one f (Struct members) a = greatest_one f members a

one_below : (types : List Ty) → AreCounted types → (bound n : ℕ) → n < bound → n < length types → (extent_of ucf_layout types n).align ≡ 1
one_below types formed zero n lt within = absurd (omega (arith, lt))
one_below types formed (suc bound) n lt within =
    let ty : Ty = get_or types n (Pointer 0) in
    let at : slice_get types n ≡ Some ty = slice_get-get_or types n (Pointer 0) within in
    let f : IsFormed types n ty = formed.each n ty at in
    ap (λ (e : Extent). e.align) (extent_is ucf_layout types n ty f.earlier at)
    ∙ type_one (extent_of ucf_layout types) ty
    (λ k d h. let e : get_or (parts_of ty) k d < n = f.earlier k d h in one_below types formed bound (get_or (parts_of ty) k d) (omega (arith, e, lt)) (omega (arith, e, within)))

struct_ones : (types : List Ty) (ty : ℕ) (members : List ℕ) → AreCounted types → slice_get types ty ≡ Some (Struct members) → Ones (extent_of ucf_layout types) members
struct_ones types ty members formed at = λ k d lt.
    let below : get_or members k d < ty = (formed.each ty (Struct members) at).earlier k d lt in
    one_below types formed (suc (get_or members k d)) (get_or members k d) (omega arith) (omega (arith, below, slice_get_within types ty (Struct members) at))

round_one : (p a : ℕ) → a ≡ 1 → round_up p a ≡ p
round_one p a e = ap (round_up p) e ∙ omega arith

-- a member begins where the one before it ends, and the last one ends the struct
next_place : (f : ℕ → Extent) (end : ℕ) (ms : List ℕ) (i m : ℕ) → Ones f ms → slice_get ms i ≡ Some m → suc i < length ms
    → get_or (member_places f end ms) (suc i) 0 ≡ get_or (member_places f end ms) i 0 + (f m).size
next_place f end [] i m a at lt = cc
next_place f end (o ∷ []) zero m a at lt = absurd (omega (arith, lt))
next_place f end (o ∷ (n ∷ ms)) zero m a at lt =
    let same : (f o).size ≡ (f m).size = cc in
    let here : round_up end (f o).align ≡ end = round_one end (f o).align (a 0 0 (omega arith)) in
    let there : round_up (round_up end (f o).align + (f o).size) (f n).align ≡ round_up end (f o).align + (f o).size = round_one (round_up end (f o).align + (f o).size) (f n).align (a 1 0 (omega arith)) in
    omega (arith, same, here, there)
next_place f end (o ∷ ms) (suc i) m a at lt = next_place f (round_up end (f o).align + (f o).size) ms i m (rest_ones f o ms a) at (omega (arith, lt))

last_end : (f : ℕ → Extent) (end : ℕ) (ms : List ℕ) (i m : ℕ) → slice_get ms i ≡ Some m → suc i ≡ length ms → members_end f end ms ≡ get_or (member_places f end ms) i 0 + (f m).size
last_end f end [] i m at is = cc
last_end f end (o ∷ []) zero m at is = let same : (f o).size ≡ (f m).size = cc in omega (arith, same)
last_end f end (o ∷ (n ∷ ms)) zero m at is = absurd (omega (arith, is))
last_end f end (o ∷ ms) (suc i) m at is = last_end f (round_up end (f o).align + (f o).size) ms i m at (omega (arith, is))

next_together : (f : ℕ → ℕ) (ms : List ℕ) (i m : ℕ) → slice_get ms i ≡ Some m → leaves_together f (take (suc i) ms) ≡ leaves_together f (take i ms) + f m
next_together f [] i m at = cc
next_together f (o ∷ ms) zero m at = let e : f o ≡ f m = cc in omega (arith, e)
next_together f (o ∷ ms) (suc i) m at = omega (arith, next_together f ms i m at)

last_together : (f : ℕ → ℕ) (ms : List ℕ) (i m : ℕ) → slice_get ms i ≡ Some m → suc i ≡ length ms → leaves_together f ms ≡ leaves_together f (take i ms) + f m
last_together f [] i m at is = cc
last_together f (o ∷ []) zero m at is = let e : f o ≡ f m = cc in omega (arith, e)
last_together f (o ∷ (n ∷ ms)) zero m at is = absurd (omega (arith, is))
last_together f (o ∷ ms) (suc i) m at is = omega (arith, last_together f ms i m at (omega (arith, is)))

-- the leaf after an element of a row begins where the element ends
abbrev Meets : List Ty → ℕ → ℕ → ℕ → ℕ → Type 0
Meets types root ty first len = (k : ℕ) → k < len
    → place_of ucf_layout types root (first + (k + 1) * leaves_of types ty) ≡ place_of ucf_layout types root first + (k + 1) * (extent_of ucf_layout types ty).size

meets_root : (types : List Ty) (root count : ℕ) → AreCounted types → root < length types → Meets types root root 0 count
meets_root types root count formed known k lt =
    let z : 0 + (k + 1) * leaves_of types root ≡ (k + 1) * leaves_of types root = omega arith in
    let n : 0 * leaves_of types root ≡ 0 = omega arith in
    let first : place_of ucf_layout types root 0 ≡ 0 = sym (ap (place_of ucf_layout types root) n) ∙ element_place ucf_layout types root 0 is_layout formed known ∙ omega arith in
    ap (place_of ucf_layout types root) z ∙ element_place ucf_layout types root (k + 1) is_layout formed known ∙ omega (arith, first)

meets_elements : (types : List Ty) (root count ty first len j of n : ℕ) → AreCounted types → Stands ucf_layout types root count ty first len → Meets types root ty first len → j < len
    → slice_get types ty ≡ Some (Array of n) → Meets types root of (first + j * leaves_of types ty) n
meets_elements types root count ty first len j of n formed s meets less at k lt =
    let e = extent_of ucf_layout types in
    let begin = first + j * leaves_of types ty in
    let one = leaves_of types of in
    let inner : Stands ucf_layout types root count of begin n = stands_elements ucf_layout types root count ty first len j of n is_layout formed s less at in
    elim (nat_lt (k + 1) n) as (λ t. nat_lt (k + 1) n ≡ t → place_of ucf_layout types root (begin + (k + 1) * one) ≡ place_of ucf_layout types root begin + (k + 1) * (e of).size) [
      | true ↦ λ h. element_begins ucf_layout types root count of begin n (k + 1) is_layout formed inner (ltb-true (k + 1) n h)
      | false ↦ λ h.
          let last : k + 1 ≡ n = omega (arith, lt, ltb-false (k + 1) n h) in
          let f : IsFormed types ty (Array of n) = formed.each ty (Array of n) at in
          let size : (e ty).size ≡ n * (e of).size = ap (λ (x : Extent). x.size) (extent_is ucf_layout types ty (Array of n) f.earlier at) in
          let count_is : leaves_of types ty ≡ n * one = formed.together ty (Array of n) at in
          let leaves : (k + 1) * one ≡ n * one = ap (λ x. x * one) last in
          let sizes : (k + 1) * (e of).size ≡ n * (e of).size = ap (λ x. x * (e of).size) last in
          let there : begin + (k + 1) * one ≡ first + (j + 1) * leaves_of types ty = omega (arith, leaves, count_is, one_more j (leaves_of types ty)) in
          omega (
            arith,
            ap (place_of ucf_layout types root) there,
            meets j less,
            one_more j (e ty).size,
            sizes,
            size,
            element_begins ucf_layout types root count ty first len j is_layout formed s less,
          )
    ] refl

meets_member : (types : List Ty) (root count ty first len j i m : ℕ) (members : List ℕ) → AreCounted types → Stands ucf_layout types root count ty first len → Meets types root ty first len → j < len
    → slice_get types ty ≡ Some (Struct members) → slice_get members i ≡ Some m
    → Meets types root m (first + j * leaves_of types ty + leaves_together (leaves_of types) (take i members)) 1
meets_member types root count ty first len j i m members formed s meets less at at_i k lt =
    let e = extent_of ucf_layout types in
    let f = leaves_of types in
    let begin = first + j * f ty in
    let t = leaves_together f (take i members) in
    let p = get_or (member_places e 0 members) i 0 in
    let only : k ≡ 0 = omega (arith, lt) in
    let leaves : (k + 1) * f m ≡ f m = ap (λ x. (x + 1) * f m) only ∙ omega arith in
    let sizes : (k + 1) * (e m).size ≡ (e m).size = ap (λ x. (x + 1) * (e m).size) only ∙ omega arith in
    let here : place_of ucf_layout types root (begin + t) ≡ place_of ucf_layout types root first + j * (e ty).size + p =
    member_begins ucf_layout types root count ty first len j i m members is_layout formed s less at at_i in
    let ones : Ones e members = struct_ones types ty members formed at in
    let within : i < length members = slice_get_within members i m at_i in
    elim (nat_lt (suc i) (length members)) as (λ x. nat_lt (suc i) (length members) ≡ x → place_of ucf_layout types root (begin + t + (k + 1) * f m) ≡ place_of ucf_layout types root (begin + t) + (k + 1) * (e m).size) [
      | true ↦ λ h.
          let more : suc i < length members = ltb-true (suc i) (length members) h in
          let next : ℕ = get_or members (suc i) 0 in
          let at_next : slice_get members (suc i) ≡ Some next = slice_get-get_or members (suc i) 0 more in
          let after : begin + t + (k + 1) * f m ≡ begin + leaves_together f (take (suc i) members) = omega (arith, leaves, next_together f members i m at_i) in
          let there = member_begins ucf_layout types root count ty first len j (suc i) next members is_layout formed s less at at_next in
          omega (arith, ap (place_of ucf_layout types root) after, there, next_place e 0 members i m ones at_i more, here, sizes)
      | false ↦ λ h.
          let last : suc i ≡ length members = omega (arith, within, ltb-false (suc i) (length members) h) in
          let shape : IsFormed types ty (Struct members) = formed.each ty (Struct members) at in
          let count_is : f ty ≡ leaves_together f members = formed.together ty (Struct members) at in
          let size : (e ty).size ≡ round_up (members_end e 0 members) (greatest_align e 1 members) = ap (λ (x : Extent). x.size) (extent_is ucf_layout types ty (Struct members) shape.earlier at) in
          let whole : (e ty).size ≡ p + (e m).size = size ∙ round_one (members_end e 0 members) (greatest_align e 1 members) (greatest_one e members ones) ∙ last_end e 0 members i m at_i last in
          let after : begin + t + (k + 1) * f m ≡ first + (j + 1) * f ty = omega (arith, leaves, count_is, last_together f members i m at_i last, one_more j (f ty)) in
          omega (arith, ap (place_of ucf_layout types root) after, meets j less, one_more j (e ty).size, whole, here, sizes)
    ] refl

row_meets : (types : List Ty) (root count ty first len : ℕ) → AreCounted types → root < length types → IsRow types root count ty first len → Meets types root ty first len
row_meets types root count ty first len formed known elements_of_root = meets_root types root count formed known
row_meets types root count ty first len formed known (elements_of_array {ty = whole} {first = begin} {len = many} {k = j} {n = n} row lt at) =
    meets_elements types root count whole begin many j ty n formed (row_stands ucf_layout types root count whole begin many is_layout formed known row)
    (row_meets types root count whole begin many formed known row) lt at
row_meets types root count ty first len formed known (member_of_struct {ty = whole} {first = begin} {len = many} {k = j} {members = members} i row lt at at_i) =
    meets_member types root count whole begin many j i ty members formed (row_stands ucf_layout types root count whole begin many is_layout formed known row)
    (row_meets types root count whole begin many formed known row) lt at at_i

pub subobject_packed : (types : List Ty) (root count place ty : ℕ) → AreCounted types → root < length types → IsSubobject types root count place ty
    → place_of ucf_layout types root (place + leaves_of types ty) ≡ place_of ucf_layout types root place + (extent_of ucf_layout types ty).size
subobject_packed types root count place ty formed known sub =
    let row = sub.0 in
    let h = sub.1 in
    let k = h.element.0 in
    let at : place ≡ row.first + k * leaves_of types ty = h.element.2 in
    let e = extent_of ucf_layout types ty in
    let s : Stands ucf_layout types root count ty row.first row.len = row_stands ucf_layout types root count ty row.first row.len is_layout formed known h.is_row in
    let here = element_begins ucf_layout types root count ty row.first row.len k is_layout formed s h.element.1 in
    let there = row_meets types root count ty row.first row.len formed known h.is_row k h.element.1 in
    let after : place + leaves_of types ty ≡ row.first + (k + 1) * leaves_of types ty = omega (arith, at, one_more k (leaves_of types ty)) in
    omega (arith, ap (place_of ucf_layout types root) after, there, ap (place_of ucf_layout types root) at, here, one_more k e.size)
