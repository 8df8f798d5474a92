-- A row begins where its first leaf does, and its leaves stand from there as in the type alone.
use Rattle.std.proofs.Common.{◌≡◌, ℕ, zero, suc, ◌+◌, ◌-◌, ◌*◌, ◌/◌, ◌%◌, ◌<◌, ◌≤◌, List, [], ◌∷◌, length, get_or, slice_get, Some, refl, arith, ap, sym, ◌∙◌, subst, take}
use Rattle.std.proofs.lemmas.Bool.{lt-ltb}
use Rattle.std.proofs.lemmas.Option.{slice_get_within, get_or_from_slice_get}
use Rattle.std.proofs.lemmas.Nat.{div-mul-add, mod-mul-add}
use Rattle.std.proofs.Math.Nat.{add-mul-div_right, mul-add-mod_self_right, mod-eq-sub-div-mul, div-lt_iff_lt-mul, mul-le-mul_right}
use Rattle.porch_types.specs.declared.shapes.Ty.{Ty}
use Rattle.porch_types.specs.declared.shapes.Ty.TheVariants.{Array, Struct}
use Rattle.porch_types.specs.declared.parts.Part.{Part}
use Rattle.porch_types.specs.Leaves.{leaves_of, leaves_together}
use Rattle.porch_types.specs.Rows.{IsRow, elements_of_root, elements_of_array, member_of_struct, IsSubobject, part_at, part_of, element_at}
use Rattle.porch_layout.specs.declared.layout.Layout.{Layout}
use Rattle.porch_layout.specs.Layouts.{IsLayout}
use Rattle.porch_metrics.specs.Extents.{extent_of, member_places}
use Rattle.porch_metrics.specs.Places.{part_place, place_of, place_within}
use Rattle.porch_metrics.specs.PlacedRows.{IsPlacedRow, placed_root, placed_elements, placed_member, IsRowAtPlace}
use Rattle.porch_metrics.specs.inside.Tables.{AreCounted}
use Rattle.porch_metrics.proofs.Descending.{MemberIs, member_is, place_down}
use Rattle.porch_metrics.proofs.Rising.{together_apart, member_total, element_place}

div_on : (k n m : ℕ) → 0 < n → (k * n + m) / n ≡ k + m / n
div_on k n m some =
    let c : k * n + m ≡ m + k * n = omega arith in
    ap (λ x. x / n) c ∙ add-mul-div_right m k some ∙ omega arith

times_on : (k q s p : ℕ) → (k + q) * s + p ≡ k * s + (q * s + p)
times_on k q s p = grind arith

-- a leaf so many elements further stands so many sizes further
pub elements_on : (l : Layout) (types : List Ty) (ty k m : ℕ) → 0 < leaves_of types ty
    → place_of l types ty (k * leaves_of types ty + m) ≡ k * (extent_of l types ty).size + place_of l types ty m
elements_on l types ty k m some =
    let n = leaves_of types ty in
    let s = (extent_of l types ty).size in
    ap (λ x. x * s + place_within (suc ty) l types ty ((k * n + m) % n)) (div_on k n m some)
    ∙ ap (λ x. (k + m / n) * s + place_within (suc ty) l types ty x) (mul-add-mod_self_right k n m)
    ∙ times_on k (m / n) s (place_within (suc ty) l types ty (m % n))

-- a leaf of the first element stands where it does in the type
pub place_inside : (l : Layout) (types : List Ty) (ty m : ℕ) → m < leaves_of types ty → place_of l types ty m ≡ place_within (suc ty) l types ty m
place_inside l types ty m lt =
    let n = leaves_of types ty in
    let s = (extent_of l types ty).size in
    let e : 0 * n + m ≡ m = omega arith in
    let q : m / n ≡ 0 = subst (λ x. x / n ≡ 0) e (div-mul-add 0 n m lt) in
    let r : m % n ≡ m = subst (λ x. x % n ≡ m) e (mod-mul-add 0 n m lt) in
    ap (λ x. x * s + place_within (suc ty) l types ty (m % n)) q
    ∙ ap (λ x. 0 * s + place_within (suc ty) l types ty x) r
    ∙ omega arith

element_here : (of s n place : ℕ) → place / s < n
    → element_at of s n place ≡ Some (record { ty = of; index = place / s; first = place / s * s; row = record { first = 0; len = n } })
element_here of s n place h = rw (lt-ltb (place / s) n h) refl

-- a leaf of an array stands where it does in the array's elements
pub array_place : (l : Layout) (types : List Ty) (ty of n m : ℕ) → IsLayout l → AreCounted types → slice_get types ty ≡ Some (Array of n) → m < leaves_of types ty
    → place_of l types ty m ≡ place_of l types of m
array_place l types ty of n m is formed at lt =
    let s = leaves_of types of in
    let earlier : of < ty = (formed.each ty (Array of n) at).earlier 0 0 (omega arith) in
    let some : 0 < s = formed.some of (omega (arith, earlier, slice_get_within types ty (Array of n) at)) in
    let count : leaves_of types ty ≡ n * s = formed.together ty (Array of n) at in
    let below : m / s < n = (div-lt_iff_lt-mul some).1 (omega (arith, lt, count)) in
    let part : Part = record { ty = of; index = m / s; first = m / s * s; row = record { first = 0; len = n } } in
    let h : part_at types ty m ≡ Some part = ap (λ o. part_of types o m) at ∙ element_here of s n m below in
    place_inside l types ty m lt
    ∙ place_down l types ty m part is formed h
    ∙ ap (λ o. part_place (extent_of l types) o (m / s) + place_within (suc of) l types of (m - m / s * s)) at
    ∙ ap (λ x. m / s * (extent_of l types of).size + place_within (suc of) l types of x) (sym (mod-eq-sub-div-mul m s))

pub together_inside : (f : ℕ → ℕ) (ms : List ℕ) (i m : ℕ) → slice_get ms i ≡ Some m → leaves_together f (take i ms) + f m ≤ leaves_together f ms
together_inside f [] i m at = cc
together_inside f (o ∷ ms) zero m at = let e : f o ≡ f m = cc in omega (arith, e)
together_inside f (o ∷ ms) (suc i) m at = omega (arith, together_inside f ms i m at)

-- the member that holds a leaf is the one among whose leaves it is
pub record MemberOf (members : List ℕ) (i m first : ℕ) (part : Part) : Type 0 where
  pub ty : part.ty ≡ m
  pub index : part.index ≡ i
  pub begins : part.first ≡ first

pub member_one : (f : ℕ → ℕ) (members : List ℕ) (i m leaf : ℕ) (part : Part) → slice_get members i ≡ Some m → MemberIs f members 0 0 leaf part
    → leaves_together f (take i members) ≤ leaf → leaf < leaves_together f (take i members) + f m → MemberOf members i m (leaves_together f (take i members)) part
member_one f members i m leaf part at h low high =
    let here : h.i < length members = slice_get_within members h.i part.ty h.at in
    let there : i < length members = slice_get_within members i m at in
    let no_earlier : h.i < i → ⊥ = λ lt. omega (arith, together_apart f members h.i i part.ty lt there h.at, h.begins, h.inside, low) in
    let no_later : i < h.i → ⊥ = λ lt. omega (arith, together_apart f members i h.i m lt here at, h.begins, h.below, high) in
    let same : h.i ≡ i = omega (arith, no_earlier, no_later) in
    let ty_same : Some part.ty ≡ Some m = sym h.at ∙ ap (slice_get members) same ∙ at in
    let first : leaves_together f (take h.i members) ≡ leaves_together f (take i members) = ap (λ k. leaves_together f (take k members)) same in
    record { ty = cc; index = omega (arith, h.is, same); begins = omega (arith, h.begins, first) }

pub member_holds : (l : Layout) (types : List Ty) (ty leaf : ℕ) (members : List ℕ) → AreCounted types → slice_get types ty ≡ Some (Struct members) → leaf < leaves_of types ty
    → (part : Part) × (part_at types ty leaf ≡ Some part) × MemberIs (leaves_of types) members 0 0 leaf part
member_holds l types ty leaf members formed at lt =
    let count : leaves_of types ty ≡ leaves_together (leaves_of types) members = formed.together ty (Struct members) at in
    let p = member_total (leaves_of types) members 0 0 leaf (omega arith) (omega (arith, lt, count)) in
    (p.0, ap (λ o. part_of types o leaf) at ∙ p.1, member_is (leaves_of types) members 0 0 leaf p.0 (omega arith) p.1)

member_down : (l : Layout) (types : List Ty) (ty leaf i m t : ℕ) (members : List ℕ) (part : Part) → IsLayout l → AreCounted types → slice_get types ty ≡ Some (Struct members) → part_at types ty leaf ≡ Some part
    → MemberOf members i m t part → place_within (suc ty) l types ty leaf ≡ get_or (member_places (extent_of l types) 0 members) i 0 + place_within (suc m) l types m (leaf - t)
member_down l types ty leaf i m t members part is formed at h one =
    let places : List ℕ = member_places (extent_of l types) 0 members in
    place_down l types ty leaf part is formed h
    ∙ ap (λ o. part_place (extent_of l types) o part.index + place_within (suc part.ty) l types part.ty (leaf - part.first)) at
    ∙ ap (λ x. get_or places x 0 + place_within (suc part.ty) l types part.ty (leaf - part.first)) one.index
    ∙ ap (λ x. get_or places i 0 + place_within (suc x) l types x (leaf - part.first)) one.ty
    ∙ ap (λ x. get_or places i 0 + place_within (suc m) l types m (leaf - x)) one.begins

-- a leaf of a member stands from the member's place on
pub member_leaf_place : (l : Layout) (types : List Ty) (ty i m j : ℕ) (members : List ℕ) → IsLayout l → AreCounted types → slice_get types ty ≡ Some (Struct members) → slice_get members i ≡ Some m → j < leaves_of types m
    → place_of l types ty (leaves_together (leaves_of types) (take i members) + j) ≡ get_or (member_places (extent_of l types) 0 members) i 0 + place_of l types m j
member_leaf_place l types ty i m j members is formed at at_i lt =
    let f = leaves_of types in
    let t = leaves_together f (take i members) in
    let count : leaves_of types ty ≡ leaves_together f members = formed.together ty (Struct members) at in
    let within : t + j < leaves_of types ty = omega (arith, count, lt, together_inside f members i m at_i) in
    let p = member_holds l types ty (t + j) members formed at within in
    let one : MemberOf members i m t p.0 = member_one f members i m (t + j) p.0 at_i p.2 (omega arith) (omega (arith, lt)) in
    let down = member_down l types ty (t + j) i m t members p.0 is formed at p.1 one in
    let rest : t + j - t ≡ j = omega arith in
    omega (arith, place_inside l types ty (t + j) within, down, ap (place_within (suc m) l types m) rest, place_inside l types m j lt)

-- what is known of a row of a root
pub record Stands (l : Layout) (types : List Ty) (root count ty first len : ℕ) : Type 0 where
  pub known : ty < length types
  pub leaves : (m : ℕ) → m < len * leaves_of types ty → place_of l types root (first + m) ≡ place_of l types root first + place_of l types ty m
  pub placed : IsPlacedRow l types root count ty first len (place_of l types root first)

times_below : (k n m len : ℕ) → k < len → m < n → k * n + m < len * n
times_below k n m len lt less =
    let h : (k + 1) * n ≤ len * n = mul-le-mul_right n (omega (arith, lt)) in
    let e : (k + 1) * n ≡ k * n + n = grind arith in
    omega (arith, h, e, less)

-- a leaf of an element of a row
pub element_leaf : (l : Layout) (types : List Ty) (root count ty first len k m : ℕ) → AreCounted types → Stands l types root count ty first len → k < len → m < leaves_of types ty
    → place_of l types root (first + k * leaves_of types ty + m) ≡ place_of l types root first + k * (extent_of l types ty).size + place_of l types ty m
element_leaf l types root count ty first len k m formed s lt less =
    let n = leaves_of types ty in
    let e : first + k * n + m ≡ first + (k * n + m) = omega arith in
    let below : k * n + m < len * n = times_below k n m len lt less in
    let a : place_of l types root (first + (k * n + m)) ≡ place_of l types root first + place_of l types ty (k * n + m) = s.leaves (k * n + m) below in
    let b : place_of l types ty (k * n + m) ≡ k * (extent_of l types ty).size + place_of l types ty m = elements_on l types ty k m (formed.some ty s.known) in
    ap (place_of l types root) e ∙ omega (arith, a, b)

pub zero_place : (l : Layout) (types : List Ty) (ty : ℕ) → IsLayout l → AreCounted types → ty < length types → place_of l types ty 0 ≡ 0
zero_place l types ty is formed known =
    let e : 0 * leaves_of types ty ≡ 0 = omega arith in
    let h : place_of l types ty 0 ≡ 0 * (extent_of l types ty).size = subst (λ x. place_of l types ty x ≡ 0 * (extent_of l types ty).size) e (element_place l types ty 0 is formed known) in
    omega (arith, h)

-- where an element of a row begins
pub element_begins : (l : Layout) (types : List Ty) (root count ty first len k : ℕ) → IsLayout l → AreCounted types → Stands l types root count ty first len → k < len
    → place_of l types root (first + k * leaves_of types ty) ≡ place_of l types root first + k * (extent_of l types ty).size
element_begins l types root count ty first len k is formed s lt =
    let n = leaves_of types ty in
    let e : first + k * n + 0 ≡ first + k * n = omega arith in
    let a : place_of l types root (first + k * n + 0) ≡ place_of l types root first + k * (extent_of l types ty).size + place_of l types ty 0 =
    element_leaf l types root count ty first len k 0 formed s lt (formed.some ty s.known) in
    let b : place_of l types root (first + k * n + 0) ≡ place_of l types root (first + k * n) = ap (place_of l types root) e in
    omega (arith, a, b, zero_place l types ty is formed s.known)

stands_root : (l : Layout) (types : List Ty) (root count : ℕ) → IsLayout l → AreCounted types → root < length types → Stands l types root count root 0 count
stands_root l types root count is formed known =
    let z : place_of l types root 0 ≡ 0 = zero_place l types root is formed known in
    record {
      known = known;
      leaves = λ m lt. let e : 0 + m ≡ m = omega arith in ap (place_of l types root) e ∙ omega (arith, z);
      placed = subst (IsPlacedRow l types root count root 0 count) (sym z) placed_root;
    }

pub stands_elements : (l : Layout) (types : List Ty) (root count ty first len k of n : ℕ) → IsLayout l → AreCounted types → Stands l types root count ty first len → k < len → slice_get types ty ≡ Some (Array of n)
    → Stands l types root count of (first + k * leaves_of types ty) n
stands_elements l types root count ty first len k of n is formed s lt at =
    let earlier : of < ty = (formed.each ty (Array of n) at).earlier 0 0 (omega arith) in
    let leaves : leaves_of types ty ≡ n * leaves_of types of = formed.together ty (Array of n) at in
    let begins = element_begins l types root count ty first len k is formed s lt in
    record {
      known = omega (arith, earlier, s.known);
      leaves = λ m less.
          let within : m < leaves_of types ty = omega (arith, less, leaves) in
          omega (arith, element_leaf l types root count ty first len k m formed s lt within, array_place l types ty of n m is formed at within, begins);
      placed = subst (IsPlacedRow l types root count of (first + k * leaves_of types ty) n) (sym begins) (placed_elements s.placed lt at);
    }

pub member_known : (types : List Ty) (ty i m : ℕ) (members : List ℕ) → AreCounted types → slice_get types ty ≡ Some (Struct members) → slice_get members i ≡ Some m → m < ty
member_known types ty i m members formed at at_i =
    let earlier : get_or members i 0 < ty = (formed.each ty (Struct members) at).earlier i 0 (slice_get_within members i m at_i) in
    omega (arith, earlier, get_or_from_slice_get members i m 0 at_i)

-- a leaf of a member of an element of a row
member_leaf : (l : Layout) (types : List Ty) (root count ty first len k i m j : ℕ) (members : List ℕ) → IsLayout l → AreCounted types → Stands l types root count ty first len → k < len
    → slice_get types ty ≡ Some (Struct members) → slice_get members i ≡ Some m → j < leaves_of types m
    → place_of l types root (first + k * leaves_of types ty + leaves_together (leaves_of types) (take i members) + j)
    ≡ place_of l types root first + k * (extent_of l types ty).size + get_or (member_places (extent_of l types) 0 members) i 0 + place_of l types m j
member_leaf l types root count ty first len k i m j members is formed s lt at at_i less =
    let f = leaves_of types in
    let t = leaves_together f (take i members) in
    let begin = first + k * f ty in
    let count_is : f ty ≡ leaves_together f members = formed.together ty (Struct members) at in
    let e : begin + t + j ≡ begin + (t + j) = omega arith in
    let a : place_of l types root (begin + (t + j)) ≡ place_of l types root first + k * (extent_of l types ty).size + place_of l types ty (t + j) =
    element_leaf l types root count ty first len k (t + j) formed s lt (omega (arith, less, together_inside f members i m at_i, count_is)) in
    let b = member_leaf_place l types ty i m j members is formed at at_i less in
    ap (place_of l types root) e ∙ omega (arith, a, b)

-- where a member of an element of a row begins
pub member_begins : (l : Layout) (types : List Ty) (root count ty first len k i m : ℕ) (members : List ℕ) → IsLayout l → AreCounted types → Stands l types root count ty first len → k < len
    → slice_get types ty ≡ Some (Struct members) → slice_get members i ≡ Some m
    → place_of l types root (first + k * leaves_of types ty + leaves_together (leaves_of types) (take i members))
    ≡ place_of l types root first + k * (extent_of l types ty).size + get_or (member_places (extent_of l types) 0 members) i 0
member_begins l types root count ty first len k i m members is formed s lt at at_i =
    let at_0 = first + k * leaves_of types ty + leaves_together (leaves_of types) (take i members) in
    let known : m < length types = omega (arith, member_known types ty i m members formed at at_i, s.known) in
    let z : at_0 + 0 ≡ at_0 = omega arith in
    let h : place_of l types root (at_0 + 0) ≡ place_of l types root at_0 = ap (place_of l types root) z in
    omega (arith, h, member_leaf l types root count ty first len k i m 0 members is formed s lt at at_i (formed.some m known), zero_place l types m is formed known)

stands_member : (l : Layout) (types : List Ty) (root count ty first len k i m : ℕ) (members : List ℕ) → IsLayout l → AreCounted types → Stands l types root count ty first len → k < len
    → slice_get types ty ≡ Some (Struct members) → slice_get members i ≡ Some m
    → Stands l types root count m (first + k * leaves_of types ty + leaves_together (leaves_of types) (take i members)) 1
stands_member l types root count ty first len k i m members is formed s lt at at_i =
    let f = leaves_of types in
    let at_0 = first + k * f ty + leaves_together f (take i members) in
    let begins = member_begins l types root count ty first len k i m members is formed s lt at at_i in
    record {
      known = omega (arith, member_known types ty i m members formed at at_i, s.known);
      leaves = λ j less. let one : j < f m = omega (arith, less) in
          omega (arith, member_leaf l types root count ty first len k i m j members is formed s lt at at_i one, begins);
      placed = subst (IsPlacedRow l types root count m at_0 1) (sym begins) (placed_member i s.placed lt at at_i);
    }

-- each row of a root stands so
pub row_stands : (l : Layout) (types : List Ty) (root count ty first len : ℕ) → IsLayout l → AreCounted types → root < length types → IsRow types root count ty first len → Stands l types root count ty first len
row_stands l types root count ty first len is formed known elements_of_root = stands_root l types root count is formed known
row_stands l types root count ty first len is formed known (elements_of_array {ty = whole} {first = begin} {len = many} {k = k} {n = n} row lt at) =
    stands_elements l types root count whole begin many k ty n is formed (row_stands l types root count whole begin many is formed known row) lt at
row_stands l types root count ty first len is formed known (member_of_struct {ty = whole} {first = begin} {len = many} {k = k} {members = members} i row lt at at_i) =
    stands_member l types root count whole begin many k i ty members is formed (row_stands l types root count whole begin many is formed known row) lt at at_i

-- and a row that has a place is one that has it there
pub placed_is : (l : Layout) (types : List Ty) (root count ty first len place : ℕ) → IsLayout l → AreCounted types → root < length types → IsPlacedRow l types root count ty first len place
    → IsRowAtPlace l types root count ty first len place
placed_is l types root count ty first len place is formed known placed_root = record { is_row = elements_of_root; place_is = sym (zero_place l types root is formed known) }
placed_is l types root count ty first len place is formed known (placed_elements {ty = whole} {first = begin} {len = many} {place = p} {k = k} {n = n} row lt at) =
    let r : IsRowAtPlace l types root count whole begin many p = placed_is l types root count whole begin many p is formed known row in
    let s : Stands l types root count whole begin many = row_stands l types root count whole begin many is formed known r.is_row in
    record { is_row = elements_of_array r.is_row lt at; place_is = omega (arith, r.place_is, element_begins l types root count whole begin many k is formed s lt) }
placed_is l types root count ty first len place is formed known (placed_member {ty = whole} {first = begin} {len = many} {place = p} {k = k} {members = members} i row lt at at_i) =
    let r : IsRowAtPlace l types root count whole begin many p = placed_is l types root count whole begin many p is formed known row in
    let s : Stands l types root count whole begin many = row_stands l types root count whole begin many is formed known r.is_row in
    record { is_row = member_of_struct i r.is_row lt at at_i; place_is = omega (arith, r.place_is, member_begins l types root count whole begin many k i ty members is formed s lt at at_i) }

-- a leaf of a subobject
pub subobject_leaf : (l : Layout) (types : List Ty) (root count place ty leaf : ℕ) → IsLayout l → AreCounted types → root < length types → IsSubobject types root count place ty → leaf < leaves_of types ty
    → place_of l types root (place + leaf) ≡ place_of l types root place + place_of l types ty leaf
subobject_leaf l types root count place ty leaf is formed known sub lt =
    let row = sub.0 in
    let h = sub.1 in
    let k = h.element.0 in
    let at : place ≡ row.first + k * leaves_of types ty = h.element.2 in
    let s : Stands l types root count ty row.first row.len = row_stands l types root count ty row.first row.len is formed known h.is_row in
    let begins = element_begins l types root count ty row.first row.len k is formed s h.element.1 in
    let here = element_leaf l types root count ty row.first row.len k leaf formed s h.element.1 lt in
    omega (arith, begins, here, ap (place_of l types root) at, ap (λ x. place_of l types root (x + leaf)) at)

-- where a member begins
pub member_first : (l : Layout) (types : List Ty) (ty i m : ℕ) (members : List ℕ) → IsLayout l → AreCounted types → slice_get types ty ≡ Some (Struct members) → slice_get members i ≡ Some m
    → place_of l types ty (leaves_together (leaves_of types) (take i members)) ≡ get_or (member_places (extent_of l types) 0 members) i 0
member_first l types ty i m members is formed at at_i =
    let t = leaves_together (leaves_of types) (take i members) in
    let known : m < length types = omega (arith, member_known types ty i m members formed at at_i, slice_get_within types ty (Struct members) at) in
    let z : t + 0 ≡ t = omega arith in
    omega (arith, ap (place_of l types ty) z, member_leaf_place l types ty i m 0 members is formed at at_i (formed.some m known), zero_place l types m is formed known)
