-- Places rise with leaves, a part lies inside its whole, and a size is a multiple of the alignment.
use Rattle.std.proofs.Common.{◌≡◌, ◌⊎◌, inl, inr, ℕ, zero, suc, ◌+◌, ◌-◌, ◌*◌, ◌/◌, ◌%◌, ◌<◌, ◌≤◌, cond, nat_lt, true, false, List, [], ◌∷◌, length, get_or, slice_get, Option, Some, None, refl, arith, ap, sym, ◌∙◌, subst, take, All}
use Rattle.std.proofs.lemmas.Bool.{ltb-true, ltb-false, lt-ltb}
use Rattle.std.proofs.lemmas.Nat.{div-add-mod', div-mul-add}
use Rattle.std.proofs.lemmas.Option.{slice_get_within, slice_get-get_or}
use Rattle.std.proofs.Math.Nat.{mul-le-mul_right, mul-mod_left, div-lt_iff_lt-mul}
use Rattle.std.specs.Option.{option_map_or}
use Rattle.porch_types.specs.declared.shapes.Kind.{Kind}
use Rattle.porch_types.specs.declared.shapes.Kind.TheVariants.{Char, UChar, Short, UShort, Int, UInt, Long, ULong}
use Rattle.porch_types.specs.declared.shapes.Ty.{Ty}
use Rattle.porch_types.specs.declared.shapes.Ty.TheVariants.{Whole, Pointer, Array, Struct}
use Rattle.porch_types.specs.declared.parts.Part.{Part}
use Rattle.porch_types.specs.Leaves.{parts_of, leaves_together, leaf_count, leaves_of, IsFormed}
use Rattle.porch_types.specs.Rows.{part_at, part_of, element_at, member_at}
use Rattle.porch_layout.specs.declared.layout.Layout.{Layout}
use Rattle.porch_layout.specs.Layouts.{IsAlignment, IsLayout, IsSize}
use Rattle.porch_metrics.specs.Extents.{Extent, kind_extent, round_up, greatest_align, member_places, members_end, type_extent, extent_of}
use Rattle.porch_metrics.specs.Places.{part_place, place_within, place_of}
use Rattle.porch_metrics.specs.inside.Tables.{AreCounted}
use Rattle.porch_metrics.proofs.Extended.{extent_is}
use Rattle.porch_metrics.proofs.Bounds.{bounded}
use Rattle.porch_metrics.proofs.Descending.{MemberIs, member_is, ElementIs, element_is, Lies, lies}

pub round_ge : (p a : ℕ) → IsAlignment a → p ≤ round_up p a
round_ge p a (inl e) = subst (λ n. p ≤ round_up p n) (sym e) (omega arith)
round_ge p a (inr (inl e)) = subst (λ n. p ≤ round_up p n) (sym e) (omega arith)
round_ge p a (inr (inr (inl e))) = subst (λ n. p ≤ round_up p n) (sym e) (omega arith)
round_ge p a (inr (inr (inr e))) = subst (λ n. p ≤ round_up p n) (sym e) (omega arith)

abbrev pub Powers : (ℕ → Extent) → List ℕ → Type 0
Powers f ms = All (λ m. IsAlignment (f m).align) ms

rest_of : (f : ℕ → Extent) (m : ℕ) (ms : List ℕ) → Powers f (m ∷ ms) → Powers f ms
rest_of f m ms a = λ k d lt. a (suc k) d (omega (arith, lt))

end_ge : (f : ℕ → Extent) (end : ℕ) (ms : List ℕ) → Powers f ms → end ≤ members_end f end ms
end_ge f end [] a = omega arith
end_ge f end (m ∷ ms) a =
    omega (arith, round_ge end (f m).align (a 0 0 (omega arith)), end_ge f (round_up end (f m).align + (f m).size) ms (rest_of f m ms a))

place_ge : (f : ℕ → Extent) (end : ℕ) (ms : List ℕ) (i : ℕ) → Powers f ms → i < length ms → end ≤ get_or (member_places f end ms) i 0
place_ge f end [] i a lt = absurd (omega (arith, lt))
place_ge f end (m ∷ ms) zero a lt = round_ge end (f m).align (a 0 0 (omega arith))
place_ge f end (m ∷ ms) (suc i) a lt =
    omega (arith, round_ge end (f m).align (a 0 0 (omega arith)), place_ge f (round_up end (f m).align + (f m).size) ms i (rest_of f m ms a) (omega (arith, lt)))

pub members_inside : (f : ℕ → Extent) (end : ℕ) (ms : List ℕ) (i m : ℕ) → Powers f ms → slice_get ms i ≡ Some m → get_or (member_places f end ms) i 0 + (f m).size ≤ members_end f end ms
members_inside f end [] i m a at = cc
members_inside f end (o ∷ ms) zero m a at =
    let e : (f o).size ≡ (f m).size = cc in
    omega (arith, e, end_ge f (round_up end (f o).align + (f o).size) ms (rest_of f o ms a))
members_inside f end (o ∷ ms) (suc i) m a at = members_inside f (round_up end (f o).align + (f o).size) ms i m (rest_of f o ms a) at

pub members_apart : (f : ℕ → Extent) (end : ℕ) (ms : List ℕ) (i j m : ℕ) → Powers f ms → i < j → j < length ms → slice_get ms i ≡ Some m
    → get_or (member_places f end ms) i 0 + (f m).size ≤ get_or (member_places f end ms) j 0
members_apart f end [] i j m a lt within at = cc
members_apart f end (o ∷ ms) i zero m a lt within at = absurd (omega (arith, lt))
members_apart f end (o ∷ ms) zero (suc j) m a lt within at =
    let e : (f o).size ≡ (f m).size = cc in
    omega (arith, e, place_ge f (round_up end (f o).align + (f o).size) ms j (rest_of f o ms a) (omega (arith, within)))
members_apart f end (o ∷ ms) (suc i) (suc j) m a lt within at =
    members_apart f (round_up end (f o).align + (f o).size) ms i j m (rest_of f o ms a) (omega (arith, lt)) (omega (arith, within)) at

pub times_apart : (i j s : ℕ) → i < j → i * s + s ≤ j * s
times_apart i j s lt =
    let h : (i + 1) * s ≤ j * s = mul-le-mul_right s (omega (arith, lt)) in
    let m : (i + 1) * s ≡ i * s + s = grind arith in
    omega (arith, h, m)

pub together_apart : (f : ℕ → ℕ) (ms : List ℕ) (i j m : ℕ) → i < j → j < length ms → slice_get ms i ≡ Some m → leaves_together f (take i ms) + f m ≤ leaves_together f (take j ms)
together_apart f [] i j m lt within at = cc
together_apart f (o ∷ ms) i zero m lt within at = absurd (omega (arith, lt))
together_apart f (o ∷ ms) zero (suc j) m lt within at = let e : f o ≡ f m = cc in omega (arith, e)
together_apart f (o ∷ ms) (suc i) (suc j) m lt within at = omega (arith, together_apart f ms i j m (omega (arith, lt)) (omega (arith, within)) at)

pub powers : (l : Layout) (types : List Ty) (ty : ℕ) (members : List ℕ) → IsLayout l → AreCounted types → slice_get types ty ≡ Some (Struct members) → Powers (extent_of l types) members
powers l types ty members is formed at = λ k d lt.
    let below : get_or members k d < ty = (formed.each ty (Struct members) at).earlier k d lt in
    (bounded l types (get_or members k d) is formed (omega (arith, below, slice_get_within types ty (Struct members) at))).power

-- where a part ends is at most the size of its whole
inside_array : (l : Layout) (types : List Ty) (ty leaf of n : ℕ) (part : Part) → IsLayout l → AreCounted types → slice_get types ty ≡ Some (Array of n) → part_of types (Some (Array of n)) leaf ≡ Some part
    → part.index * (extent_of l types of).size + (extent_of l types part.ty).size ≤ (extent_of l types ty).size
inside_array l types ty leaf of n part is formed at h =
    let f : IsFormed types ty (Array of n) = formed.each ty (Array of n) at in
    let earlier : of < ty = f.earlier 0 0 (omega arith) in
    let within : of < length types = omega (arith, earlier, slice_get_within types ty (Array of n) at) in
    let e : ElementIs of (leaves_of types of) n leaf part = element_is of (leaves_of types of) n leaf part (formed.some of within) h in
    let size : (extent_of l types ty).size ≡ n * (extent_of l types of).size = ap (λ (x : Extent). x.size) (extent_is l types ty (Array of n) f.earlier at) in
    let own : (extent_of l types part.ty).size ≡ (extent_of l types of).size = ap (λ x. (extent_of l types x).size) e.ty in
    omega (arith, times_apart part.index n (extent_of l types of).size e.index, size, own)

inside_struct : (l : Layout) (types : List Ty) (ty leaf : ℕ) (members : List ℕ) (part : Part) → IsLayout l → AreCounted types → slice_get types ty ≡ Some (Struct members)
    → part_of types (Some (Struct members)) leaf ≡ Some part
    → get_or (member_places (extent_of l types) 0 members) part.index 0 + (extent_of l types part.ty).size ≤ (extent_of l types ty).size
inside_struct l types ty leaf members part is formed at h =
    let f : IsFormed types ty (Struct members) = formed.each ty (Struct members) at in
    let m : MemberIs (leaves_of types) members 0 0 leaf part = member_is (leaves_of types) members 0 0 leaf part (omega arith) h in
    let index : part.index ≡ m.i = omega (arith, m.is) in
    let e = extent_of l types in
    let own : extent_of l types ty ≡ type_extent l e (Struct members) = extent_is l types ty (Struct members) f.earlier at in
    let size : (extent_of l types ty).size ≡ round_up (members_end e 0 members) (greatest_align e l.least_struct members) = ap (λ (x : Extent). x.size) own in
    let align : (extent_of l types ty).align ≡ greatest_align e l.least_struct members = ap (λ (x : Extent). x.align) own in
    let power : IsAlignment (greatest_align e l.least_struct members) = subst IsAlignment align (bounded l types ty is formed (slice_get_within types ty (Struct members) at)).power in
    let inside : get_or (member_places e 0 members) m.i 0 + (e part.ty).size ≤ members_end e 0 members = members_inside e 0 members m.i part.ty (powers l types ty members is formed at) m.at in
    let moved : get_or (member_places e 0 members) part.index 0 ≡ get_or (member_places e 0 members) m.i 0 = ap (λ i. get_or (member_places e 0 members) i 0) index in
    omega (arith, inside, moved, size, round_ge (members_end e 0 members) (greatest_align e l.least_struct members) power)

inside_option : (l : Layout) (types : List Ty) (ty leaf : ℕ) (o : Option Ty) (part : Part) → IsLayout l → AreCounted types → slice_get types ty ≡ o → part_of types o leaf ≡ Some part
    → part_place (extent_of l types) o part.index + (extent_of l types part.ty).size ≤ (extent_of l types ty).size
inside_option l types ty leaf None part is formed at h = cc
inside_option l types ty leaf (Some (Whole kind)) part is formed at h = cc
inside_option l types ty leaf (Some (Pointer to)) part is formed at h = cc
inside_option l types ty leaf (Some (Array of n)) part is formed at h = inside_array l types ty leaf of n part is formed at h
inside_option l types ty leaf (Some (Struct members)) part is formed at h = inside_struct l types ty leaf members part is formed at h

pub part_inside : (l : Layout) (types : List Ty) (ty leaf : ℕ) (part : Part) → IsLayout l → AreCounted types → part_at types ty leaf ≡ Some part
    → part_place (extent_of l types) (slice_get types ty) part.index + (extent_of l types part.ty).size ≤ (extent_of l types ty).size
part_inside l types ty leaf part is formed h = inside_option l types ty leaf (slice_get types ty) part is formed refl h

-- a multiple of an alignment
pub record Multiple (n a : ℕ) : Type 0 where
  pub q : ℕ
  pub is : n ≡ q * a

by_2 : (s : ℕ) → IsAlignment s → 2 ≤ s → Multiple s 2
by_2 s (inl e) h = absurd (omega (arith, e, h))
by_2 s (inr (inl e)) h = record { q = 1; is = omega (arith, e) }
by_2 s (inr (inr (inl e))) h = record { q = 2; is = omega (arith, e) }
by_2 s (inr (inr (inr e))) h = record { q = 4; is = omega (arith, e) }

by_4 : (s : ℕ) → IsAlignment s → 4 ≤ s → Multiple s 4
by_4 s (inl e) h = absurd (omega (arith, e, h))
by_4 s (inr (inl e)) h = absurd (omega (arith, e, h))
by_4 s (inr (inr (inl e))) h = record { q = 1; is = omega (arith, e) }
by_4 s (inr (inr (inr e))) h = record { q = 2; is = omega (arith, e) }

by_8 : (s : ℕ) → IsAlignment s → 8 ≤ s → Multiple s 8
by_8 s (inl e) h = absurd (omega (arith, e, h))
by_8 s (inr (inl e)) h = absurd (omega (arith, e, h))
by_8 s (inr (inr (inl e))) h = absurd (omega (arith, e, h))
by_8 s (inr (inr (inr e))) h = record { q = 1; is = omega (arith, e) }

pub by_power : (s a : ℕ) → IsAlignment s → IsAlignment a → a ≤ s → Multiple s a
by_power s a p (inl e) h = record { q = s; is = subst (λ x. s ≡ s * x) (sym e) (omega arith) }
by_power s a p (inr (inl e)) h = subst (Multiple s) (sym e) (by_2 s p (omega (arith, e, h)))
by_power s a p (inr (inr (inl e))) h = subst (Multiple s) (sym e) (by_4 s p (omega (arith, e, h)))
by_power s a p (inr (inr (inr e))) h = subst (Multiple s) (sym e) (by_8 s p (omega (arith, e, h)))

size_power : (s : ℕ) → IsSize s → IsAlignment s
size_power s (inl e) = inr (inr (inl e))
size_power s (inr e) = inr (inr (inr e))

kind_multiple : (l : Layout) (kind : Kind) → IsLayout l → Multiple (kind_extent l kind).size (kind_extent l kind).align
kind_multiple l Char is = record { q = 1; is = omega arith }
kind_multiple l UChar is = record { q = 1; is = omega arith }
kind_multiple l Short is = by_power 2 l.align_short (inr (inl refl)) is.align_short.alignment is.align_short.within
kind_multiple l UShort is = by_power 2 l.align_short (inr (inl refl)) is.align_short.alignment is.align_short.within
kind_multiple l Int is = by_power 4 l.align_int (inr (inr (inl refl))) is.align_int.alignment is.align_int.within
kind_multiple l UInt is = by_power 4 l.align_int (inr (inr (inl refl))) is.align_int.alignment is.align_int.within
kind_multiple l Long is = by_power l.long l.align_long (size_power l.long is.long) is.align_long.alignment is.align_long.within
kind_multiple l ULong is = by_power l.long l.align_long (size_power l.long is.long) is.align_long.alignment is.align_long.within

assoc : (k q a : ℕ) → k * (q * a) ≡ k * q * a
assoc k q a = grind arith

pub times_multiple : (k n a : ℕ) → Multiple n a → Multiple (k * n) a
times_multiple k n a m = record { q = k * m.q; is = ap (λ x. k * x) m.is ∙ assoc k m.q a }

type_multiple : (l : Layout) (f : ℕ → Extent) (ty : Ty) → IsLayout l → All (λ m. Multiple (f m).size (f m).align) (parts_of ty) → Multiple (type_extent l f ty).size (type_extent l f ty).align
type_multiple l f (Whole kind) is a = kind_multiple l kind is
type_multiple l f (Pointer to) is a = by_power l.pointer l.align_pointer (size_power l.pointer is.pointer) is.align_pointer.alignment is.align_pointer.within
type_multiple l f (Array of n) is a = times_multiple n (f of).size (f of).align (a 0 0 (omega arith))
type_multiple l f (Struct members) is a =
    record { q = (members_end f 0 members + (greatest_align f l.least_struct members - 1)) / greatest_align f l.least_struct members; is = refl }

pub multiple_below : (l : Layout) (types : List Ty) → IsLayout l → AreCounted types → (bound n : ℕ) → n < bound → n < length types → Multiple (extent_of l types n).size (extent_of l types n).align
multiple_below l types is formed zero n lt within = absurd (omega (arith, lt))
multiple_below l types is formed (suc bound) n lt within =
    let ty : Ty = get_or types n (Pointer 0) in
    let at : slice_get types n ≡ Some ty = slice_get-get_or types n (Pointer 0) within in
    let f : IsFormed types n ty = formed.each n ty at in
    let parts : All (λ m. Multiple (extent_of l types m).size (extent_of l types m).align) (parts_of ty) =
    λ k d h. let e : get_or (parts_of ty) k d < n = f.earlier k d h in
    multiple_below l types is formed bound (get_or (parts_of ty) k d) (omega (arith, e, lt)) (omega (arith, e, within)) in
    subst (λ (e : Extent). Multiple e.size e.align) (sym (extent_is l types n ty f.earlier at)) (type_multiple l (extent_of l types) ty is parts)

first_option : (l : Layout) (types : List Ty) (n ty : ℕ) (o : Option Part) → IsLayout l → AreCounted types → part_at types ty 0 ≡ o
    → ((t : ℕ) → place_within n l types t 0 ≡ 0)
    → option_map_or (λ part. part_place (extent_of l types) (slice_get types ty) part.index + place_within n l types part.ty (0 - part.first)) o 0 ≡ 0
first_option l types n ty None is formed at e = refl
first_option l types n ty (Some part) is formed at e =
    let d : Lies l types ty 0 (slice_get types ty) part = lies l types ty 0 part is formed at in
    let p : part_place (extent_of l types) (slice_get types ty) part.index ≡ 0 = omega (arith, d.bound, d.holds.below) in
    let z : 0 - part.first ≡ 0 = omega arith in
    ap (λ x. part_place (extent_of l types) (slice_get types ty) part.index + place_within n l types part.ty x) z
    ∙ ap (λ x. part_place (extent_of l types) (slice_get types ty) part.index + x) (e part.ty)
    ∙ omega (arith, p)

-- a type begins where its first leaf does
pub first_leaf : (l : Layout) (types : List Ty) (n ty : ℕ) → IsLayout l → AreCounted types → place_within n l types ty 0 ≡ 0
first_leaf l types zero ty is formed = refl
first_leaf l types (suc n) ty is formed = first_option l types n ty (part_at types ty 0) is formed refl (λ t. first_leaf l types n t is formed)

pub element_place : (l : Layout) (types : List Ty) (ty k : ℕ) → IsLayout l → AreCounted types → ty < length types → place_of l types ty (k * leaves_of types ty) ≡ k * (extent_of l types ty).size
element_place l types ty k is formed known =
    let n = leaves_of types ty in
    let s = (extent_of l types ty).size in
    let some : 0 < n = formed.some ty known in
    let e : k * n + 0 ≡ k * n = omega arith in
    let q : k * n / n ≡ k = subst (λ x. x / n ≡ k) e (div-mul-add k n 0 some) in
    let r : k * n % n ≡ 0 = mul-mod_left k n in
    ap (λ x. x * s + place_within (suc ty) l types ty (k * n % n)) q
    ∙ ap (λ x. k * s + place_within (suc ty) l types ty x) r
    ∙ ap (λ x. k * s + x) (first_leaf l types (suc ty) ty is formed)
    ∙ omega arith

-- each element stands at a multiple of its alignment
pub element_aligned : (l : Layout) (types : List Ty) (ty k : ℕ) → IsLayout l → AreCounted types → ty < length types → place_of l types ty (k * leaves_of types ty) % (extent_of l types ty).align ≡ 0
element_aligned l types ty k is formed known =
    let e = extent_of l types ty in
    let m : Multiple e.size e.align = multiple_below l types is formed (suc ty) ty (omega arith) known in
    let t : Multiple (k * e.size) e.align = times_multiple k e.size e.align m in
    ap (λ x. x % e.align) (element_place l types ty k is formed known) ∙ ap (λ x. x % e.align) t.is ∙ mul-mod_left t.q e.align

size_some_is : (n : ℕ) → IsSize n → 0 < n
size_some_is n (inl e) = omega (arith, e)
size_some_is n (inr e) = omega (arith, e)

size_some_kind : (l : Layout) (kind : Kind) → IsLayout l → 0 < (kind_extent l kind).size
size_some_kind l Char is = omega arith
size_some_kind l UChar is = omega arith
size_some_kind l Short is = omega arith
size_some_kind l UShort is = omega arith
size_some_kind l Int is = omega arith
size_some_kind l UInt is = omega arith
size_some_kind l Long is = size_some_is l.long is.long
size_some_kind l ULong is = size_some_is l.long is.long

product_some : (n s : ℕ) → 0 < n → 0 < s → 0 < n * s
product_some n s a b = grind arith

struct_some : (l : Layout) (types : List Ty) (ty : ℕ) (members : List ℕ) → IsLayout l → AreCounted types → slice_get types ty ≡ Some (Struct members)
    → ((p : ℕ) → p < ty → 0 < (extent_of l types p).size) → 0 < round_up (members_end (extent_of l types) 0 members) (greatest_align (extent_of l types) l.least_struct members)
struct_some l types ty members is formed at each =
    let f : IsFormed types ty (Struct members) = formed.each ty (Struct members) at in
    let e = extent_of l types in
    let first : ℕ = get_or members 0 0 in
    let at_0 : slice_get members 0 ≡ Some first = slice_get-get_or members 0 0 f.occupied in
    let some : 0 < (e first).size = each first (f.earlier 0 0 f.occupied) in
    let inside : get_or (member_places e 0 members) 0 0 + (e first).size ≤ members_end e 0 members = members_inside e 0 members 0 first (powers l types ty members is formed at) at_0 in
    let align : (e ty).align ≡ greatest_align e l.least_struct members = ap (λ (x : Extent). x.align) (extent_is l types ty (Struct members) f.earlier at) in
    let power : IsAlignment (greatest_align e l.least_struct members) = subst IsAlignment align (bounded l types ty is formed (slice_get_within types ty (Struct members) at)).power in
    omega (arith, some, inside, round_ge (members_end e 0 members) (greatest_align e l.least_struct members) power)

size_some_type : (l : Layout) (types : List Ty) (n : ℕ) (ty : Ty) → IsLayout l → AreCounted types → slice_get types n ≡ Some ty → ((p : ℕ) → p < n → 0 < (extent_of l types p).size)
    → 0 < (type_extent l (extent_of l types) ty).size
size_some_type l types n (Whole kind) is formed at each = size_some_kind l kind is
size_some_type l types n (Pointer to) is formed at each = size_some_is l.pointer is.pointer
size_some_type l types n (Array of count) is formed at each =
    let f : IsFormed types n (Array of count) = formed.each n (Array of count) at in
    product_some count (extent_of l types of).size f.occupied (each of (f.earlier 0 0 (omega arith)))
size_some_type l types n (Struct members) is formed at each = struct_some l types n members is formed at each

size_some_below : (l : Layout) (types : List Ty) → IsLayout l → AreCounted types → (bound n : ℕ) → n < bound → n < length types → 0 < (extent_of l types n).size
size_some_below l types is formed zero n lt within = absurd (omega (arith, lt))
size_some_below l types is formed (suc bound) n lt within =
    let ty : Ty = get_or types n (Pointer 0) in
    let at : slice_get types n ≡ Some ty = slice_get-get_or types n (Pointer 0) within in
    subst (λ (e : Extent). 0 < e.size) (sym (extent_is l types n ty (formed.each n ty at).earlier at))
    (size_some_type l types n ty is formed at (λ p h. size_some_below l types is formed bound p (omega (arith, h, lt)) (omega (arith, h, within))))

-- each type has a byte
pub size_some : (l : Layout) (types : List Ty) (n : ℕ) → IsLayout l → AreCounted types → n < length types → 0 < (extent_of l types n).size
size_some l types n is formed within = size_some_below l types is formed (suc n) n (omega arith) within

less_option : (l : Layout) (types : List Ty) (n ty leaf : ℕ) (o : Option Part) → IsLayout l → AreCounted types → ty < length types → part_at types ty leaf ≡ o
    → ((part : Part) → part_at types ty leaf ≡ Some part → place_within n l types part.ty (leaf - part.first) < (extent_of l types part.ty).size)
    → option_map_or (λ part. part_place (extent_of l types) (slice_get types ty) part.index + place_within n l types part.ty (leaf - part.first)) o 0 < (extent_of l types ty).size
less_option l types n ty leaf None is formed known at e = size_some l types ty is formed known
less_option l types n ty leaf (Some part) is formed known at e = omega (arith, e part at, part_inside l types ty leaf part is formed at)

-- a leaf begins inside its type
pub less : (l : Layout) (types : List Ty) (n ty leaf : ℕ) → IsLayout l → AreCounted types → ty < length types → place_within n l types ty leaf < (extent_of l types ty).size
less l types zero ty leaf is formed known = size_some l types ty is formed known
less l types (suc n) ty leaf is formed known =
    less_option l types n ty leaf (part_at types ty leaf) is formed known refl
    (λ part at. let d : Lies l types ty leaf (slice_get types ty) part = lies l types ty leaf part is formed at in
    less l types n part.ty (leaf - part.first) is formed (omega (arith, d.holds.earlier, known)))

-- two leaves are held by one part, or by parts that stand apart
record OnePart (a b : Part) : Type 0 where
  pub ty : a.ty ≡ b.ty
  pub first : a.first ≡ b.first
  pub index : a.index ≡ b.index

-- the last element of those before a leaf is no later than that of a later leaf
pub array_order : (i j s a b : ℕ) → i * s ≤ a → a < b → b < j * s + s → j < i → ⊥
array_order i j s a b low lt high back = omega (arith, times_apart j i s back, low, lt, high)

apart_array : (l : Layout) (types : List Ty) (of n a b : ℕ) (pa pb : Part) → ElementIs of (leaves_of types of) n a pa → ElementIs of (leaves_of types of) n b pb → a < b
    → OnePart pa pb ⊎ (pa.index * (extent_of l types of).size + (extent_of l types pa.ty).size ≤ pb.index * (extent_of l types of).size)
apart_array l types of n a b pa pb x y lt =
    let s = leaves_of types of in
    let low : pa.index * s ≤ a = omega (arith, x.begins, x.below) in
    let high : b < pb.index * s + s = omega (arith, y.begins, y.inside) in
    elim (nat_lt pa.index pb.index) as (λ t. nat_lt pa.index pb.index ≡ t → OnePart pa pb ⊎ (pa.index * (extent_of l types of).size + (extent_of l types pa.ty).size ≤ pb.index * (extent_of l types of).size)) [
      | true ↦ λ e.
          let own : (extent_of l types pa.ty).size ≡ (extent_of l types of).size = ap (λ t. (extent_of l types t).size) x.ty in
          inr (omega (arith, own, times_apart pa.index pb.index (extent_of l types of).size (ltb-true pa.index pb.index e)))
      | false ↦ λ e.
          let le : pb.index ≤ pa.index = ltb-false pa.index pb.index e in
          let back : pb.index < pa.index → ⊥ = array_order pa.index pb.index s a b low lt high in
          let same : pa.index ≡ pb.index = omega (arith, le, back) in
          let first : pa.first ≡ pb.first = x.begins ∙ ap (λ i. i * s) same ∙ sym y.begins in
          inl (record { ty = x.ty ∙ sym y.ty; first = first; index = same })
    ] refl

struct_order : (f : ℕ → ℕ) (ms : List ℕ) (i j m a b first : ℕ) → i < length ms → slice_get ms j ≡ Some m → first ≡ leaves_together f (take i ms) → first ≤ a → a < b
    → b < leaves_together f (take j ms) + f m → j < i → ⊥
struct_order f ms i j m a b first within at is low lt high back = omega (arith, together_apart f ms j i m back within at, is, low, lt, high)

apart_struct : (l : Layout) (types : List Ty) (ty : ℕ) (members : List ℕ) (a b : ℕ) (pa pb : Part) → IsLayout l → AreCounted types → slice_get types ty ≡ Some (Struct members)
    → MemberIs (leaves_of types) members 0 0 a pa → MemberIs (leaves_of types) members 0 0 b pb → a < b
    → OnePart pa pb ⊎ (get_or (member_places (extent_of l types) 0 members) pa.index 0 + (extent_of l types pa.ty).size ≤ get_or (member_places (extent_of l types) 0 members) pb.index 0)
apart_struct l types ty members a b pa pb is formed at x y lt =
    let e = extent_of l types in
    let f = leaves_of types in
    let ia : pa.index ≡ x.i = omega (arith, x.is) in
    let ib : pb.index ≡ y.i = omega (arith, y.is) in
    let wa : x.i < length members = slice_get_within members x.i pa.ty x.at in
    let wb : y.i < length members = slice_get_within members y.i pb.ty y.at in
    elim (nat_lt x.i y.i) as (λ t. nat_lt x.i y.i ≡ t → OnePart pa pb ⊎ (get_or (member_places e 0 members) pa.index 0 + (e pa.ty).size ≤ get_or (member_places e 0 members) pb.index 0)) [
      | true ↦ λ h.
          let apart : get_or (member_places e 0 members) x.i 0 + (e pa.ty).size ≤ get_or (member_places e 0 members) y.i 0 =
          members_apart e 0 members x.i y.i pa.ty (powers l types ty members is formed at) (ltb-true x.i y.i h) wb x.at in
          let ga : get_or (member_places e 0 members) pa.index 0 ≡ get_or (member_places e 0 members) x.i 0 = ap (λ i. get_or (member_places e 0 members) i 0) ia in
          let gb : get_or (member_places e 0 members) pb.index 0 ≡ get_or (member_places e 0 members) y.i 0 = ap (λ i. get_or (member_places e 0 members) i 0) ib in
          inr (omega (arith, apart, ga, gb))
      | false ↦ λ h.
          let le : y.i ≤ x.i = ltb-false x.i y.i h in
          let high : b < leaves_together f (take y.i members) + f pb.ty = omega (arith, y.begins, y.inside) in
          let back : y.i < x.i → ⊥ = struct_order f members x.i y.i pb.ty a b pa.first wa y.at (omega (arith, x.begins)) x.below lt high in
          let same : x.i ≡ y.i = omega (arith, le, back) in
          let first : leaves_together f (take x.i members) ≡ leaves_together f (take y.i members) = ap (λ i. leaves_together f (take i members)) same in
          let ty_same : Some pa.ty ≡ Some pb.ty = sym x.at ∙ ap (slice_get members) same ∙ y.at in
          let ty_is : pa.ty ≡ pb.ty = cc in
          inl (record { ty = ty_is; first = omega (arith, x.begins, y.begins, first); index = omega (arith, ia, ib, same) })
    ] refl

apart_option : (l : Layout) (types : List Ty) (ty a b : ℕ) (o : Option Ty) (pa pb : Part) → IsLayout l → AreCounted types → slice_get types ty ≡ o → part_of types o a ≡ Some pa → part_of types o b ≡ Some pb → a < b
    → OnePart pa pb ⊎ (part_place (extent_of l types) o pa.index + (extent_of l types pa.ty).size ≤ part_place (extent_of l types) o pb.index)
apart_option l types ty a b None pa pb is formed at h k lt = cc
apart_option l types ty a b (Some (Whole kind)) pa pb is formed at h k lt = cc
apart_option l types ty a b (Some (Pointer to)) pa pb is formed at h k lt = cc
apart_option l types ty a b (Some (Array of n)) pa pb is formed at h k lt =
    let earlier : of < ty = (formed.each ty (Array of n) at).earlier 0 0 (omega arith) in
    let within : of < length types = omega (arith, earlier, slice_get_within types ty (Array of n) at) in
    let some : 0 < leaves_of types of = formed.some of within in
    apart_array l types of n a b pa pb (element_is of (leaves_of types of) n a pa some h) (element_is of (leaves_of types of) n b pb some k) lt
apart_option l types ty a b (Some (Struct members)) pa pb is formed at h k lt =
    apart_struct l types ty members a b pa pb is formed at (member_is (leaves_of types) members 0 0 a pa (omega arith) h) (member_is (leaves_of types) members 0 0 b pb (omega arith) k) lt

-- each leaf of a struct is held by a member, unless it stands before them
pub member_total : (f : ℕ → ℕ) (ms : List ℕ) (index first place : ℕ) → first ≤ place → place < first + leaves_together f ms → (part : Part) × (member_at f ms index first place ≡ Some part)
member_total f [] index first place le lt = absurd (omega (arith, le, lt))
member_total f (m ∷ ms) index first place le lt =
    elim (nat_lt place (first + f m)) as (λ b. nat_lt place (first + f m) ≡ b
    → (part : Part) × (cond b (Some (record { ty = m; index = index; first = first; row = record { first = first; len = 1 } })) (member_at f ms (index + 1) (first + f m) place) ≡ Some part)) [
      | true ↦ λ e. (record { ty = m; index = index; first = first; row = record { first = first; len = 1 } }, refl)
      | false ↦ λ e. member_total f ms (index + 1) (first + f m) place (ltb-false place (first + f m) e) (omega (arith, lt))
    ] refl

element_total : (of s n place : ℕ) → 0 < s → place < n * s → (part : Part) × (element_at of s n place ≡ Some part)
element_total of s n place some lt =
    let h : place / s < n = (div-lt_iff_lt-mul some).1 lt in
    (record { ty = of; index = place / s; first = place / s * s; row = record { first = 0; len = n } }, rw (lt-ltb (place / s) n h) refl)

total_type : (types : List Ty) (ty leaf : ℕ) (t : Ty) → AreCounted types → slice_get types ty ≡ Some t → 1 < leaf_count (leaves_of types) t → leaf < leaf_count (leaves_of types) t
    → (part : Part) × (part_of types (Some t) leaf ≡ Some part)
total_type types ty leaf (Whole kind) formed at many lt = absurd (omega (arith, many))
total_type types ty leaf (Pointer to) formed at many lt = absurd (omega (arith, many))
total_type types ty leaf (Array of n) formed at many lt =
    let earlier : of < ty = (formed.each ty (Array of n) at).earlier 0 0 (omega arith) in
    element_total of (leaves_of types of) n leaf (formed.some of (omega (arith, earlier, slice_get_within types ty (Array of n) at))) lt
total_type types ty leaf (Struct members) formed at many lt = member_total (leaves_of types) members 0 0 leaf (omega arith) (omega (arith, lt))

-- each leaf of a type with several is held by a part
total : (types : List Ty) (ty leaf : ℕ) → AreCounted types → ty < length types → 1 < leaves_of types ty → leaf < leaves_of types ty → (part : Part) × (part_at types ty leaf ≡ Some part)
total types ty leaf formed known many lt =
    let t : Ty = get_or types ty (Pointer 0) in
    let at : slice_get types ty ≡ Some t = slice_get-get_or types ty (Pointer 0) known in
    let e : leaves_of types ty ≡ leaf_count (leaves_of types) t = formed.together ty t at in
    let p : (part : Part) × (part_of types (Some t) leaf ≡ Some part) = total_type types ty leaf t formed at (omega (arith, e, many)) (omega (arith, e, lt)) in
    (p.0, ap (λ o. part_of types o leaf) at ∙ p.1)

-- so deep, places rise inside a type
abbrev Rises : Layout → List Ty → ℕ → Type 0
Rises l types n = (ty a b : ℕ) → ty < length types → ty < n → a < b → b < leaves_of types ty → place_within n l types ty a < place_within n l types ty b

within_part : (l : Layout) (types : List Ty) (n ty leaf : ℕ) (part : Part) → part_at types ty leaf ≡ Some part
    → place_within (suc n) l types ty leaf ≡ part_place (extent_of l types) (slice_get types ty) part.index + place_within n l types part.ty (leaf - part.first)
within_part l types n ty leaf part h = ap (λ o. option_map_or (λ part. part_place (extent_of l types) (slice_get types ty) part.index + place_within n l types part.ty (leaf - part.first)) o 0) h

rise_one : (l : Layout) (types : List Ty) (n ty a b : ℕ) (pa pb : Part) → Rises l types n → Lies l types ty a (slice_get types ty) pa → Lies l types ty b (slice_get types ty) pb → ty < length types → ty < suc n → a < b
    → OnePart pa pb
    → part_place (extent_of l types) (slice_get types ty) pa.index + place_within n l types pa.ty (a - pa.first)
    < part_place (extent_of l types) (slice_get types ty) pb.index + place_within n l types pb.ty (b - pb.first)
rise_one l types n ty a b pa pb rises x y known deep lt one =
    let inside : b < pb.first + leaves_of types pa.ty = subst (λ t. b < pb.first + leaves_of types t) (sym one.ty) y.holds.inside in
    let up : place_within n l types pa.ty (a - pa.first) < place_within n l types pa.ty (b - pa.first) =
    rises pa.ty (a - pa.first) (b - pa.first) (omega (arith, x.holds.earlier, known)) (omega (arith, x.holds.earlier, deep))
    (omega (arith, lt, x.holds.below)) (omega (arith, inside, one.first, lt, x.holds.below)) in
    let p : part_place (extent_of l types) (slice_get types ty) pa.index ≡ part_place (extent_of l types) (slice_get types ty) pb.index = ap (part_place (extent_of l types) (slice_get types ty)) one.index in
    let q : place_within n l types pa.ty (b - pa.first) ≡ place_within n l types pb.ty (b - pb.first) =
    ap (λ t. place_within n l types t (b - pa.first)) one.ty ∙ ap (λ x. place_within n l types pb.ty (b - x)) one.first in
    omega (arith, up, p, q)

rise_two : (l : Layout) (types : List Ty) (n ty a b : ℕ) (pa pb : Part) → IsLayout l → AreCounted types → Lies l types ty a (slice_get types ty) pa → ty < length types
    → part_place (extent_of l types) (slice_get types ty) pa.index + (extent_of l types pa.ty).size ≤ part_place (extent_of l types) (slice_get types ty) pb.index
    → part_place (extent_of l types) (slice_get types ty) pa.index + place_within n l types pa.ty (a - pa.first)
    < part_place (extent_of l types) (slice_get types ty) pb.index + place_within n l types pb.ty (b - pb.first)
rise_two l types n ty a b pa pb is formed x known apart =
    omega (arith, apart, less l types n pa.ty (a - pa.first) is formed (omega (arith, x.holds.earlier, known)))

rise : (l : Layout) (types : List Ty) (n : ℕ) → IsLayout l → AreCounted types → Rises l types n
rise l types zero is formed ty a b known deep lt within = absurd (omega (arith, deep))
rise l types (suc n) is formed ty a b known deep lt within =
    let pa = total types ty a formed known (omega (arith, lt, within)) (omega (arith, lt, within)) in
    let pb = total types ty b formed known (omega (arith, lt, within)) within in
    let x : Lies l types ty a (slice_get types ty) pa.0 = lies l types ty a pa.0 is formed pa.1 in
    let y : Lies l types ty b (slice_get types ty) pb.0 = lies l types ty b pb.0 is formed pb.1 in
    let ea = within_part l types n ty a pa.0 pa.1 in
    let eb = within_part l types n ty b pb.0 pb.1 in
    let up : part_place (extent_of l types) (slice_get types ty) pa.0.index + place_within n l types pa.0.ty (a - pa.0.first)
    < part_place (extent_of l types) (slice_get types ty) pb.0.index + place_within n l types pb.0.ty (b - pb.0.first) =
    elim (apart_option l types ty a b (slice_get types ty) pa.0 pb.0 is formed refl pa.1 pb.1 lt) [
      | inl one ↦ rise_one l types n ty a b pa.0 pb.0 (rise l types n is formed) x y known deep lt one
      | inr two ↦ rise_two l types n ty a b pa.0 pb.0 is formed x known two
    ] in
    omega (arith, ea, eb, up)

-- the elements before two leaves
rows_rise : (q r s p t : ℕ) → (q ≡ r → p < t) → (q < r → p < s) → q ≤ r → q * s + p < r * s + t
rows_rise q r s p t same apart le =
    elim (nat_lt q r) as (λ b. nat_lt q r ≡ b → q * s + p < r * s + t) [
      | true ↦ λ e. omega (arith, times_apart q r s (ltb-true q r e), apart (ltb-true q r e))
      | false ↦ λ e. let one : q ≡ r = omega (arith, le, ltb-false q r e) in omega (arith, ap (λ x. x * s) one, same one)
    ] refl

-- places rise with leaves
pub places_rise_from : (l : Layout) (types : List Ty) (ty a b : ℕ) → IsLayout l → AreCounted types → ty < length types → a < b → place_of l types ty a < place_of l types ty b
places_rise_from l types ty a b is formed known lt =
    let n = leaves_of types ty in
    let some : 0 < n = formed.some ty known in
    let ea : a / n * n + a % n ≡ a = div-add-mod' a n in
    let eb : b / n * n + b % n ≡ b = div-add-mod' b n in
    let ra : a % n < n = omega (arith, some) in
    let rb : b % n < n = omega (arith, some) in
    let back : b / n < a / n → ⊥ = array_order (a / n) (b / n) n a b (omega (arith, ea)) lt (omega (arith, eb, rb)) in
    let le : a / n ≤ b / n = omega (arith, back) in
    rows_rise (a / n) (b / n) (extent_of l types ty).size (place_within (suc ty) l types ty (a % n)) (place_within (suc ty) l types ty (b % n))
    (λ e. let m : a / n * n ≡ b / n * n = ap (λ x. x * n) e in
    rise l types (suc ty) is formed ty (a % n) (b % n) known (omega arith) (omega (arith, ea, eb, m, lt)) rb)
    (λ _. less l types (suc ty) ty (a % n) is formed known) le
