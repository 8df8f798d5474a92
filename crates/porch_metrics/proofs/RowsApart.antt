-- A subobject ends at or before each leaf of its root that follows its last one.
use Rattle.std.proofs.Common.{◌≡◌, ℕ, suc, ◌+◌, ◌-◌, ◌*◌, ◌<◌, ◌≤◌, nat_lt, true, false, List, length, get_or, slice_get, Some, refl, arith, ap, sym, ◌∙◌, subst, take}
use Rattle.std.proofs.lemmas.Bool.{ltb-true, ltb-false}
use Rattle.std.proofs.lemmas.Option.{slice_get_within}
use Rattle.porch_types.specs.declared.shapes.Ty.{Ty}
use Rattle.porch_types.specs.declared.shapes.Ty.TheVariants.{Array, Struct}
use Rattle.porch_types.specs.declared.parts.Part.{Part}
use Rattle.porch_types.specs.Leaves.{leaves_of, leaves_together, IsFormed}
use Rattle.porch_types.specs.Rows.{IsRow, elements_of_root, elements_of_array, member_of_struct, IsSubobject}
use Rattle.porch_layout.specs.declared.layout.Layout.{Layout}
use Rattle.porch_layout.specs.Layouts.{IsAlignment, IsLayout}
use Rattle.porch_metrics.specs.Extents.{Extent, extent_of, round_up, greatest_align, member_places, members_end, type_extent}
use Rattle.porch_metrics.specs.Places.{part_place, place_of, place_within}
use Rattle.porch_metrics.specs.inside.Tables.{AreCounted}
use Rattle.porch_metrics.proofs.Bounds.{bounded}
use Rattle.porch_metrics.proofs.Extended.{extent_is}
use Rattle.porch_metrics.proofs.Descending.{MemberIs, place_down}
use Rattle.porch_metrics.proofs.Rising.{members_inside, members_apart, powers, round_ge, times_apart, together_apart, element_place, places_rise_from}
use Rattle.porch_metrics.proofs.RowPlaces.{Stands, row_stands, stands_elements, element_begins, element_leaf, member_begins, member_holds, array_place, place_inside}

-- a leaf that isn't before another stands at its place or after it
pub places_follow : (l : Layout) (types : List Ty) (ty a b : ℕ) → IsLayout l → AreCounted types → ty < length types → a ≤ b → place_of l types ty a ≤ place_of l types ty b
places_follow l types ty a b is formed known le =
    elim (nat_lt a b) as (λ t. nat_lt a b ≡ t → place_of l types ty a ≤ place_of l types ty b) [
      | true ↦ λ e. omega (arith, places_rise_from l types ty a b is formed known (ltb-true a b e))
      | false ↦ λ e.
          let same : a ≡ b = omega (arith, le, ltb-false a b e) in
          omega (arith, ap (place_of l types ty) same)
    ] refl

-- a member ends inside its struct
pub member_inside : (l : Layout) (types : List Ty) (ty i m : ℕ) (members : List ℕ) → IsLayout l → AreCounted types → slice_get types ty ≡ Some (Struct members) → slice_get members i ≡ Some m
    → get_or (member_places (extent_of l types) 0 members) i 0 + (extent_of l types m).size ≤ (extent_of l types ty).size
member_inside l types ty i m members is formed at at_i =
    let e = extent_of l types in
    let f : IsFormed types ty (Struct members) = formed.each ty (Struct members) at in
    let own : e ty ≡ type_extent l e (Struct members) = extent_is l types ty (Struct members) f.earlier at in
    let size : (e ty).size ≡ round_up (members_end e 0 members) (greatest_align e l.least_struct members) = ap (λ (x : Extent). x.size) own in
    let align : (e ty).align ≡ greatest_align e l.least_struct members = ap (λ (x : Extent). x.align) own in
    let power : IsAlignment (greatest_align e l.least_struct members) = subst IsAlignment align (bounded l types ty is formed (slice_get_within types ty (Struct members) at)).power in
    let inside = members_inside e 0 members i m (powers l types ty members is formed at) at_i in
    omega (arith, inside, size, round_ge (members_end e 0 members) (greatest_align e l.least_struct members) power)

-- a leaf after a member is one of a later member
later_member : (f : ℕ → ℕ) (members : List ℕ) (i m leaf : ℕ) (part : Part) → slice_get members i ≡ Some m → MemberIs f members 0 0 leaf part → leaves_together f (take i members) + f m ≤ leaf → i < part.index
later_member f members i m leaf part at h after =
    let there : i < length members = slice_get_within members i m at in
    let no_earlier : h.i < i → ⊥ = λ lt. omega (arith, together_apart f members h.i i part.ty lt there h.at, h.begins, h.inside, after) in
    let not_same : h.i ≡ i → ⊥ = λ e.
    let ty_same : Some part.ty ≡ Some m = sym h.at ∙ ap (slice_get members) e ∙ at in
    let ty_is : part.ty ≡ m = cc in
    let first : leaves_together f (take h.i members) ≡ leaves_together f (take i members) = ap (λ k. leaves_together f (take k members)) e in
    let own : f part.ty ≡ f m = ap f ty_is in
    omega (arith, h.begins, h.inside, first, own, after) in
    omega (arith, h.is, no_earlier, not_same)

-- a member ends at or before the leaves after it
member_ends : (l : Layout) (types : List Ty) (ty i m leaf : ℕ) (members : List ℕ) → IsLayout l → AreCounted types → slice_get types ty ≡ Some (Struct members) → slice_get members i ≡ Some m
    → leaves_together (leaves_of types) (take i members) + leaves_of types m ≤ leaf → leaf < leaves_of types ty
    → get_or (member_places (extent_of l types) 0 members) i 0 + (extent_of l types m).size ≤ place_of l types ty leaf
member_ends l types ty i m leaf members is formed at at_i after within =
    let e = extent_of l types in
    let p = member_holds l types ty leaf members formed at within in
    let h = p.2 in
    let later : i < p.0.index = later_member (leaves_of types) members i m leaf p.0 at_i h after in
    let there : h.i < length members = slice_get_within members h.i p.0.ty h.at in
    let apart : get_or (member_places e 0 members) i 0 + (e m).size ≤ get_or (member_places e 0 members) p.0.index 0 =
    members_apart e 0 members i p.0.index m (powers l types ty members is formed at) later (omega (arith, h.is, there)) at_i in
    let down : place_of l types ty leaf ≡ part_place e (Some (Struct members)) p.0.index + place_within (suc p.0.ty) l types p.0.ty (leaf - p.0.first) =
    place_inside l types ty leaf within
    ∙ place_down l types ty leaf p.0 is formed p.1
    ∙ ap (λ o. part_place e o p.0.index + place_within (suc p.0.ty) l types p.0.ty (leaf - p.0.first)) at in
    omega (arith, apart, down)

-- elements of a row end at or before the leaves after them
abbrev Ends : Layout → List Ty → ℕ → ℕ → ℕ → ℕ → Type 0
Ends l types root ty first len = (k b : ℕ) → k < len → first + (k + 1) * leaves_of types ty ≤ b
    → place_of l types root (first + k * leaves_of types ty) + (extent_of l types ty).size ≤ place_of l types root b

pub one_more : (k s : ℕ) → (k + 1) * s ≡ k * s + s
one_more k s = grind arith

ends_root : (l : Layout) (types : List Ty) (root count : ℕ) → IsLayout l → AreCounted types → root < length types → Ends l types root root 0 count
ends_root l types root count is formed known k b lt after =
    let n = leaves_of types root in
    let s = (extent_of l types root).size in
    let z : 0 + k * n ≡ k * n = omega arith in
    let here : place_of l types root (0 + k * n) ≡ k * s = ap (place_of l types root) z ∙ element_place l types root k is formed known in
    let next : place_of l types root ((k + 1) * n) ≡ (k + 1) * s = element_place l types root (k + 1) is formed known in
    omega (arith, here, next, one_more k s, places_follow l types root ((k + 1) * n) b is formed known (omega (arith, after)))

ends_elements : (l : Layout) (types : List Ty) (root count ty first len j of n : ℕ) → IsLayout l → AreCounted types → Stands l types root count ty first len → Ends l types root ty first len → j < len
    → slice_get types ty ≡ Some (Array of n) → Ends l types root of (first + j * leaves_of types ty) n
ends_elements l types root count ty first len j of n is formed s ends less at k b lt after =
    let e = extent_of l types in
    let begin = first + j * leaves_of types ty in
    let one = leaves_of types of in
    let inner : Stands l types root count of begin n = stands_elements l types root count ty first len j of n is formed s less at in
    let here : place_of l types root (begin + k * one) ≡ place_of l types root begin + k * (e of).size = element_begins l types root count of begin n k is formed inner lt in
    let begins : place_of l types root begin ≡ place_of l types root first + j * (e ty).size = element_begins l types root count ty first len j is formed s less in
    let size : (e ty).size ≡ n * (e of).size = ap (λ (x : Extent). x.size) (extent_is l types ty (Array of n) (formed.each ty (Array of n) at).earlier at) in
    elim (nat_lt b (begin + leaves_of types ty)) as (λ t. nat_lt b (begin + leaves_of types ty) ≡ t → place_of l types root (begin + k * one) + (e of).size ≤ place_of l types root b) [
      | true ↦ λ h.
          let low : begin ≤ b = omega (arith, after) in
          let m : ℕ = b - begin in
          let back : begin + m ≡ b = omega (arith, low) in
          let within : m < leaves_of types ty = omega (arith, ltb-true b (begin + leaves_of types ty) h, low) in
          let leaf : place_of l types root (begin + m) ≡ place_of l types root first + j * (e ty).size + place_of l types ty m = element_leaf l types root count ty first len j m formed s less within in
          let same : place_of l types ty m ≡ place_of l types of m = array_place l types ty of n m is formed at within in
          let next : place_of l types of ((k + 1) * one) ≡ (k + 1) * (e of).size = element_place l types of (k + 1) is formed inner.known in
          let follow : place_of l types of ((k + 1) * one) ≤ place_of l types of m = places_follow l types of ((k + 1) * one) m is formed inner.known (omega (arith, after, back)) in
          let there : place_of l types root (begin + m) ≡ place_of l types root b = ap (place_of l types root) back in
          omega (arith, here, begins, leaf, same, next, follow, there, one_more k (e of).size)
      | false ↦ λ h.
          let past : first + (j + 1) * leaves_of types ty ≤ b = omega (arith, one_more j (leaves_of types ty), ltb-false b (begin + leaves_of types ty) h) in
          omega (arith, here, size, ends j b less past, times_apart k n (e of).size lt)
    ] refl

ends_member : (l : Layout) (types : List Ty) (root count ty first len j i m : ℕ) (members : List ℕ) → IsLayout l → AreCounted types → Stands l types root count ty first len → Ends l types root ty first len → j < len
    → slice_get types ty ≡ Some (Struct members) → slice_get members i ≡ Some m
    → Ends l types root m (first + j * leaves_of types ty + leaves_together (leaves_of types) (take i members)) 1
ends_member l types root count ty first len j i m members is formed s ends less at at_i k b lt after =
    let e = extent_of l types in
    let f = leaves_of types in
    let begin = first + j * f ty in
    let t = leaves_together f (take i members) in
    let p = get_or (member_places e 0 members) i 0 in
    let only : k ≡ 0 = omega (arith, lt) in
    let none : k * f m ≡ 0 = ap (λ x. x * f m) only ∙ omega arith in
    let one : (k + 1) * f m ≡ f m = omega (arith, one_more k (f m), none) in
    let z : begin + t + k * f m ≡ begin + t = omega (arith, none) in
    let here : place_of l types root (begin + t + k * f m) ≡ place_of l types root first + j * (e ty).size + p =
    ap (place_of l types root) z ∙ member_begins l types root count ty first len j i m members is formed s less at at_i in
    let begins : place_of l types root begin ≡ place_of l types root first + j * (e ty).size = element_begins l types root count ty first len j is formed s less in
    elim (nat_lt b (begin + f ty)) as (λ x. nat_lt b (begin + f ty) ≡ x → place_of l types root (begin + t + k * f m) + (e m).size ≤ place_of l types root b) [
      | true ↦ λ h.
          let low : begin ≤ b = omega (arith, after) in
          let d : ℕ = b - begin in
          let back : begin + d ≡ b = omega (arith, low) in
          let within : d < f ty = omega (arith, ltb-true b (begin + f ty) h, low) in
          let leaf : place_of l types root (begin + d) ≡ place_of l types root first + j * (e ty).size + place_of l types ty d = element_leaf l types root count ty first len j d formed s less within in
          let apart : p + (e m).size ≤ place_of l types ty d = member_ends l types ty i m d members is formed at at_i (omega (arith, after, one, back)) within in
          let there : place_of l types root (begin + d) ≡ place_of l types root b = ap (place_of l types root) back in
          omega (arith, here, leaf, apart, there)
      | false ↦ λ h.
          let past : first + (j + 1) * f ty ≤ b = omega (arith, one_more j (f ty), ltb-false b (begin + f ty) h) in
          omega (arith, here, begins, ends j b less past, member_inside l types ty i m members is formed at at_i)
    ] refl

row_ends : (l : Layout) (types : List Ty) (root count ty first len : ℕ) → IsLayout l → AreCounted types → root < length types → IsRow types root count ty first len → Ends l types root ty first len
row_ends l types root count ty first len is formed known elements_of_root = ends_root l types root count is formed known
row_ends l types root count ty first len is formed known (elements_of_array {ty = whole} {first = begin} {len = many} {k = j} {n = n} row lt at) =
    ends_elements l types root count whole begin many j ty n is formed (row_stands l types root count whole begin many is formed known row)
    (row_ends l types root count whole begin many is formed known row) lt at
row_ends l types root count ty first len is formed known (member_of_struct {ty = whole} {first = begin} {len = many} {k = j} {members = members} i row lt at at_i) =
    ends_member l types root count whole begin many j i ty members is formed (row_stands l types root count whole begin many is formed known row)
    (row_ends l types root count whole begin many is formed known row) lt at at_i

pub subobjects_apart : (l : Layout) (types : List Ty) (root count place ty leaf : ℕ) → IsLayout l → AreCounted types → root < length types → IsSubobject types root count place ty → place + leaves_of types ty ≤ leaf
    → place_of l types root place + (extent_of l types ty).size ≤ place_of l types root leaf
subobjects_apart l types root count place ty leaf is formed known sub after =
    let row = sub.0 in
    let h = sub.1 in
    let k = h.element.0 in
    let at : place ≡ row.first + k * leaves_of types ty = h.element.2 in
    let ends = row_ends l types root count ty row.first row.len is formed known h.is_row k leaf h.element.1 (omega (arith, at, after, one_more k (leaves_of types ty))) in
    omega (arith, ap (place_of l types root) at, ends)
