-- What a search finds is the row of the subobject there, and it finds each subobject.
use Rattle.std.proofs.Common.{◌≡◌, ℕ, zero, suc, ◌+◌, ◌-◌, ◌*◌, ◌/◌, ◌<◌, ◌≤◌, Bool, true, false, cond, nat_lt, ◌==◌, ◌&&◌, List, [], ◌∷◌, length, get_or, slice_get, Option, Some, None, is_some, refl, arith, ap, sym, ◌∙◌, subst, IfSome, IfNone, IsTrue, take}
use Rattle.std.specs.Option.{option_map}
use Rattle.std.proofs.lemmas.Bool.Decides.{nat_tests}
use Rattle.std.proofs.Math.Nat.{div-eq_of_lt-le, mul-le-mul_right, div-mul-le_self}
use Rattle.std.proofs.lemmas.Option.{slice_get_within, get_or_from_slice_get}
use Rattle.porch_types.specs.declared.shapes.Ty.{Ty}
use Rattle.porch_types.specs.declared.shapes.Ty.TheVariants.{Whole, Pointer, Array, Struct}
use Rattle.porch_types.specs.declared.parts.Part.{Part}
use Rattle.porch_types.specs.declared.parts.Row.{Row}
use Rattle.porch_types.specs.Leaves.{AreFormed, IsFormed, leaves_of, leaves_together}
use Rattle.porch_types.specs.Rows.{IsRow, elements_of_root, elements_of_array, member_of_struct, IsRowAt, IsSubobject, part_at, part_of, element_at, member_at, row_within, row_at, moved_row}
use Rattle.porch_types.proofs.Counts.{leaves_is, leaves_some}
use Rattle.porch_types.proofs.Depth.{depth_of, begins, ends, goes_on}

-- this part is an element of a row of the root, where the leaves before the whole are `base`
pub record Stands (types : List Ty) (root count base : ℕ) (part : Part) : Type 0 where
  pub row : IsRow types root count part.ty (base + part.row.first) part.row.len
  pub k : ℕ
  pub within : k < part.row.len
  pub first : part.first ≡ part.row.first + k * leaves_of types part.ty

-- which member holds a leaf
record MemberAt (f : ℕ → ℕ) (ms : List ℕ) (first place : ℕ) (part : Part) : Type 0 where
  pub i : ℕ
  pub at : slice_get ms i ≡ Some part.ty
  pub begins : part.first ≡ first + leaves_together f (take i ms)
  pub row : part.row ≡ record { first = part.first; len = 1 }
  pub below : part.first ≤ place

here : (f : ℕ → ℕ) (m : ℕ) (ms : List ℕ) (index first place : ℕ) (part : Part) → first ≤ place
    → Some (record { ty = m; index = index; first = first; row = record { first = first; len = 1 } }) ≡ Some part → MemberAt f (m ∷ ms) first place part
here f m ms index first place part le h =
    let this : Part = record { ty = m; index = index; first = first; row = record { first = first; len = 1 } } in
    let e : this ≡ part = cc in
    let at : MemberAt f (m ∷ ms) first place this = record { i = 0; at = refl; begins = omega arith; row = refl; below = le } in
    subst (MemberAt f (m ∷ ms) first place) e at

there : (f : ℕ → ℕ) (m : ℕ) (ms : List ℕ) (index first place : ℕ) (part : Part) → first + f m ≤ place → MemberAt f ms (first + f m) place part → MemberAt f (m ∷ ms) first place part
there f m ms index first place part le h = record { i = suc h.i; at = h.at; begins = omega (arith, h.begins); row = h.row; below = h.below }

member_sound : (f : ℕ → ℕ) (ms : List ℕ) (index first place : ℕ) (part : Part) → first ≤ place → member_at f ms index first place ≡ Some part → MemberAt f ms first place part
member_sound f [] index first place part le h = cc
member_sound f (m ∷ ms) index first place part le h =
    elim (nat_lt place (first + f m)) as (λ b. nat_lt place (first + f m) ≡ b
    → cond b (Some (record { ty = m; index = index; first = first; row = record { first = first; len = 1 } })) (member_at f ms (index + 1) (first + f m) place) ≡ Some part
    → MemberAt f (m ∷ ms) first place part) [
      | true ↦ λ e s. here f m ms index first place part le s
      | false ↦ λ e s. there f m ms index first place part (grind (arith, nat_tests)) (member_sound f ms (index + 1) (first + f m) place part (grind (arith, nat_tests)) s)
    ] refl h

-- a part of an element of a row stands in a row too
inner_array : (types : List Ty) (root count base ty first len k of n place : ℕ) (part : Part) → IsRow types root count ty first len → k < len → base ≡ first + k * leaves_of types ty
    → slice_get types ty ≡ Some (Array of n) → element_at of (leaves_of types of) n place ≡ Some part → Stands types root count base part × (part.first ≤ place)
inner_array types root count base ty first len k of n place part row lt is at h =
    let l = leaves_of types of in
    elim (nat_lt (place / l) n) as (λ b. nat_lt (place / l) n ≡ b
    → cond b (Some (record { ty = of; index = place / l; first = place / l * l; row = record { first = 0; len = n } })) None ≡ Some part
    → Stands types root count base part × (part.first ≤ place)) [
      | true ↦ λ e s.
          let this : Part = record { ty = of; index = place / l; first = place / l * l; row = record { first = 0; len = n } } in
          let same : this ≡ part = cc in
          let b : first + k * leaves_of types ty ≡ base + 0 = omega (arith, is) in
          let stands : Stands types root count base this = record {
            row = subst (λ x. IsRow types root count of x n) b (elements_of_array row lt at);
            k = place / l;
            within = grind (arith, nat_tests);
            first = omega arith;
          } in
          subst (λ (p : Part). Stands types root count base p × (p.first ≤ place)) same (stands, div-mul-le_self place l)
      | false ↦ λ e s. cc
    ] refl h

inner_struct : (types : List Ty) (root count base ty first len k place : ℕ) (members : List ℕ) (part : Part) → IsRow types root count ty first len → k < len → base ≡ first + k * leaves_of types ty
    → slice_get types ty ≡ Some (Struct members) → MemberAt (leaves_of types) members 0 place part → Stands types root count base part × (part.first ≤ place)
inner_struct types root count base ty first len k place members part row lt is at m =
    let b : first + k * leaves_of types ty + leaves_together (leaves_of types) (take m.i members) ≡ base + part.first = omega (arith, is, m.begins) in
    let stands : IsRow types root count part.ty (base + part.first) 1 = subst (λ x. IsRow types root count part.ty x 1) b (member_of_struct m.i row lt at m.at) in (
      record {
        row = subst (λ (r : Row). IsRow types root count part.ty (base + r.first) r.len) (sym m.row) stands;
        k = 0;
        within = subst (λ (r : Row). 0 < r.len) (sym m.row) (omega arith);
        first = subst (λ (r : Row). part.first ≡ r.first + 0 * leaves_of types part.ty) (sym m.row) (omega arith);
      },
      m.below,
    )

pub inner : (types : List Ty) (root count base ty first len k place : ℕ) (o : Option Ty) (part : Part) → IsRow types root count ty first len → k < len → base ≡ first + k * leaves_of types ty
    → slice_get types ty ≡ o → part_of types o place ≡ Some part → Stands types root count base part × (part.first ≤ place)
inner types root count base ty first len k place None part row lt is at h = cc
inner types root count base ty first len k place (Some (Whole kind)) part row lt is at h = cc
inner types root count base ty first len k place (Some (Pointer to)) part row lt is at h = cc
inner types root count base ty first len k place (Some (Array of n)) part row lt is at h = inner_array types root count base ty first len k of n place part row lt is at h
inner types root count base ty first len k place (Some (Struct members)) part row lt is at h =
    inner_struct types root count base ty first len k place members part row lt is at (member_sound (leaves_of types) members 0 0 place part (omega arith) h)

stands_at : (types : List Ty) (root count base place u : ℕ) (part : Part) (row : Row) → Stands types root count base part → part.ty ≡ u → part.first ≡ place → part.row ≡ row
    → IsRowAt types root count (base + place) u (moved_row base row)
stands_at types root count base place u part row s t f r =
    let at : IsRowAt types root count (base + part.first) part.ty (moved_row base part.row) = record { is_row = s.row; element = (s.k, s.within, omega (arith, s.first)) } in
    subst (λ (x : Row). IsRowAt types root count (base + place) u (moved_row base x)) r
    (subst (λ x. IsRowAt types root count (base + place) x (moved_row base part.row)) t
    (subst (λ x. IsRowAt types root count (base + x) part.ty (moved_row base part.row)) f at))

moved_at : (types : List Ty) (root count base first place u : ℕ) (row : Row) → first ≤ place
    → IsRowAt types root count (base + first + (place - first)) u (moved_row (base + first) row) → IsRowAt types root count (base + place) u (moved_row base (moved_row first row))
moved_at types root count base first place u row le h =
    let p : base + first + (place - first) ≡ base + place = omega (arith, le) in
    let f : base + first + row.first ≡ base + (first + row.first) = omega arith in
    subst (λ x. IsRowAt types root count (base + place) u (record { first = x; len = row.len })) f
    (subst (λ x. IsRowAt types root count x u (moved_row (base + first) row)) p h)

-- so deep a search finds rows of subobjects
abbrev Finds : List Ty → ℕ → ℕ → ℕ → ℕ → Type 0
Finds types root count u n = (base place : ℕ) (part : Part) (row : Row) → Stands types root count base part → part.first ≤ place
    → row_within n types (Some part) place u ≡ Some row → IsRowAt types root count (base + place) u (moved_row base row)

deeper_row : (types : List Ty) (root count n base place u : ℕ) (part next : Part) (row : Row) → Finds types root count u n → Stands types root count (base + part.first) next
    → part.first ≤ place → next.first ≤ place - part.first → (r : Option Row) → row_within n types (Some next) (place - part.first) u ≡ r
    → option_map (moved_row part.first) r ≡ Some row → IsRowAt types root count (base + place) u (moved_row base row)
deeper_row types root count n base place u part next row finds s le below None is h = cc
deeper_row types root count n base place u part next row finds s le below (Some found) is h =
    let e : moved_row part.first found ≡ row = cc in
    subst (λ (x : Row). IsRowAt types root count (base + place) u (moved_row base x)) e
    (moved_at types root count base part.first place u found le (finds (base + part.first) (place - part.first) next found s below is))

none_found : (types : List Ty) (n place u : ℕ) → row_within n types None place u ≡ None
none_found types zero place u = refl
none_found types (suc n) place u = refl

deeper : (types : List Ty) (root count n base place u : ℕ) (part : Part) (row : Row) → Finds types root count u n → Stands types root count base part
    → part.first ≤ place → (o : Option Part) → part_at types part.ty (place - part.first) ≡ o
    → option_map (moved_row part.first) (row_within n types o (place - part.first) u) ≡ Some row → IsRowAt types root count (base + place) u (moved_row base row)
deeper types root count n base place u part row finds s le None at h =
    let e : row_within n types None (place - part.first) u ≡ None = none_found types n (place - part.first) u in
    let m : option_map (moved_row part.first) None ≡ Some row = subst (λ o. option_map (moved_row part.first) o ≡ Some row) e h in
    cc
deeper types root count n base place u part row finds s le (Some next) at h =
    let i : Stands types root count (base + part.first) next × (next.first ≤ place - part.first) =
    inner types root count (base + part.first) part.ty (base + part.row.first) part.row.len s.k (place - part.first) (slice_get types part.ty) next s.row s.within
    (omega (arith, s.first)) refl at in
    deeper_row types root count n base place u part next row finds i.0 le i.1 (row_within n types (Some next) (place - part.first) u) refl h

both : (a b : Bool) → (a && b) ≡ true → (a ≡ true) × (b ≡ true)
both true true h = (refl, refl)
both true false h = cc
both false b h = cc

-- what a search finds is the row of the subobject there
sound : (types : List Ty) (root count u n : ℕ) → Finds types root count u n
sound types root count u zero base place part row s le h = cc
sound types root count u (suc n) base place part row s le h =
    elim (part.ty == u && part.first == place) as (λ b. (part.ty == u && part.first == place) ≡ b
    → cond b (Some part.row) (option_map (moved_row part.first) (row_within n types (part_at types part.ty (place - part.first)) (place - part.first) u)) ≡ Some row
    → IsRowAt types root count (base + place) u (moved_row base row)) [
      | true ↦ λ e f.
          let t : ((part.ty == u) ≡ true) × ((part.first == place) ≡ true) = both (part.ty == u) (part.first == place) e in
          let r : part.row ≡ row = cc in
          stands_at types root count base place u part row s (grind (arith, nat_tests, t.0)) (grind (arith, nat_tests, t.1)) r
      | false ↦ λ e f. deeper types root count n base place u part row (sound types root count u n) s le (part_at types part.ty (place - part.first)) refl f
    ] refl h

from_root : (types : List Ty) (root count place u : ℕ) (row : Row) (o : Option Part) → element_at root (leaves_of types root) count place ≡ o
    → row_within (suc root) types o place u ≡ Some row → IsRowAt types root count place u row
from_root types root count place u row None is h = cc
from_root types root count place u row (Some part) is h =
    let l = leaves_of types root in
    let stands : Stands types root count 0 part × (part.first ≤ place) =
    elim (nat_lt (place / l) count) as (λ b. nat_lt (place / l) count ≡ b
    → cond b (Some (record { ty = root; index = place / l; first = place / l * l; row = record { first = 0; len = count } })) None ≡ Some part
    → Stands types root count 0 part × (part.first ≤ place)) [
      | true ↦ λ e s.
          let this : Part = record { ty = root; index = place / l; first = place / l * l; row = record { first = 0; len = count } } in
          let same : this ≡ part = cc in
          let at : Stands types root count 0 this = record { row = elements_of_root; k = place / l; within = grind (arith, nat_tests); first = omega arith } in
          subst (λ (p : Part). Stands types root count 0 p × (p.first ≤ place)) same (at, div-mul-le_self place l)
      | false ↦ λ e s. cc
    ] refl is in
    let at : IsRowAt types root count (0 + place) u (moved_row 0 row) = sound types root count u (suc root) 0 place part row stands.0 stands.1 h in
    let p : 0 + place ≡ place = omega arith in
    let f : 0 + row.first ≡ row.first = omega arith in
    subst (λ x. IsRowAt types root count place u (record { first = x; len = row.len })) f
    (subst (λ x. IsRowAt types root count x u (moved_row 0 row)) p at)

pub row_found : (types : List Ty) (root count place u : ℕ) (row : Row) → row_at types root count place u ≡ Some row → IsRowAt types root count place u row
row_found types root count place u row h = from_root types root count place u row (element_at root (leaves_of types root) count place) refl h

-- a search comes by each element of each row: there `before` leaves stand before what holds the row
record Arrives (types : List Ty) (root count ty first len : ℕ) : Type 0 where
  pub before : ℕ
  pub rest : ℕ
  pub is : first ≡ before + rest
  pub comes : (k place u : ℕ) → k < len → rest + k * leaves_of types ty ≤ place → place < rest + k * leaves_of types ty + leaves_of types ty → u ≤ ty
      → (index : ℕ) × (row_at types root count (before + place) u
      ≡ option_map (moved_row before) (row_within (suc ty) types (Some (record { ty = ty; index = index; first = rest + k * leaves_of types ty; row = record { first = rest; len = len } })) place u))

-- the element that holds a leaf
pub element_is : (of l n k place : ℕ) → k < n → k * l ≤ place → place < k * l + l
    → element_at of l n place ≡ Some (record { ty = of; index = k; first = k * l; row = record { first = 0; len = n } })
element_is of l n k place lt low high =
    let m : (k + 1) * l ≡ k * l + l = grind arith in
    let d : place / l ≡ k = div-eq_of_lt-le {k = k} l {m = place} low (omega (arith, m, high)) in
    let t : nat_lt k n ≡ true = grind (arith, nat_tests) in
    rw (d, t) refl

-- the member that holds a leaf
pub member_is : (f : ℕ → ℕ) (ms : List ℕ) (i m index first place : ℕ) → slice_get ms i ≡ Some m → first + leaves_together f (take i ms) ≤ place → place < first + leaves_together f (take i ms) + f m
    → (j : ℕ) × (member_at f ms index first place ≡ Some (record { ty = m; index = j; first = first + leaves_together f (take i ms); row = record { first = first + leaves_together f (take i ms); len = 1 } }))
member_is f [] i m index first place at low high = cc
member_is f (o ∷ ms) zero m index first place at low high =
    let e : o ≡ m = cc in
    let z : first + 0 ≡ first = omega arith in
    let t : nat_lt place (first + f m) ≡ true = grind (arith, nat_tests, high) in (
      index,
      subst (λ x. member_at f (x ∷ ms) index first place ≡ Some (record { ty = m; index = index; first = first + 0; row = record { first = first + 0; len = 1 } })) (sym e)
          (rw (t, z) refl),
    )
member_is f (o ∷ ms) (suc i) m index first place at low high =
    let s : first + (f o + leaves_together f (take i ms)) ≡ first + f o + leaves_together f (take i ms) = omega arith in
    let t : nat_lt place (first + f o) ≡ false = grind (arith, nat_tests, low) in
    let r : (j : ℕ) × (member_at f ms (index + 1) (first + f o) place ≡ Some (record { ty = m; index = j; first = first + f o + leaves_together f (take i ms); row = record { first = first + f o + leaves_together f (take i ms); len = 1 } }))
    = member_is f ms i m (index + 1) (first + f o) place at (omega (arith, low)) (omega (arith, high)) in
    (r.0, rw (t, s) r.1)

step_down : (types : List Ty) (ty index first before p u : ℕ) (row : Row) (next : Option Part) → AreFormed types → u < ty → next ≡ part_at types ty p
    → option_map (moved_row before) (row_within (suc ty) types (Some (record { ty = ty; index = index; first = first; row = row })) (first + p) u)
    ≡ option_map (moved_row (before + first)) (row_within (depth_of next) types next p u)
step_down types ty index first before p u row next formed lt at =
    let part : Part = record { ty = ty; index = index; first = first; row = row } in
    let t : (ty == u) ≡ false = grind (arith, nat_tests, lt) in
    let d : first + p - first ≡ p = omega arith in
    let test : (part.ty == u && part.first == first + p) ≡ false = rw t refl in
    let at_p : next ≡ part_at types ty (first + p - first) = rw d at in
    subst (λ x. option_map (moved_row before) (row_within (suc ty) types (Some part) (first + p) u) ≡ option_map (moved_row (before + first)) (row_within (depth_of next) types next x u)) d
    (goes_on types part next before (first + p) u formed test at_p)

pub times_le : (k n l : ℕ) → k < n → k * l + l ≤ n * l
times_le k n l lt =
    let h : (k + 1) * l ≤ n * l = mul-le-mul_right l (omega (arith, lt)) in
    let m : (k + 1) * l ≡ k * l + l = grind arith in
    omega (arith, h, m)

pub together_le : (f : ℕ → ℕ) (ms : List ℕ) (i m : ℕ) → slice_get ms i ≡ Some m → leaves_together f (take i ms) + f m ≤ leaves_together f ms
together_le f [] i m at = cc
together_le f (o ∷ ms) zero m at = let e : f o ≡ f m = cc in omega (arith, e)
together_le f (o ∷ ms) (suc i) m at = omega (arith, together_le f ms i m at)

arrives_root : (types : List Ty) (root count : ℕ) → AreFormed types → Arrives types root count root 0 count
arrives_root types root count formed = record {
  before = 0;
  rest = 0;
  is = omega arith;
  comes = λ k place u lt low high le.
      let l = leaves_of types root in
      let z : 0 + k * l ≡ k * l = omega arith in
      let p : 0 + place ≡ place = omega arith in
      let found : Option Part = Some (record { ty = root; index = k; first = k * l; row = record { first = 0; len = count } }) in
      let e : found ≡ element_at root l count place = sym (element_is root l count k place lt (omega (arith, low)) (omega (arith, high))) in
      (k, rw (p, z) (begins types root count place u found formed e));
}

arrives_array : (types : List Ty) (root count ty first len k of n : ℕ) → AreFormed types → Arrives types root count ty first len → k < len → slice_get types ty ≡ Some (Array of n)
    → Arrives types root count of (first + k * leaves_of types ty) n
arrives_array types root count ty first len k of n formed a lt at =
    let l = leaves_of types ty in
    let m = leaves_of types of in
    let f : IsFormed types ty (Array of n) = formed.each ty (Array of n) at in
    let earlier : of < ty = f.earlier 0 0 (omega arith) in
    let size : l ≡ n * m = leaves_is types ty (Array of n) f.earlier at in
    let start = a.rest + k * l in
    record {
      before = a.before + start;
      rest = 0;
      is = omega (arith, a.is);
      comes = λ j p u within low high le.
          let inside : p < l = omega (arith, size, times_le j n m within, high) in
          let r = a.comes k (start + p) u lt (omega arith) (omega (arith, inside)) (omega (arith, le, earlier)) in
          let next : Option Part = Some (record { ty = of; index = j; first = j * m; row = record { first = 0; len = n } }) in
          let is : next ≡ element_at of m n p = sym (element_is of m n j p within (omega (arith, low)) (omega (arith, high))) in
          let there : next ≡ part_at types ty p = is ∙ ap (λ o. part_of types o p) (sym at) in
          let z : 0 + j * m ≡ j * m = omega arith in
          let g : a.before + start + p ≡ a.before + (start + p) = omega arith in
          (j, rw (z, g) (r.1 ∙ step_down types ty r.0 start a.before p u (record { first = a.rest; len = len }) next formed (omega (arith, le, earlier)) there));
    }

arrives_member : (types : List Ty) (root count ty first len k i member : ℕ) (members : List ℕ) → AreFormed types → Arrives types root count ty first len → k < len
    → slice_get types ty ≡ Some (Struct members) → slice_get members i ≡ Some member
    → Arrives types root count member (first + k * leaves_of types ty + leaves_together (leaves_of types) (take i members)) 1
arrives_member types root count ty first len k i member members formed a lt at mat =
    let l = leaves_of types ty in
    let m = leaves_of types member in
    let f : IsFormed types ty (Struct members) = formed.each ty (Struct members) at in
    let e : get_or members i 0 ≡ member = get_or_from_slice_get members i member 0 mat in
    let earlier : member < ty = subst (λ x. x < ty) e (f.earlier i 0 (slice_get_within members i member mat)) in
    let size : l ≡ leaves_together (leaves_of types) members = leaves_is types ty (Struct members) f.earlier at in
    let start = a.rest + k * l in
    let s = leaves_together (leaves_of types) (take i members) in
    record {
      before = a.before + start;
      rest = s;
      is = omega (arith, a.is);
      comes = λ j p u within low high le.
          let first_one : j ≡ 0 = omega (arith, within) in
          let none : j * m ≡ 0 = ap (λ x. x * m) first_one ∙ omega arith in
          let inside : p < l = omega (arith, size, together_le (leaves_of types) members i member mat, high, none) in
          let r = a.comes k (start + p) u lt (omega arith) (omega (arith, inside)) (omega (arith, le, earlier)) in
          let w = member_is (leaves_of types) members i member 0 0 p mat (omega (arith, low)) (omega (arith, high, none)) in
          let y : 0 + s ≡ s = omega arith in
          let next : Option Part = Some (record { ty = member; index = w.0; first = s; row = record { first = s; len = 1 } }) in
          let is : next ≡ member_at (leaves_of types) members 0 0 p =
          sym (subst (λ x. member_at (leaves_of types) members 0 0 p ≡ Some (record { ty = member; index = w.0; first = x; row = record { first = x; len = 1 } })) y w.1) in
          let there : next ≡ part_at types ty p = is ∙ ap (λ o. part_of types o p) (sym at) in
          let z : s + j * m ≡ s = omega (arith, none) in
          let g : a.before + start + p ≡ a.before + (start + p) = omega arith in
          (w.0, rw (z, g) (r.1 ∙ step_down types ty r.0 start a.before p u (record { first = a.rest; len = len }) next formed (omega (arith, le, earlier)) there));
    }

arrives : (types : List Ty) (root count ty first len : ℕ) → AreFormed types → IsRow types root count ty first len → Arrives types root count ty first len
arrives types root count ty first len formed elements_of_root = arrives_root types root count formed
arrives types root count ty first len formed (elements_of_array {ty = t} {first = f} {len = n} {k = k} {of = of} {n = m} row lt at) =
    arrives_array types root count t f n k of m formed (arrives types root count t f n formed row) lt at
arrives types root count ty first len formed (member_of_struct {ty = t} {first = f} {len = n} {k = k} {member = member} {members = members} i row lt at mat) =
    arrives_member types root count t f n k i member members formed (arrives types root count t f n formed row) lt at mat

-- a search finds each subobject
pub row_complete : (types : List Ty) (root count place u : ℕ) (row : Row) → AreFormed types → u < length types → IsRowAt types root count place u row → row_at types root count place u ≡ Some row
row_complete types root count place u row formed known h =
    let l = leaves_of types u in
    let k = h.element.0 in
    let a : Arrives types root count u row.first row.len = arrives types root count u row.first row.len formed h.is_row in
    let some : 0 < l = leaves_some types u formed known in
    let r = a.comes k (a.rest + k * l) u h.element.1 (omega arith) (omega (arith, some)) (omega arith) in
    let part : Part = record { ty = u; index = r.0; first = a.rest + k * l; row = record { first = a.rest; len = row.len } } in
    let test : (part.ty == u && part.first == a.rest + k * l) ≡ true = grind (arith, nat_tests) in
    let p : a.before + (a.rest + k * l) ≡ place = omega (arith, h.element.2, a.is) in
    let f : a.before + a.rest ≡ row.first = sym a.is in
    let found : row_at types root count (a.before + (a.rest + k * l)) u ≡ Some (record { first = a.before + a.rest; len = row.len }) =
    r.1 ∙ ends types part a.before (a.rest + k * l) u test in
    subst (λ x. row_at types root count place u ≡ Some (record { first = x; len = row.len })) f
    (subst (λ x. row_at types root count x u ≡ Some (record { first = a.before + a.rest; len = row.len })) p found)

-- the types of a root's rows are known where the root's is
pub row_known : (types : List Ty) (root count ty first len : ℕ) → AreFormed types → root < length types → IsRow types root count ty first len → ty < length types
row_known types root count ty first len formed known elements_of_root = known
row_known types root count ty first len formed known (elements_of_array {ty = t} {of = of} {n = m} row lt at) =
    omega (arith, (formed.each t (Array of m) at).earlier 0 0 (omega arith), slice_get_within types t (Array of m) at)
row_known types root count ty first len formed known (member_of_struct {ty = t} {member = member} {members = members} i row lt at mat) =
    let e : get_or members i 0 ≡ member = get_or_from_slice_get members i member 0 mat in
    let earlier : member < t = subst (λ x. x < t) e ((formed.each t (Struct members) at).earlier i 0 (slice_get_within members i member mat)) in
    omega (arith, earlier, slice_get_within types t (Struct members) at)

pub row_exact : (types : List Ty) (root count place u : ℕ) (row : Row) → AreFormed types → root < length types → IsRowAt types root count place u row → row_at types root count place u ≡ Some row
row_exact types root count place u row formed known h = row_complete types root count place u row formed (row_known types root count u row.first row.len formed known h.is_row) h

pub one_row : (types : List Ty) (root count place u : ℕ) (a b : Row) → AreFormed types → root < length types → IsRowAt types root count place u a → IsRowAt types root count place u b → a ≡ b
one_row types root count place u a b formed known x y =
    let p : row_at types root count place u ≡ Some a = row_exact types root count place u a formed known x in
    let q : row_at types root count place u ≡ Some b = row_exact types root count place u b formed known y in
    cc

pub if_found : (types : List Ty) (root count place u : ℕ) (o : Option Row) → o ≡ row_at types root count place u → IfSome o (λ row. IsRowAt types root count place u row)
if_found types root count place u None is = tt
if_found types root count place u (Some row) is = row_found types root count place u row (sym is)

pub if_none : (types : List Ty) (root count place u : ℕ) (o : Option Row) → AreFormed types → root < length types → o ≡ row_at types root count place u → IfNone o (¬ IsSubobject types root count place u)
if_none types root count place u None formed known is = λ s.
    let p : row_at types root count place u ≡ Some s.0 = row_exact types root count place u s.0 formed known s.1 in
    cc
if_none types root count place u (Some row) formed known is = tt

is_found : (types : List Ty) (root count place u : ℕ) (o : Option Row) → AreFormed types → root < length types → row_at types root count place u ≡ o
    → (IsTrue (is_some o) → IsSubobject types root count place u) × (IsSubobject types root count place u → IsTrue (is_some o))
is_found types root count place u None formed known is =
    (λ h. cc, λ s. let p : row_at types root count place u ≡ Some s.0 = row_exact types root count place u s.0 formed known s.1 in cc)
is_found types root count place u (Some row) formed known is = (λ _. (row, row_found types root count place u row is), λ _. refl)

pub found_iff : (types : List Ty) (root count place u : ℕ) (b : Bool) → AreFormed types → root < length types → b ≡ is_some (row_at types root count place u)
    → (IsTrue b → IsSubobject types root count place u) × (IsSubobject types root count place u → IsTrue b)
found_iff types root count place u b formed known is =
    subst (λ x. (IsTrue x → IsSubobject types root count place u) × (IsSubobject types root count place u → IsTrue x)) (sym is)
    (is_found types root count place u (row_at types root count place u) formed known refl)

pub none_sound : (types : List Ty) (root count place u : ℕ) → AreFormed types → root < length types → row_at types root count place u ≡ None → ¬ IsSubobject types root count place u
none_sound types root count place u formed known is = λ s.
    let p : row_at types root count place u ≡ Some s.0 = row_exact types root count place u s.0 formed known s.1 in
    cc

pub none_complete : (types : List Ty) (root count place u : ℕ) → ¬ IsSubobject types root count place u → row_at types root count place u ≡ None
none_complete types root count place u none =
    elim (row_at types root count place u) as (λ o. row_at types root count place u ≡ o → row_at types root count place u ≡ None)
    [ None ↦ λ e. e | Some row ↦ λ e. absurd (none (row, row_found types root count place u row e)) ] refl
