-- How deep a search goes, and that a search that may go deeper finds the same.
use Rattle.std.proofs.Common.{◌≡◌, ℕ, zero, suc, ◌+◌, ◌-◌, ◌*◌, ◌/◌, ◌<◌, ◌≤◌, true, false, cond, nat_lt, ◌==◌, ◌&&◌, List, [], ◌∷◌, slice_get, Option, Some, None, refl, arith, ap, sym, ◌∙◌, subst, All}
use Rattle.std.specs.Option.{option_map}
use Rattle.porch_types.specs.declared.shapes.Ty.{Ty}
use Rattle.porch_types.specs.declared.shapes.Ty.TheVariants.{Whole, Pointer, Array, Struct}
use Rattle.porch_types.specs.declared.parts.Part.{Part}
use Rattle.porch_types.specs.declared.parts.Row.{Row}
use Rattle.porch_types.specs.Leaves.{AreFormed, parts_of, leaves_of}
use Rattle.porch_types.specs.Rows.{part_at, part_of, element_at, member_at, row_within, row_at, moved_row}

-- one more than the number of a part's type
abbrev pub depth_of : Option Part → ℕ
depth_of None = 0
depth_of (Some part) = suc part.ty

depth_element : (of leaves count place t : ℕ) → of < t → depth_of (element_at of leaves count place) ≤ t
depth_element of leaves count place t h =
    elim (nat_lt (place / leaves) count) as (λ b. depth_of (cond b (Some (record { ty = of; index = place / leaves; first = place / leaves * leaves; row = record { first = 0; len = count } })) None) ≤ t)
    [ true ↦ omega (arith, h) | false ↦ omega arith ]

depth_member : (f : ℕ → ℕ) (ms : List ℕ) (index first place t : ℕ) → All (λ p. p < t) ms → depth_of (member_at f ms index first place) ≤ t
depth_member f [] index first place t a = omega arith
depth_member f (m ∷ ms) index first place t a =
    elim (nat_lt place (first + f m)) as (λ b. depth_of (cond b (Some (record { ty = m; index = index; first = first; row = record { first = first; len = 1 } })) (member_at f ms (index + 1) (first + f m) place)) ≤ t)
    [ true ↦ let h : m < t = a 0 0 (omega arith) in omega (arith, h) | false ↦ depth_member f ms (index + 1) (first + f m) place t (λ k d lt. a (suc k) d (omega (arith, lt))) ]

depth_type : (types : List Ty) (ty : Ty) (t place : ℕ) → All (λ p. p < t) (parts_of ty) → depth_of (part_of types (Some ty) place) ≤ t
depth_type types (Whole kind) t place a = omega arith
depth_type types (Pointer to) t place a = omega arith
depth_type types (Array of count) t place a = depth_element of (leaves_of types of) count place t (a 0 0 (omega arith))
depth_type types (Struct members) t place a = depth_member (leaves_of types) members 0 0 place t a

depth_option : (types : List Ty) (t place : ℕ) (o : Option Ty) → AreFormed types → slice_get types t ≡ o → depth_of (part_of types o place) ≤ t
depth_option types t place None formed is = omega arith
depth_option types t place (Some ty) formed is = depth_type types ty t place (formed.each t ty is).earlier

-- a part's type is earlier than the whole's
pub depth_part : (types : List Ty) (t place : ℕ) → AreFormed types → depth_of (part_at types t place) ≤ t
depth_part types t place formed = depth_option types t place (slice_get types t) formed refl

-- a search that may go deeper finds the same
pub within_same : (types : List Ty) (n m : ℕ) (part : Option Part) (place pointee : ℕ) → AreFormed types → depth_of part ≤ n → depth_of part ≤ m
    → row_within n types part place pointee ≡ row_within m types part place pointee
within_same types zero zero part place pointee formed a b = refl
within_same types zero (suc m) None place pointee formed a b = refl
within_same types zero (suc m) (Some part) place pointee formed a b = absurd (omega (arith, a))
within_same types (suc n) zero None place pointee formed a b = refl
within_same types (suc n) zero (Some part) place pointee formed a b = absurd (omega (arith, b))
within_same types (suc n) (suc m) None place pointee formed a b = refl
within_same types (suc n) (suc m) (Some part) place pointee formed a b =
    let inner = place - part.first in
    let d : depth_of (part_at types part.ty inner) ≤ part.ty = depth_part types part.ty inner formed in
    ap (λ o. cond (part.ty == pointee && part.first == place) (Some part.row) (option_map (moved_row part.first) o))
    (within_same types n m (part_at types part.ty inner) inner pointee formed (omega (arith, d, a)) (omega (arith, d, b)))

row_from_0 : (row : Row) → moved_row 0 row ≡ row
row_from_0 row = let e : 0 + row.first ≡ row.first = omega arith in ap (λ x. record { first = x; len = row.len }) e

from_0 : (o : Option Row) → option_map (moved_row 0) o ≡ o
from_0 None = refl
from_0 (Some row) = ap Some (row_from_0 row)

row_twice : (a b : ℕ) (row : Row) → moved_row a (moved_row b row) ≡ moved_row (a + b) row
row_twice a b row = let e : a + (b + row.first) ≡ a + b + row.first = omega arith in ap (λ x. record { first = x; len = row.len }) e

twice : (a b : ℕ) (o : Option Row) → option_map (moved_row a) (option_map (moved_row b) o) ≡ option_map (moved_row (a + b)) o
twice a b None = refl
twice a b (Some row) = ap Some (row_twice a b row)

-- a search begins with the root's element
pub begins : (types : List Ty) (root count place pointee : ℕ) (found : Option Part) → AreFormed types → found ≡ element_at root (leaves_of types root) count place
    → row_at types root count place pointee ≡ option_map (moved_row 0) (row_within (depth_of found) types found place pointee)
begins types root count place pointee found formed is =
    let d : depth_of (element_at root (leaves_of types root) count place) ≤ suc root = depth_element root (leaves_of types root) count place (suc root) (omega arith) in
    let e : row_within (suc root) types found place pointee ≡ row_within (depth_of found) types found place pointee =
    within_same types (suc root) (depth_of found) found place pointee formed (subst (λ o. depth_of o ≤ suc root) (sym is) d) (omega arith) in
    ap (λ o. row_within (suc root) types o place pointee) (sym is) ∙ e ∙ sym (from_0 (row_within (depth_of found) types found place pointee))

-- it ends with the part that begins there
pub ends : (types : List Ty) (part : Part) (base place pointee : ℕ) → (part.ty == pointee && part.first == place) ≡ true
    → option_map (moved_row base) (row_within (suc part.ty) types (Some part) place pointee) ≡ Some (record { first = base + part.row.first; len = part.row.len })
ends types part base place pointee is = rw is refl

-- and goes on in each other part
pub goes_on : (types : List Ty) (part : Part) (next : Option Part) (base place pointee : ℕ) → AreFormed types → (part.ty == pointee && part.first == place) ≡ false
    → next ≡ part_at types part.ty (place - part.first)
    → option_map (moved_row base) (row_within (suc part.ty) types (Some part) place pointee)
    ≡ option_map (moved_row (base + part.first)) (row_within (depth_of next) types next (place - part.first) pointee)
goes_on types part next base place pointee formed is at =
    let inner = place - part.first in
    let d : depth_of (part_at types part.ty inner) ≤ part.ty = depth_part types part.ty inner formed in
    let e : row_within part.ty types (part_at types part.ty inner) inner pointee ≡ row_within (depth_of next) types next inner pointee =
    ap (λ o. row_within part.ty types o inner pointee) (sym at)
    ∙ within_same types part.ty (depth_of next) next inner pointee formed (subst (λ o. depth_of o ≤ part.ty) (sym at) d) (omega arith) in
    rw is (ap (λ o. option_map (moved_row base) (option_map (moved_row part.first) o)) e
    ∙ twice base part.first (row_within (depth_of next) types next inner pointee))
