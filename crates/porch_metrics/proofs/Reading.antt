-- What a table says of each type.
use Rattle.std.proofs.Common.{◌≡◌, ℕ, suc, ◌+◌, ◌*◌, ◌/◌, ◌%◌, ◌^◌, ◌<◌, ◌≤◌, List, [], ◌∷◌, length, get_or, slice_get, Option, Some, None, refl, arith, ap, sym, ◌∙◌, subst}
use Rattle.std.proofs.lemmas.Option.{slice_get_read, slice_get_within}
use Rattle.std.proofs.lemmas.List.{length-map}
use Rattle.std.proofs.lemmas.Nat.{div-add-mod'}
use Rattle.porch_types.specs.declared.shapes.Ty.{Ty}
use Rattle.porch_types.specs.declared.shapes.Ty.TheVariants.{Whole, Pointer, Array, Struct}
use Rattle.porch_types.specs.declared.parts.Part.{Part}
use Rattle.porch_types.specs.Leaves.{leaves_of}
use Rattle.porch_types.specs.Rows.{part_at, part_of}
use Rattle.porch_layout.specs.declared.layout.Layout.{Layout}
use Rattle.porch_metrics.specs.declared.table.Measured.{Measured}
use Rattle.porch_metrics.specs.declared.table.Table.{Table}
use Rattle.porch_metrics.specs.Extents.{Extent, round_up, extent_of, member_places}
use Rattle.porch_metrics.specs.Places.{part_place, place_of, place_within}
use Rattle.porch_metrics.specs.inside.Tables.{AreCounted, extent, IsTable, IsMember}
use Rattle.porch_metrics.proofs.Extended.{length-extents}
use Rattle.porch_metrics.proofs.Bounds.{IsBounded, bounded, array_bound}
use Rattle.porch_metrics.proofs.Measuring.{few_leaves, parts_few}
use Rattle.porch_metrics.proofs.Descending.{Lies, lies, MemberIs, member_is}

pub measured_len : (types : List Ty) (table : Table) → IsTable types table → length table.measured.items ≡ length types
measured_len types table is =
    omega (arith, length-map table.measured.items extent, ap length is.measured.extents, length-extents table.layout [] types)

length-places : (f : ℕ → Extent) (end : ℕ) (ms : List ℕ) → length (member_places f end ms) ≡ length ms
length-places f end [] = refl
length-places f end (m ∷ ms) = ap suc (length-places f (round_up end (f m).align + (f m).size) ms)

pub record MemberOf (o : Option Ty) (index : ℕ) : Type 0 where
  pub members : List ℕ
  pub is : o ≡ Some (Struct members)
  pub within : index < length members

pub member_of : (o : Option Ty) (index : ℕ) → IsMember o index → MemberOf o index
member_of None index h = absurd h
member_of (Some (Whole kind)) index h = absurd h
member_of (Some (Pointer to)) index h = absurd h
member_of (Some (Array of count)) index h = absurd h
member_of (Some (Struct members)) index h = record { members = members; is = refl; within = h }

pub record PlaceAt (types : List Ty) (table : Table) (ty index : ℕ) (m : Measured) : Type 0 where
  pub within : index < length m.places.items
  pub few : index < 2 ^ 20
  pub place : get_or m.places.items index 0 ≡ part_place (extent_of table.layout types) (slice_get types ty) index

pub place_at : (types : List Ty) (table : Table) (ty index : ℕ) (m : Measured) → IsTable types table → ty < length types → IsMember (slice_get types ty) index → m ≡ get_or table.measured.items ty m
    → PlaceAt types table ty index m
place_at types table ty index m is known member at =
    let s : MemberOf (slice_get types ty) index = member_of (slice_get types ty) index member in
    let e = extent_of table.layout types in
    let found : slice_get table.measured.items ty ≡ Some m = slice_get_read table.measured.items (length table.measured.items) ty m refl (omega (arith, known, measured_len types table is)) at in
    let places : m.places.items ≡ member_places e 0 s.members = is.measured.placed ty (Struct s.members) m s.is found in
    record {
      within = omega (arith, ap length places, length-places e 0 s.members, s.within);
      few = omega (arith, s.within, parts_few types ty (Struct s.members) is.counted s.is);
      place = ap (λ xs. get_or xs index 0) places ∙ ap (λ o. part_place e o index) (sym s.is);
    }

pub array_known : (types : List Ty) (ty of count : ℕ) → AreCounted types → slice_get types ty ≡ Some (Array of count) → of < length types
array_known types ty of count formed at =
    let earlier : of < ty = (formed.each ty (Array of count) at).earlier 0 0 (omega arith) in
    omega (arith, earlier, slice_get_within types ty (Array of count) at)

pub near : (types : List Ty) (table : Table) (ty leaf : ℕ) (part : Part) → IsTable types table → ty < length types → leaf < leaves_of types ty → part_at types ty leaf ≡ Some part
    → part_place (extent_of table.layout types) (slice_get types ty) part.index < 2 ^ 23
near types table ty leaf part is known lt at =
    let d : Lies table.layout types ty leaf (slice_get types ty) part = lies table.layout types ty leaf part is.layout is.counted at in
    omega (arith, d.bound, d.holds.below, lt, few_leaves types ty is.counted known)

pub array_near : (types : List Ty) (table : Table) (ty leaf of count : ℕ) (part : Part) → IsTable types table → ty < length types → leaf < leaves_of types ty → part_at types ty leaf ≡ Some part
    → slice_get types ty ≡ Some (Array of count) → part.index * (extent_of table.layout types of).size < 2 ^ 23
array_near types table ty leaf of count part is known lt at array =
    subst (λ o. part_place (extent_of table.layout types) o part.index < 2 ^ 23) array (near types table ty leaf part is known lt at)

pub struct_member : (types : List Ty) (ty leaf : ℕ) (members : List ℕ) (part : Part) → part_at types ty leaf ≡ Some part → slice_get types ty ≡ Some (Struct members)
    → IsMember (slice_get types ty) part.index
struct_member types ty leaf members part at is =
    let h : part_of types (Some (Struct members)) leaf ≡ Some part = subst (λ o. part_of types o leaf ≡ Some part) is at in
    let m : MemberIs (leaves_of types) members 0 0 leaf part = member_is (leaves_of types) members 0 0 leaf part (omega arith) h in
    subst (λ o. IsMember o part.index) (sym is) (omega (arith, m.is, slice_get_within members m.i part.ty m.at))

-- the elements before the one that holds a leaf, and that one up to the leaf
pub before_bound : (types : List Ty) (table : Table) (ty leaf : ℕ) → IsTable types table → ty < length types
    → leaf / leaves_of types ty * (extent_of table.layout types ty).size + 8 * (leaf % leaves_of types ty) ≤ 8 * leaf
before_bound types table ty leaf is known =
    let l = leaves_of types ty in
    let b : IsBounded (extent_of table.layout types ty) l = bounded table.layout types ty is.layout is.counted known in
    omega (arith, array_bound (leaf / l) (extent_of table.layout types ty).size l b.size, div-add-mod' leaf l)

pub place_begins : (l : Layout) (types : List Ty) (ty leaf leaves size : ℕ) → leaves ≡ leaves_of types ty → size ≡ (extent_of l types ty).size
    → place_of l types ty leaf ≡ leaf / leaves * size + place_within (suc ty) l types ty (leaf % leaves)
place_begins l types ty leaf leaves size is same =
    ap (λ x. leaf / x * (extent_of l types ty).size + place_within (suc ty) l types ty (leaf % x)) (sym is)
    ∙ ap (λ x. leaf / leaves * x + place_within (suc ty) l types ty (leaf % leaves)) (sym same)

pub place_goes : (whole before inner start rest found : ℕ) → whole ≡ before + inner → inner ≡ start + rest → found ≡ start → whole ≡ before + found + rest
place_goes whole before inner start rest found a b c = omega (arith, a, b, c)
