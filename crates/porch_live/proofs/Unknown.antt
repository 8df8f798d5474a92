-- What definitions say of a type that a list doesn't have.
use Rattle.std.proofs.Common.{◌≡◌, ℕ, zero, suc, ◌+◌, ◌-◌, ◌*◌, ◌^◌, ◌<◌, ◌≤◌, Bool, true, false, ◌&&◌, nat_eq, nat_lt, List, [], ◌∷◌, ◌++◌, length, Option, Some, None, IfSome, refl, sym, ap, ◌∙◌, inl, inr, arith}
use Rattle.std.proofs.lemmas.Bool.{eq-eqb, eqb-true}
use Rattle.std.proofs.lemmas.Bool.Decides.{eqb_tells}
use Rattle.std.proofs.lemmas.Option.{slice_get_cases, slice_get_past}
use Rattle.std.proofs.Math.Nat.{mul-le-mul, mul-le-mul_right, le-mul_of_pos_right, div-zero}
use Rattle.std.proofs.lemmas.List.{get_or_past, length-append}
use Rattle.std.specs.Option.{option_map}
use Rattle.std.specs.Prelude.{slice_index, if◌then◌else◌}
use Rattle.porch_types.specs.declared.shapes.Ty.{Ty}
use Rattle.porch_types.specs.Leaves.{IsTypes, leaf_count, leaf_counts, leaf_counts_from, leaves_of}
use Rattle.porch_types.specs.declared.parts.Row.{Row}
use Rattle.porch_types.specs.declared.parts.Part.{Part}
use Rattle.porch_types.specs.Rows.{IsRowAt, moved_row, row_at, row_within, element_at, part_at, part_of}
use Rattle.porch_live.specs.inside.Rows.{IsNear, row_without_type}

counts_in_all : (before : List ℕ) (types : List Ty) → length (leaf_counts_from before types) ≡ length before + length types
counts_in_all before [] = omega arith
counts_in_all before (ty ∷ rest) =
    let count : ℕ = leaf_count (slice_index before) ty in
    omega (arith, counts_in_all (before ++ count ∷ []) rest, length-append before (count ∷ []))

pub no_leaves : (types : List Ty) (ty : ℕ) → length types ≤ ty → leaves_of types ty ≡ 0
no_leaves types ty out = get_or_past (leaf_counts types) ty 0 (omega (arith, counts_in_all [] types, out))

pub few_leaves : (types : List Ty) (ty : ℕ) → IsTypes types → leaves_of types ty ≤ 1048576
few_leaves types ty are =
    elim (slice_get_cases types ty).1 [
      | inl w ↦ (are.formed.each ty w.0 w.2).small
      | inr w ↦ let none : leaves_of types ty ≡ 0 = no_leaves types ty w.0 in omega (arith, none)
    ]

-- where an element of a row begins, and where the row ends
pub near_row : (types : List Ty) (root count place pointee : ℕ) (row : Row) → IsTypes types → count < 2 ^ 32
    → IsRowAt types root count place pointee row
    → row.first + row.len * leaves_of types pointee ≤ count * leaves_of types root → 0 < leaves_of types pointee
    → IsNear types pointee place row
near_row types root count place pointee row are few at inside some =
    let leaves = leaves_of types pointee in
    let k = at.element.0 in
    let before : k * leaves ≤ row.len * leaves = mul-le-mul_right {m = k} {n = row.len} leaves (omega (arith, at.element.1)) in
    let all : count * leaves_of types root ≤ 2 ^ 32 * 1048576 =
    mul-le-mul {n₁ = count} {m₁ = leaves_of types root} {n₂ = 2 ^ 32} {m₂ = 1048576} (omega (arith, few)) (few_leaves types root are) in
    let long : row.len ≤ row.len * leaves = le-mul_of_pos_right {m = leaves} row.len some in
    record {
      small = omega (arith, at.element.2, before, inside, all);
      begun = omega (arith, at.element.2);
      short = omega (arith, long, inside, all);
      ended = omega (arith, inside, all);
    }

none_within : (depth : ℕ) (types : List Ty) (place pointee : ℕ) → row_within depth types None place pointee ≡ None
none_within zero types place pointee = refl
none_within (suc depth) types place pointee = refl

eqb_turned : (a b : ℕ) → nat_eq a b ≡ nat_eq b a
eqb_turned a b = elim (eqb_tells a b) [
  | inl w ↦ w.0 ∙ sym (eq-eqb b a (sym w.1))
  | inr w ↦ elim (eqb_tells b a) [ inl u ↦ absurd (w.1 (sym u.1)) | inr u ↦ w.0 ∙ sym u.0 ]
]

abbrev whole_part : ℕ → ℕ → Part
whole_part root count = record { ty = root; index = 0; first = 0; row = record { first = 0; len = count } }

none_of_part : (types : List Ty) (root place pointee : ℕ) → length types ≤ root
    → row_within root types (part_at types root place) place pointee ≡ None
none_of_part types root place pointee out =
    ap (λ ty. row_within root types (part_of types ty place) place pointee) (slice_get_past types root out)
    ∙ none_within root types place pointee

row_if : (types : List Ty) (root count place pointee : ℕ) (b : Bool) → length types ≤ root
    → row_within (suc root) types (if b then Some (whole_part root count) else None) place pointee
    ≡ (if b && (nat_eq root pointee && nat_eq place 0) then Some (record { first = 0; len = count }) else None)
row_if types root count place pointee false out = refl
row_if types root count place pointee true out =
    let row : Row = record { first = 0; len = count } in
    ap (λ (o : Option Row). if nat_eq root pointee && nat_eq 0 place then Some row else option_map (moved_row 0) o) (none_of_part types root (place - 0) pointee out)
    ∙ ap (λ b. if nat_eq root pointee && b then Some row else None) (eqb_turned 0 place)

pub unknown_row : (types : List Ty) (root count place pointee : ℕ) → length types ≤ root
    → row_without_type root count place pointee ≡ row_at types root count place pointee
unknown_row types root count place pointee out =
    sym (ap (λ leaves. row_within (suc root) types (element_at root leaves count place) place pointee) (no_leaves types root out)
    ∙ ap (λ q. row_within (suc root) types
    (if nat_lt q count then Some (let p : Part = record { ty = root; index = q; first = q * 0; row = record { first = 0; len = count } } in p) else None) place pointee) (div-zero place)
    ∙ row_if types root count place pointee (nat_lt 0 count) out)

held : (P : Row → Type 0) (row : Row) (b c d : Bool) → (c ≡ true → d ≡ true → P row) → IfSome (if b && (c && d) then Some row else None) P
held P row true true true has = has refl refl
held P row true true false has = tt
held P row true false d has = tt
held P row false c d has = tt

pub near_unknown : (types : List Ty) (root count place pointee : ℕ) → length types ≤ root → count < 2 ^ 32
    → IfSome (row_without_type root count place pointee) (λ row. IsNear types pointee place row)
near_unknown types root count place pointee out few =
    held (λ row. IsNear types pointee place row) (record { first = 0; len = count }) (nat_lt 0 count) (nat_eq root pointee) (nat_eq place 0)
    (λ same at.
    let is : root ≡ pointee = eqb-true root pointee same in
    let zero : place ≡ 0 = eqb-true place 0 at in
    let none : leaves_of types pointee ≡ 0 = no_leaves types pointee (omega (arith, out, is)) in
    record { small = omega (arith, zero); begun = omega arith; short = omega (arith, few); ended = rw none (omega arith) })

pub some_still : (P Q : Row → Type 0) (o : Option Row) → ((row : Row) → P row → Q row) → IfSome o P → IfSome o Q
some_still P Q None keeps has = tt
some_still P Q (Some row) keeps has = keeps row has
