use Rattle.std.proofs.Common.{◌≡◌, ℕ, ◌+◌, ◌<◌, Bool, true, false, refl, sym, subst, lit<, arith}
use Rattle.porch_types.specs.declared.parts.Row.{Row}
use Rattle.porch_types.specs.Rows.{IsSubobject}
use Rattle.porch_layout.specs.Layouts.{le32, le64}
use Rattle.porch_metrics.specs.Places.{place_of}
use Rattle.porch_find.specs.Spots.{IsSpot}
use Rattle.porch_find.specs.inside.Measured.{AreMeasured}
use Rattle.porch_find.specs.Worked.{worked_types}
use Rattle.porch_find.proofs.Rising.{is_before, is_one}
use Rattle.porch_find.proofs.Spotting.{spots_one}
use Rattle.porch_find.proofs.WorkedTypes.{are_types, le32_is, le64_is}
use Rattle.porch_find.proofs.worked.ends_of_members.Goals as goal

abbrev second : Row
second = record { first = 5; len = 1 }

pub returns-clause-begins : goal.returns-clause-begins
returns-clause-begins c =
    record { is = (second, (c.rows_are_found.ensures.some worked_types 10 1 5 4 second are_types (lit< tt)).0 refl); at = refl }

pub returns-clause-only : goal.returns-clause-only
returns-clause-only c = λ spot h.
    spots_one le32 worked_types 10 1 20 4 spot (record { leaf = 5; past = false }) (c.all_are_measured.ensures le32 worked_types le32_is are_types) (lit< tt) h (returns-clause-begins c)

not_between : (m : AreMeasured le64 worked_types) (leaf : ℕ) → 28 ≡ place_of le64 worked_types 10 leaf → ⊥
not_between m leaf at =
    let p = place_of le64 worked_types 10 in
    let rise : (i j : ℕ) → i < j → p i < p j = λ i j. m.rise 10 i j (lit< tt) in
    let fourth : p 4 ≡ 24 = refl in
    let fifth : p 5 ≡ 32 = refl in
    omega (arith, is_before p 4 leaf rise (omega (arith, at, fourth)), is_before p leaf 5 rise (omega (arith, at, fifth)))

nothing_at : (m : AreMeasured le64 worked_types) (next : IsSubobject worked_types 10 1 5 4) (leaf : ℕ) (past : Bool) → IsSpot le64 worked_types 10 1 28 4 (record { leaf = leaf; past = past }) → ⊥
nothing_at m next leaf true h =
    let p = place_of le64 worked_types 10 in
    let rise : (i j : ℕ) → i < j → p i < p j = λ i j. m.rise 10 i j (lit< tt) in
    let at : 28 ≡ p leaf + 4 = h.at in
    let fourth : p 4 ≡ 24 = refl in
    let one : leaf ≡ 4 = is_one p leaf 4 rise (omega (arith, at, fourth)) in
    let after : leaf + 1 ≡ 5 = omega (arith, one) in
    h.is.unshared (subst (λ i. IsSubobject worked_types 10 1 i 4) (sym after) next)
nothing_at m next leaf false h = not_between m leaf h.at

pub returns-clause-shared : goal.returns-clause-shared
returns-clause-shared c = λ spot h.
    let next : IsSubobject worked_types 10 1 5 4 = (second, (c.rows_are_found.ensures.some worked_types 10 1 5 4 second are_types (lit< tt)).0 refl) in
    nothing_at (c.all_are_measured.ensures le64 worked_types le64_is are_types) next spot.leaf spot.past h
