-- Which member holds a leaf.
use Rattle.std.proofs.Common.{◌≡◌, ℕ, zero, suc, ◌+◌, ◌<◌, ◌≤◌, List, [], ◌∷◌, length, get_or, Some, None, refl, arith, ap, sym, subst}
use Rattle.std.proofs.lemmas.Bool.{lt-ltb, le-ltb}
use Rattle.porch_types.specs.declared.parts.Part.{Part}
use Rattle.porch_types.specs.Rows.{member_at}
use Rattle.porch_types.specs.Leaves.{leaves_together}
use Rattle.porch_types.specs.inside.Kept.{starts_from}

starts_above : (f : ℕ → ℕ) (ms : List ℕ) (first i : ℕ) → i < length ms → first ≤ get_or (starts_from f first ms) i 0
starts_above f [] first i lt = absurd (omega arith)
starts_above f (m ∷ ms) first zero lt = omega arith
starts_above f (m ∷ ms) first (suc i) lt = omega (arith, starts_above f ms (first + f m) i (omega arith))

pub length-starts : (f : ℕ → ℕ) (first : ℕ) (ms : List ℕ) → length (starts_from f first ms) ≡ length ms
length-starts f first [] = refl
length-starts f first (m ∷ ms) = ap suc (length-starts f (first + f m) ms)

abbrev pub part_found : (ms : List ℕ) (i index first : ℕ) → Part
part_found ms i index first = record { ty = get_or ms i 0; index = index; first = first; row = record { first = first; len = 1 } }

-- the last member that begins at the leaf or before it holds the leaf
pub member_found : (f : ℕ → ℕ) (ms : List ℕ) (i index first place : ℕ) → i < length ms
    → get_or (starts_from f first ms) i 0 ≤ place
    → (i + 1 < length ms → place < get_or (starts_from f first ms) (i + 1) 0)
    → place < first + leaves_together f ms
    → member_at f ms index first place ≡ Some (part_found ms i (index + i) (get_or (starts_from f first ms) i 0))
member_found f [] i index first place lt begun last within = absurd (omega arith)
member_found f (m ∷ []) zero index first place lt begun last within =
    let b : place < first + f m = omega (arith, within) in
    let e : index + 0 ≡ index = omega arith in
    rw (lt-ltb place (first + f m) b, e) refl
member_found f (m ∷ (o ∷ ms)) zero index first place lt begun last within =
    let b : place < first + f m = last (omega arith) in
    let e : index + 0 ≡ index = omega arith in
    rw (lt-ltb place (first + f m) b, e) refl
member_found f (m ∷ ms) (suc i) index first place lt begun last within =
    let above : first + f m ≤ get_or (starts_from f (first + f m) ms) i 0 = starts_above f ms (first + f m) i (omega arith) in
    let past : first + f m ≤ place = omega (arith, above, begun) in
    let e : index + suc i ≡ index + 1 + i = omega arith in
    let next : i + 1 < length ms → place < get_or (starts_from f (first + f m) ms) (i + 1) 0 =
    λ h. let s : suc i + 1 ≡ suc (i + 1) = omega arith in
    subst (λ j. place < get_or (starts_from f first (m ∷ ms)) j 0) s (last (omega (arith, h))) in
    rw (le-ltb place (first + f m) past, e)
    (member_found f ms i (index + 1) (first + f m) place (omega arith) begun next (omega (arith, within)))

-- no member holds a leaf behind the last
pub member_past : (f : ℕ → ℕ) (ms : List ℕ) (index first place : ℕ) → first + leaves_together f ms ≤ place → member_at f ms index first place ≡ None
member_past f [] index first place past = refl
member_past f (m ∷ ms) index first place past =
    let p : first + f m ≤ place = omega (arith, past) in
    rw (le-ltb place (first + f m) p) (member_past f ms (index + 1) (first + f m) place (omega (arith, past)))

pub member_from_start : (f : ℕ → ℕ) (ms starts : List ℕ) (i place : ℕ) → starts ≡ starts_from f 0 ms → i < length ms
    → get_or starts i 0 ≤ place → (i + 1 < length ms → place < get_or starts (i + 1) 0) → place < leaves_together f ms
    → Some (part_found ms i i (get_or starts i 0)) ≡ member_at f ms 0 0 place
member_from_start f ms starts i place is lt begun last within =
    let P : List ℕ → Type 0 = λ xs. get_or xs i 0 ≤ place → (i + 1 < length ms → place < get_or xs (i + 1) 0)
    → Some (part_found ms i i (get_or xs i 0)) ≡ member_at f ms 0 0 place in
    let from : P (starts_from f 0 ms) = λ b l.
    let k : 0 + i ≡ i = omega arith in
    sym (subst (λ j. member_at f ms 0 0 place ≡ Some (part_found ms i j (get_or (starts_from f 0 ms) i 0))) k
    (member_found f ms i 0 0 place lt b l (omega (arith, within)))) in
    subst P (sym is) from begun last
