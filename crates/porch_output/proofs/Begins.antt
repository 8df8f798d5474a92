-- Lists that begin with others.
use Rattle.std.proofs.Common.{◌≡◌, ℕ, ◌+◌, ◌-◌, ◌≤◌, List, [], ◌∷◌, ◌++◌, length, take, drop, min, replicate, sym, ◌∙◌, ap, arith, length-append}
use Rattle.std.proofs.lemmas.List.{append-nil, take-append-drop, take-append-le, take-take, length-take, take_min, drop_all}
use Rattle.std.proofs.Math.Seq.{take-append_seam, take-length}
use Rattle.porch_edge.specs.Files.{written, padded_to, Shortened, Marred}
use Rattle.porch_output.specs.Outputs.{BeginsWith}

by_front : (kept y : List ℕ) → take (length kept) y ≡ kept → BeginsWith kept y
by_front kept y is = (drop (length kept) y, sym (take-append-drop (length kept) y) ∙ ap (λ (l : List ℕ). l ++ drop (length kept) y) is)

front_of : (m : ℕ) (kept x : List ℕ) → BeginsWith kept x → m ≤ length kept → take m x ≡ take m kept
front_of m kept x begins le = ap (λ (l : List ℕ). take m l) begins.1 ∙ take-append-le m kept begins.0 le

longer : (kept x : List ℕ) → BeginsWith kept x → length kept ≤ length x
longer kept x begins = omega (arith, ap length begins.1, length-append kept begins.0)

pub begins_itself : (x y : List ℕ) → y ≡ x → BeginsWith x y
begins_itself x y same = ([], same ∙ sym (append-nil x))

-- a write behind the bytes leaves them
pub torn : (kept now x y : List ℕ) (at : ℕ) → at ≡ length now → BeginsWith kept now → take (min at (length now)) y ≡ take (min at (length now)) x → BeginsWith kept x → BeginsWith kept y
torn kept now x y at is there same begins =
    let from = min at (length now) in
    let le : length kept ≤ from = omega (arith, longer kept now there) in
    by_front kept y (sym (take-take (length kept) from y le) ∙ ap (λ (l : List ℕ). take (length kept) l) same ∙ take-take (length kept) from x le ∙ front_of (length kept) kept x begins (omega arith) ∙ take-length kept)

cut_length : (len : ℕ) (kept : List ℕ) → take (length (take len kept)) kept ≡ take len kept
cut_length len kept = ap (λ (n : ℕ). take n kept) (length-take len kept) ∙ take_min len kept

-- fewer of them are left too
pub fewer : (len : ℕ) (kept x : List ℕ) → BeginsWith kept x → BeginsWith (take len kept) x
fewer len kept x begins = by_front (take len kept) x (front_of (length (take len kept)) kept x begins (omega (arith, length-take len kept)) ∙ cut_length len kept)

-- a cut leaves the bytes in front of it
pub shortened : (len : ℕ) (kept x y : List ℕ) → BeginsWith kept x → Shortened len x y → BeginsWith (take len kept) y
shortened len kept x y begins short =
    let m = length (take len kept) in
    let le : m ≤ length y = omega (arith, length-take len kept, longer kept x begins, short.no_shorter) in
    by_front (take len kept) y
    (ap (λ (l : List ℕ). take m l) short.front ∙ take-take m (length y) x le ∙ front_of m kept x begins (omega (arith, length-take len kept)) ∙ cut_length len kept)

pub marred : (len : ℕ) (kept x y : List ℕ) → BeginsWith kept x → Marred len x y → BeginsWith (take len kept) y
marred len kept x y begins cut =
    let m = length (take len kept) in
    let le : m ≤ len = omega (arith, length-take len kept) in
    by_front (take len kept) y
    (sym (take-take m len y le) ∙ ap (λ (l : List ℕ). take m l) cut.before ∙ take-take m len x le ∙ front_of m kept x begins (omega (arith, length-take len kept)) ∙ cut_length len kept)

-- a write at the end adds its bytes
pub appended : (at : ℕ) (old bytes : List ℕ) → at ≡ length old → written old at bytes ≡ old ++ bytes
appended at old [] is = sym (append-nil old)
appended at old (b ∷ bytes) is =
    let front : take at (padded_to at old) ≡ old = ap (λ (n : ℕ). take n (padded_to at old)) is ∙ take-append_seam old (replicate (at - length old) 0) in
    let back : drop (at + length (b ∷ bytes)) old ≡ [] = drop_all (at + length (b ∷ bytes)) old (omega (arith, is)) in
    ap (λ (l : List ℕ). l ++ (b ∷ bytes) ++ drop (at + length (b ∷ bytes)) old) front ∙ ap (λ (l : List ℕ). old ++ (b ∷ bytes) ++ l) back ∙ append-nil (old ++ (b ∷ bytes))
