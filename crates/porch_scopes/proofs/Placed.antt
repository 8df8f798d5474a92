-- The places of types among rows, when one row more stands behind them.
use Rattle.std.proofs.Common.{◌≡◌, ℕ, suc, ◌+◌, nat_eq, Bool, true, false, cond, if◌then◌else◌, ◌&&◌, List, [], ◌∷◌, ◌++◌, length, Option, Some, None, refl, sym, ap, ◌∙◌, true≢false, arith, Vec}
use Rattle.std.specs.declared.alloc.Global.{Global}
use Rattle.std.specs.Map.{lookup}
use Rattle.std.specs.Str.{bytes_eq}
use Rattle.std.proofs.lemmas.Bool.{eqb-true}
use Rattle.porch_check.specs.Shapes.{Shape, pointer, array, function, Row, count_eq, shape_eq, place_in}
use Rattle.porch_check.specs.Scopes.{or_else}
use Rattle.porch_scopes.specs.inside.Numbers.{AddsRow}
use Rattle.porch_scopes.specs.declared.numbers.Elements as code_elements
use Rattle.porch_scopes.specs.declared.numbers.Numbers as code_numbers
use lib.Pointwise.{bytes_decides}

step : (y : Shape) (q r : Row) (rows : List Row) (n : ℕ) (b : Bool)
    → place_in y (rows ++ r ∷ []) (suc n) ≡ or_else (place_in y rows (suc n)) (if shape_eq y r.shape then Some (suc n + length rows) else None)
    → (if b then Some n else place_in y (rows ++ r ∷ []) (suc n))
    ≡ or_else (if b then Some n else place_in y rows (suc n)) (if shape_eq y r.shape then Some (n + length (q ∷ rows)) else None)
step y q r rows n true more = refl
step y q r rows n false more =
    let same : suc n + length rows ≡ n + length (q ∷ rows) = search arith in
    more ∙ ap (λ k. or_else (place_in y rows (suc n)) (if shape_eq y r.shape then Some k else None)) same

-- a type is found among the rows, or else it may be the last
place_more : (y : Shape) (rows : List Row) (r : Row) (n : ℕ)
    → place_in y (rows ++ r ∷ []) n ≡ or_else (place_in y rows n) (if shape_eq y r.shape then Some (n + length rows) else None)
place_more y [] r n =
    let same : n ≡ n + 0 = search arith in
    ap (λ k. if shape_eq y r.shape then Some k else None) same
place_more y (q ∷ rows) r n = step y q r rows n (shape_eq y q.shape) (place_more y rows r (suc n))

or_none : {A : Type 0} (a : Option A) → or_else a None ≡ a
or_none (Some a) = refl
or_none None = refl

-- what a table gives once a type has the next number
placed : (x y : Shape) (rows : List Row) (r : Row) (number : ℕ) (b c : Bool)
    → (shape_eq x y ≡ true → x ≡ y) → (shape_eq y x ≡ true → y ≡ x)
    → r.shape ≡ x → number ≡ length rows → place_in x rows 0 ≡ None
    → shape_eq x y ≡ b → shape_eq y x ≡ c
    → cond b (Some number) (place_in y rows 0) ≡ place_in y (rows ++ r ∷ []) 0
placed x y rows r number true true one two is last none h k =
    let there : place_in y rows 0 ≡ None = ap (λ z. place_in z rows 0) (sym (one h)) ∙ none in
    let same : shape_eq y r.shape ≡ true = ap (shape_eq y) is ∙ k in
    let from : 0 + length rows ≡ length rows = search arith in
    ap Some last ∙ sym (place_more y rows r 0 ∙ rw (there, same) (ap Some from))
placed x y rows r number false false one two is last none h k =
    let same : shape_eq y r.shape ≡ false = ap (shape_eq y) is ∙ k in
    sym (place_more y rows r 0 ∙ rw same (or_none (place_in y rows 0)))
placed x y rows r number true false one two is last none h k =
    absurd (true≢false (sym h ∙ (λ i. shape_eq (one h i) (sym (one h) i)) ∙ k))
placed x y rows r number false true one two is last none h k =
    absurd (true≢false (sym k ∙ (λ i. shape_eq (two k i) (sym (two k) i)) ∙ h))

-- the same, where the table tests from the other side
placed_back : (x y : Shape) (rows : List Row) (r : Row) (number : ℕ) (b c : Bool)
    → (shape_eq x y ≡ true → x ≡ y) → (shape_eq y x ≡ true → y ≡ x)
    → r.shape ≡ x → number ≡ length rows → place_in x rows 0 ≡ None
    → shape_eq x y ≡ b → shape_eq y x ≡ c
    → cond c (Some number) (place_in y rows 0) ≡ place_in y (rows ++ r ∷ []) 0
placed_back x y rows r number true true one two is last none h k = placed x y rows r number true true one two is last none h k
placed_back x y rows r number false false one two is last none h k = placed x y rows r number false false one two is last none h k
placed_back x y rows r number true false one two is last none h k =
    absurd (true≢false (sym h ∙ (λ i. shape_eq (one h i) (sym (one h) i)) ∙ k))
placed_back x y rows r number false true one two is last none h k =
    absurd (true≢false (sym k ∙ (λ i. shape_eq (two k i) (sym (two k) i)) ∙ h))

-- a type that is another in kind
pub other : (y : Shape) (rows : List Row) (r : Row) → shape_eq y r.shape ≡ false → place_in y rows 0 ≡ place_in y (rows ++ r ∷ []) 0
other y rows r h = sym (place_more y rows r 0 ∙ rw h (or_none (place_in y rows 0)))

-- Equal types are one.

pointer_one : (a b : ℕ) → shape_eq (pointer a) (pointer b) ≡ true → pointer a ≡ pointer b
pointer_one a b h = ap pointer (eqb-true a b h)

count_one : (m n : Option ℕ) → count_eq m n ≡ true → m ≡ n
count_one None None h = refl
count_one (Some a) (Some b) h = ap Some (eqb-true a b h)
count_one None (Some b) h = absurd (true≢false (sym h))
count_one (Some a) None h = absurd (true≢false (sym h))

both : (s t : Bool) → (s && t) ≡ true → (s ≡ true) × (t ≡ true)
both true t h = (refl, h)
both false t h = absurd (true≢false (sym h))

array_one : (a b : ℕ) (m n : Option ℕ) → shape_eq (array a m) (array b n) ≡ true → array a m ≡ array b n
array_one a b m n h =
    let p = both (nat_eq a b) (count_eq m n) h in
    λ i. array (eqb-true a b p.0 i) (count_one m n p.1 i)

function_one : (a b : ℕ) (ps qs : List ℕ) → shape_eq (function a ps) (function b qs) ≡ true → function a ps ≡ function b qs
function_one a b ps qs h =
    let p = both (nat_eq a b) (bytes_eq ps qs) h in
    λ i. function (eqb-true a b p.0 i) ((bytes_decides ps qs).0 p.1 i)

-- One more of each.

abbrev pointers_in : List (ℕ × ℕ) → ℕ → Option ℕ
pointers_in es to = lookup (λ k. nat_eq to k) es

abbrev Arrays : Type 0
Arrays = List (code_elements.Elements × ℕ)

abbrev arrays_in : Arrays → ℕ → Option ℕ → Option ℕ
arrays_in es of count = lookup (λ (k : code_elements.Elements). nat_eq of k.of && count_eq count k.count) es

abbrev pub Functions : Type 0
Functions = List (Vec ℕ Global × ℕ)

abbrev pub functions_in : Functions → List ℕ → Option ℕ
functions_in es types = lookup (λ k. bytes_eq types k.items) es

pub pointer_adds : (old new : code_numbers.Numbers) (to number : ℕ)
    → ((q : ℕ) → pointers_in new.pointers.entries q ≡ cond (nat_eq to q) (Some number) (pointers_in old.pointers.entries q))
    → new.arrays.entries ≡ old.arrays.entries → new.functions.entries ≡ old.functions.entries → AddsRow (pointer to) number old new
pointer_adds old new to number updates arrays functions = record {
  adds = λ rows r is last none are. record {
    pointers = λ q. updates q ∙ ap (cond (nat_eq to q) (Some number)) (are.pointers q)
        ∙ placed (pointer to) (pointer q) rows r number (nat_eq to q) (nat_eq q to) (pointer_one to q) (pointer_one q to) is last none refl refl;
    arrays = λ of count. ap (λ (es : Arrays). arrays_in es of count) arrays
        ∙ are.arrays of count ∙ other (array of count) rows r (ap (shape_eq (array of count)) is);
    functions = λ x ps. ap (λ (es : Functions). functions_in es (x ∷ ps)) functions
        ∙ are.functions x ps ∙ other (function x ps) rows r (ap (shape_eq (function x ps)) is);
  };
}

pub array_adds : (old new : code_numbers.Numbers) (of : ℕ) (count : Option ℕ) (number : ℕ)
    → ((a : ℕ) (n : Option ℕ) → arrays_in new.arrays.entries a n
    ≡ cond (nat_eq of a && count_eq count n) (Some number) (arrays_in old.arrays.entries a n))
    → new.pointers.entries ≡ old.pointers.entries → new.functions.entries ≡ old.functions.entries → AddsRow (array of count) number old new
array_adds old new of count number updates pointers functions = record {
  adds = λ rows r is last none are. record {
    pointers = λ q. ap (λ (es : List (ℕ × ℕ)). pointers_in es q) pointers
        ∙ are.pointers q ∙ other (pointer q) rows r (ap (shape_eq (pointer q)) is);
    arrays = λ a n. updates a n ∙ ap (cond (nat_eq of a && count_eq count n) (Some number)) (are.arrays a n)
        ∙ placed (array of count) (array a n) rows r number (nat_eq of a && count_eq count n) (nat_eq a of && count_eq n count)
        (array_one of a count n) (array_one a of n count) is last none refl refl;
    functions = λ x ps. ap (λ (es : Functions). functions_in es (x ∷ ps)) functions
        ∙ are.functions x ps ∙ other (function x ps) rows r (ap (shape_eq (function x ps)) is);
  };
}

pub function_adds : (old new : code_numbers.Numbers) (r : ℕ) (ps : List ℕ) (number : ℕ)
    → ((x : ℕ) (qs : List ℕ) → functions_in new.functions.entries (x ∷ qs)
    ≡ cond (bytes_eq (x ∷ qs) (r ∷ ps)) (Some number) (functions_in old.functions.entries (x ∷ qs)))
    → new.pointers.entries ≡ old.pointers.entries → new.arrays.entries ≡ old.arrays.entries → AddsRow (function r ps) number old new
function_adds old new r ps number updates pointers arrays = record {
  adds = λ rows row is last none are. record {
    pointers = λ q. ap (λ (es : List (ℕ × ℕ)). pointers_in es q) pointers
        ∙ are.pointers q ∙ other (pointer q) rows row (ap (shape_eq (pointer q)) is);
    arrays = λ of count. ap (λ (es : Arrays). arrays_in es of count) arrays
        ∙ are.arrays of count ∙ other (array of count) rows row (ap (shape_eq (array of count)) is);
    functions = λ x qs. updates x qs ∙ ap (cond (bytes_eq (x ∷ qs) (r ∷ ps)) (Some number)) (are.functions x qs)
        ∙ placed_back (function r ps) (function x qs) rows row number (bytes_eq (r ∷ ps) (x ∷ qs)) (bytes_eq (x ∷ qs) (r ∷ ps))
        (function_one r x ps qs) (function_one x r qs ps) is last none refl refl;
  };
}
