-- How far the parts of a text reach, and how they are found from place to place.
use Rattle.std.proofs.Common.{◌≡◌, ℕ, zero, suc, ◌+◌, ◌-◌, ◌<◌, ◌==◌, Bool, true, false, if◌then◌else◌, List, [], ◌∷◌, length, get_or, drop, Option, Some, None, refl, sym, ap, ◌∙◌, subst, arith, add-one, drop-cons, drop-drop}
use Rattle.porch_lex.specs.Literals.{counted_more, string_from, string_more, character_length}
use Rattle.porch_lex.specs.Gaps.{is_comment_end, comment_length}

pub counted_none : (o : Option ℕ) → counted_more 0 o ≡ o
counted_none None = refl
counted_none (Some n) = let e : n + 0 ≡ n = omega arith in ap Some e

pub counted_twice : (j k : ℕ) (o : Option ℕ) → counted_more j (counted_more k o) ≡ counted_more (j + k) o
counted_twice j k None = refl
counted_twice j k (Some n) = let e : n + k + j ≡ n + (j + k) = omega arith in ap Some e

-- a text from a place on
pub from_place : (xs : List ℕ) (i : ℕ) → i < length xs → drop i xs ≡ get_or xs i 0 ∷ drop (i + 1) xs
from_place xs i h = rw (add-one, drop-cons xs i 0) refl

pub if_false : (b : Bool) (x y : Option ℕ) → b ≡ false → (if b then x else y) ≡ y
if_false true x y h = cc
if_false false x y h = refl

pub if_true : (b : Bool) (x y : Option ℕ) → b ≡ true → (if b then x else y) ≡ x
if_true true x y h = refl
if_true false x y h = cc

-- Comments.

goes_at : (xs : List ℕ) (c : ℕ) (cs : List ℕ) → xs ≡ c ∷ cs → is_comment_end xs ≡ false → comment_length xs ≡ counted_more 1 (comment_length cs)
goes_at xs c cs e h =
    let no : is_comment_end (c ∷ cs) ≡ false = subst (λ (x : List ℕ). is_comment_end x ≡ false) e h in
    ap comment_length e ∙ if_false (is_comment_end (c ∷ cs)) (Some 2) _ no

pub comment_goes : (xs : List ℕ) (i : ℕ) → i < length xs → is_comment_end (drop i xs) ≡ false
    → comment_length xs ≡ counted_more i (comment_length (drop i xs))
    → comment_length xs ≡ counted_more (i + 1) (comment_length (drop (i + 1) xs))
comment_goes xs i l h e =
    e ∙ ap (counted_more i) (goes_at (drop i xs) (get_or xs i 0) (drop (i + 1) xs) (from_place xs i l) h)
    ∙ counted_twice i 1 (comment_length (drop (i + 1) xs))

stops_at : (xs : List ℕ) → is_comment_end xs ≡ true → comment_length xs ≡ Some 2
stops_at [] h = cc
stops_at (c ∷ cs) h = if_true (is_comment_end (c ∷ cs)) (Some 2) _ h

pub comment_stops : (xs : List ℕ) (i : ℕ) → is_comment_end (drop i xs) ≡ true
    → comment_length xs ≡ counted_more i (comment_length (drop i xs)) → Some (i + 2) ≡ comment_length xs
comment_stops xs i h e =
    let two : 2 + i ≡ i + 2 = omega arith in
    sym (e ∙ ap (counted_more i) (stops_at (drop i xs) h) ∙ ap Some two)

-- String literals.

pub skipped : (cs : List ℕ) (k : ℕ) → string_from cs k ≡ counted_more k (string_from (drop k cs) 0)
skipped [] zero = refl
skipped [] (suc k) = refl
skipped (c ∷ cs) zero = sym (counted_none (string_from (c ∷ cs) 0))
skipped (c ∷ cs) (suc k) =
    let one : 1 + k ≡ suc k = omega arith in
    ap (counted_more 1) (skipped cs k) ∙ counted_twice 1 k (string_from (drop k cs) 0)
    ∙ ap (λ (j : ℕ). counted_more j (string_from (drop k cs) 0)) one

abbrev pub head_is : List ℕ → ℕ → Bool
head_is xs c = get_or xs 0 0 == c

step_at : (c : ℕ) (cs : List ℕ) (n : ℕ) → (c == 34) ≡ false → Some n ≡ character_length 34 (c ∷ cs) → 0 < n
    → string_from (c ∷ cs) 0 ≡ counted_more n (string_from (drop n (c ∷ cs)) 0)
step_at c cs zero h e some = absurd (omega (arith, some))
step_at c cs (suc n) h e some =
    let less : suc n - 1 ≡ n = omega arith in
    if_false (c == 34) (Some 1) (string_more (character_length 34 (c ∷ cs)) (string_from cs)) h
    ∙ ap (λ (o : Option ℕ). string_more o (string_from cs)) (sym e)
    ∙ ap (λ (j : ℕ). counted_more 1 (string_from cs j)) less
    ∙ skipped (c ∷ cs) (suc n)

pub string_goes : (xs : List ℕ) (i n : ℕ) → i < length xs → (get_or xs i 0 == 34) ≡ false
    → Some n ≡ character_length 34 (drop i xs) → 0 < n
    → string_from xs 0 ≡ counted_more i (string_from (drop i xs) 0)
    → string_from xs 0 ≡ counted_more (i + n) (string_from (drop (i + n) xs) 0)
string_goes xs i n l h e some go =
    let at = from_place xs i l in
    let one : string_from (drop i xs) 0 ≡ counted_more n (string_from (drop n (drop i xs)) 0) =
    subst (λ (ys : List ℕ). string_from ys 0 ≡ counted_more n (string_from (drop n ys) 0)) (sym at)
    (step_at (get_or xs i 0) (drop (i + 1) xs) n h (e ∙ ap (character_length 34) at) some) in
    go ∙ ap (counted_more i) one ∙ counted_twice i n (string_from (drop n (drop i xs)) 0)
    ∙ ap (λ (ys : List ℕ). counted_more (i + n) (string_from ys 0)) (drop-drop n i xs)

pub string_stops : (xs : List ℕ) (i : ℕ) → i < length xs → (get_or xs i 0 == 34) ≡ true
    → string_from xs 0 ≡ counted_more i (string_from (drop i xs) 0) → Some (i + 1) ≡ string_from xs 0
string_stops xs i l h go =
    let one : 1 + i ≡ i + 1 = omega arith in
    sym (go ∙ ap (λ (ys : List ℕ). counted_more i (string_from ys 0)) (from_place xs i l)
    ∙ ap (counted_more i) (if_true (get_or xs i 0 == 34) (Some 1) _ h) ∙ ap Some one)

wrong_at : (c : ℕ) (cs : List ℕ) → (c == 34) ≡ false → None ≡ character_length 34 (c ∷ cs) → string_from (c ∷ cs) 0 ≡ None
wrong_at c cs h e = if_false (c == 34) (Some 1) _ h ∙ ap (λ (o : Option ℕ). string_more o (string_from cs)) (sym e)

pub string_wrong : (xs : List ℕ) (i : ℕ) → i < length xs → (get_or xs i 0 == 34) ≡ false
    → None ≡ character_length 34 (drop i xs)
    → string_from xs 0 ≡ counted_more i (string_from (drop i xs) 0) → None ≡ string_from xs 0
string_wrong xs i l h e go =
    let at = from_place xs i l in
    sym (go ∙ ap (λ (ys : List ℕ). counted_more i (string_from ys 0)) at
    ∙ ap (counted_more i) (wrong_at (get_or xs i 0) (drop (i + 1) xs) h (e ∙ ap (character_length 34) at)))
