-- The parts of a line that is written: its word, and its arguments.
use Rattle.std.proofs.Common.{◌≡◌, ℕ, suc, ◌<◌, ◌≤◌, ◌^◌, Bool, true, false, cond, eqb, ◌&&◌, ◌||◌, lit<, lit≤, List, [], ◌∷◌, ◌++◌, drop, codes, IsTrue, Some, refl, ap, ◌∙◌, arith, append-nil}
use Rattle.std.proofs.lemmas.Bool.Decides.{nat_tests}
use Rattle.std.proofs.lemmas.Fmt.{decimal_is_IsNumeral_wide}
use Rattle.std.proofs.lemmas.Str.Parse.{digit_from_value}
use Rattle.std.specs.Fmt.{decimal}
use Rattle.std.specs.Str.Parse.{AllDigits}
use Rattle.std.specs.List.{list_all, AllByRecursion}
use lib.IntN.{pos, negsuc}
use Rattle.porch_flat.specs.whole.Flats.{is_name, is_letter, is_digit}
use Rattle.porch_flat_line.specs.declared.word.Word.{Word}
use Rattle.porch_flat_line.specs.declared.word.Word.TheVariants as word
use Rattle.porch_flat_line.specs.Words.{word_text}
use Rattle.porch_flat_line.specs.Text.{Argument, number, variable, constant, nowhere, void, name, argument_text, arguments_text, further_text, row, row_text}
use Rattle.porch_flat_text.specs.Fitting.{ArgumentFits}
use Rattle.porch_flat_text.specs.inside.Cuts.{before, behind, word_part, inner_part, first, rest}
use Rattle.porch_flat_text.specs.inside.FoundWords.{word_from}

-- no byte is the mark
abbrev pub none_of : ℕ → List ℕ → Bool
none_of mark [] = true
none_of mark (c ∷ cs) = cond (eqb c mark) false (none_of mark cs)

none_parts : (mark c : ℕ) (cs : List ℕ) (b : Bool) → eqb c mark ≡ b → none_of mark (c ∷ cs) ≡ true → (eqb c mark ≡ false) × (none_of mark cs ≡ true)
none_parts mark c cs true e h = cc
none_parts mark c cs false e h = (e, rw e at h)

none_more : (mark c : ℕ) (cs : List ℕ) → eqb c mark ≡ false → none_of mark cs ≡ true → none_of mark (c ∷ cs) ≡ true
none_more mark c cs e h = rw e h

pub none_append : (mark : ℕ) (xs ys : List ℕ) → none_of mark xs ≡ true → none_of mark ys ≡ true → none_of mark (xs ++ ys) ≡ true
none_append mark [] ys h k = k
none_append mark (c ∷ cs) ys h k =
    let p = none_parts mark c cs (eqb c mark) refl h in none_more mark c (cs ++ ys) p.0 (none_append mark cs ys p.1 k)

here : (mark : ℕ) → eqb mark mark ≡ true
here mark = grind (arith, nat_tests)

pub before_mark : (mark : ℕ) (xs ys : List ℕ) → none_of mark xs ≡ true → before mark (xs ++ mark ∷ ys) ≡ xs
before_mark mark [] ys h = rw (here mark) refl
before_mark mark (c ∷ cs) ys h =
    let p = none_parts mark c cs (eqb c mark) refl h in rw p.0 (ap (λ zs. c ∷ zs) (before_mark mark cs ys p.1))

pub behind_mark : (mark : ℕ) (xs ys : List ℕ) → none_of mark xs ≡ true → behind mark (xs ++ mark ∷ ys) ≡ ys
behind_mark mark [] ys h = rw (here mark) refl
behind_mark mark (c ∷ cs) ys h =
    let p = none_parts mark c cs (eqb c mark) refl h in rw p.0 (behind_mark mark cs ys p.1)

pub before_none : (mark : ℕ) (xs : List ℕ) → none_of mark xs ≡ true → before mark xs ≡ xs
before_none mark [] h = refl
before_none mark (c ∷ cs) h =
    let p = none_parts mark c cs (eqb c mark) refl h in rw p.0 (ap (λ zs. c ∷ zs) (before_none mark cs p.1))

pub behind_none : (mark : ℕ) (xs : List ℕ) → none_of mark xs ≡ true → behind mark xs ≡ []
behind_none mark [] h = refl
behind_none mark (c ∷ cs) h =
    let p = none_parts mark c cs (eqb c mark) refl h in rw p.0 (behind_none mark cs p.1)

-- what is written xs an argument has no bracket and no comma
no_digit : (mark c : ℕ) → mark < 45 → 48 ≤ c → eqb c mark ≡ false
no_digit mark c low digit = grind (arith, nat_tests)

digits_none : (mark : ℕ) (ds : List ℕ) → mark < 45 → AllDigits 10 ds → none_of mark ds ≡ true
digits_none mark [] low h = refl
digits_none mark (c ∷ cs) low h =
    none_more mark c cs (no_digit mark c low (digit_from_value c h.0).0) (digits_none mark cs low h.1)

decimal_none : (mark n : ℕ) → mark < 45 → n < 10 ^ 64 → none_of mark (decimal n) ≡ true
decimal_none mark n low fits = digits_none mark (decimal n) low (decimal_is_IsNumeral_wide n fits).0.1

and_parts : (a b : Bool) → IsTrue (a && b) → IsTrue a × IsTrue b
and_parts true b h = (refl, h)
and_parts false b h = cc

letter_high : (c : ℕ) → IsTrue (is_letter c || is_digit c) → 48 ≤ c
letter_high c h = grind (arith, nat_tests)

name_bytes_none : (mark : ℕ) (cs : List ℕ) → mark < 45 → IsTrue (list_all (λ d. is_letter d || is_digit d) cs) → none_of mark cs ≡ true
name_bytes_none mark [] low h = refl
name_bytes_none mark (c ∷ cs) low h =
    let p = and_parts (is_letter c || is_digit c) (list_all (λ d. is_letter d || is_digit d) cs) h in
    none_more mark c cs (no_digit mark c low (letter_high c p.0)) (name_bytes_none mark cs low p.1)

first_high : (c : ℕ) → IsTrue (is_letter c) → 48 ≤ c
first_high c h = grind (arith, nat_tests)

name_none : (mark : ℕ) (cs : List ℕ) → mark < 45 → IsTrue (is_name cs) → none_of mark cs ≡ true
name_none mark [] low h = refl
name_none mark (c ∷ cs) low h =
    let p = and_parts (is_letter c) (list_all (λ d. is_letter d || is_digit d) cs) h in
    none_more mark c cs (no_digit mark c low (first_high c p.0)) (name_bytes_none mark cs low p.1)

other : (mark c : ℕ) → mark < 45 → 45 ≤ c → eqb c mark ≡ false
other mark c low high = grind (arith, nat_tests)

pub argument_none : (mark : ℕ) (a : Argument) → mark < 45 → ArgumentFits a → none_of mark (argument_text a) ≡ true
argument_none mark (number n) low fits = decimal_none mark n low (omega arith)
argument_none mark (variable v) low fits = none_more mark 118 (decimal v) (other mark 118 low (lit≤ tt)) (decimal_none mark v low (omega arith))
argument_none mark (constant (pos n)) low fits = decimal_none mark n low (omega arith)
argument_none mark (constant (negsuc n)) low fits = none_more mark 45 (decimal (suc n)) (other mark 45 low (lit≤ tt)) (decimal_none mark (suc n) low (omega arith))
argument_none mark nowhere low fits = none_more mark 95 [] (other mark 95 low (lit≤ tt)) refl
argument_none mark void low fits =
    none_more mark 118 (111 ∷ 105 ∷ 100 ∷ []) (other mark 118 low (lit≤ tt)) (none_more mark 111 (105 ∷ 100 ∷ []) (other mark 111 low (lit≤ tt)) (none_more mark 105 (100 ∷ []) (other mark 105 low (lit≤ tt)) (none_more mark 100 [] (other mark 100 low (lit≤ tt)) refl)))
argument_none mark (name bytes) low fits = name_none mark bytes low fits

further_none : (xs : List Argument) → AllByRecursion ArgumentFits xs → none_of 41 (further_text xs) ≡ true
further_none [] fits = refl
further_none (a ∷ xs) fits = none_append 41 (argument_text a) (further_text xs) (argument_none 41 a (lit< tt) fits.0) (further_none xs fits.1)

arguments_none : (xs : List Argument) → AllByRecursion ArgumentFits xs → none_of 41 (arguments_text xs) ≡ true
arguments_none [] fits = refl
arguments_none (a ∷ xs) fits = none_append 41 (argument_text a) (further_text xs) (argument_none 41 a (lit< tt) fits.0) (further_none xs fits.1)

pub inner_written : (w : Word) (xs : List Argument) → none_of 40 (word_text w) ≡ true → AllByRecursion ArgumentFits xs → inner_part (row_text (row w xs)) ≡ arguments_text xs
inner_written w xs plain fits =
    ap (before 41) (behind_mark 40 (word_text w) (arguments_text xs ++ codes ");\n") plain) ∙ before_mark 41 (arguments_text xs) (codes ";\n") (arguments_none xs fits)

pub first_written : (a : Argument) (xs : List Argument) → ArgumentFits a → first (arguments_text (a ∷ xs)) ≡ argument_text a
first_written a [] fits = rw (append-nil (argument_text a)) (before_none 44 (argument_text a) (argument_none 44 a (lit< tt) fits))
first_written a (b ∷ bs) fits = before_mark 44 (argument_text a) (32 ∷ (argument_text b ++ further_text bs)) (argument_none 44 a (lit< tt) fits)

pub rest_written : (a : Argument) (xs : List Argument) → ArgumentFits a → rest (arguments_text (a ∷ xs)) ≡ arguments_text xs
rest_written a [] fits = rw (append-nil (argument_text a)) (ap (drop 1) (behind_none 44 (argument_text a) (argument_none 44 a (lit< tt) fits)))
rest_written a (b ∷ bs) fits = ap (drop 1) (behind_mark 44 (argument_text a) (32 ∷ (argument_text b ++ further_text bs)) (argument_none 44 a (lit< tt) fits))

-- each word has no bracket, and is found
pub word_plain : (w : Word) → none_of 40 (word_text w) ≡ true
word_plain word.Pointer = refl
word_plain word.Array = refl
word_plain word.Struct = refl
word_plain word.Global = refl
word_plain word.Init = refl
word_plain word.InitA = refl
word_plain word.Function = refl
word_plain word.Var = refl
word_plain word.Begin = refl
word_plain word.End = refl
word_plain word.Move = refl
word_plain word.Cast = refl
word_plain word.Add = refl
word_plain word.Sub = refl
word_plain word.Mul = refl
word_plain word.Div = refl
word_plain word.Rem = refl
word_plain word.And = refl
word_plain word.Or = refl
word_plain word.Xor = refl
word_plain word.Shl = refl
word_plain word.Shr = refl
word_plain word.Not = refl
word_plain word.Lt = refl
word_plain word.Le = refl
word_plain word.Eq = refl
word_plain word.Ne = refl
word_plain word.Local = refl
word_plain word.GlobalA = refl
word_plain word.Member = refl
word_plain word.Step = refl
word_plain word.Back = refl
word_plain word.Diff = refl
word_plain word.Load = refl
word_plain word.Store = refl
word_plain word.Copy = refl
word_plain word.Kill = refl
word_plain word.Alloc = refl
word_plain word.Calloc = refl
word_plain word.Free = refl
word_plain word.Char = refl
word_plain word.Dec = refl
word_plain word.Hex = refl
word_plain word.Text = refl
word_plain word.Label = refl
word_plain word.Jump = refl
word_plain word.If = refl
word_plain word.Turn = refl
word_plain word.Call = refl
word_plain word.Return = refl
word_plain word.Checkpoint = refl
word_plain word.Restore = refl
word_plain word.Table = refl
word_plain word.Saved = refl
word_plain word.Push = refl

pub word_found : (w : Word) → word_from (word_text w) ≡ Some w
word_found word.Pointer = refl
word_found word.Array = refl
word_found word.Struct = refl
word_found word.Global = refl
word_found word.Init = refl
word_found word.InitA = refl
word_found word.Function = refl
word_found word.Var = refl
word_found word.Begin = refl
word_found word.End = refl
word_found word.Move = refl
word_found word.Cast = refl
word_found word.Add = refl
word_found word.Sub = refl
word_found word.Mul = refl
word_found word.Div = refl
word_found word.Rem = refl
word_found word.And = refl
word_found word.Or = refl
word_found word.Xor = refl
word_found word.Shl = refl
word_found word.Shr = refl
word_found word.Not = refl
word_found word.Lt = refl
word_found word.Le = refl
word_found word.Eq = refl
word_found word.Ne = refl
word_found word.Local = refl
word_found word.GlobalA = refl
word_found word.Member = refl
word_found word.Step = refl
word_found word.Back = refl
word_found word.Diff = refl
word_found word.Load = refl
word_found word.Store = refl
word_found word.Copy = refl
word_found word.Kill = refl
word_found word.Alloc = refl
word_found word.Calloc = refl
word_found word.Free = refl
word_found word.Char = refl
word_found word.Dec = refl
word_found word.Hex = refl
word_found word.Text = refl
word_found word.Label = refl
word_found word.Jump = refl
word_found word.If = refl
word_found word.Turn = refl
word_found word.Call = refl
word_found word.Return = refl
word_found word.Checkpoint = refl
word_found word.Restore = refl
word_found word.Table = refl
word_found word.Saved = refl
word_found word.Push = refl

pub word_written : (w : Word) (xs : List Argument) → word_from (word_part (row_text (row w xs))) ≡ Some w
word_written w xs = ap word_from (before_mark 40 (word_text w) (arguments_text xs ++ codes ");\n") (word_plain w)) ∙ word_found w
