-- What is written of a number, an operand or a list is read again.
use Rattle.std.proofs.Common.{◌≡◌, ◌⊎◌, inl, inr, ℕ, ℤ, zero, suc, ◌+◌, ◌-◌, ◌*◌, ◌<◌, ◌≤◌, ◌^◌, min, false, eqb, lit<, List, [], ◌∷◌, map, length, Option, Some, None, refl, sym, ap, ◌∙◌, arith, length-append, rules}
use Rattle.std.proofs.lemmas.Bool.Decides.{nat_tests}
use Rattle.std.proofs.lemmas.Fmt.{decimal_is_IsNumeral_wide}
use Rattle.std.proofs.lemmas.Str.Parse.{digit_from_value, IsNumeralModel, numerals_by_fold, tells_digits}
use Rattle.std.specs.Fmt.{decimal, signed_decimal}
use Rattle.std.specs.Str.Parse.{AllDigits}
use Rattle.std.specs.List.{AllByRecursion}
use lib.IntN.{pos, negsuc, neg_ℤ}
use Rattle.std.specs.Int.RustNames.{FitsSigned}
use mir.Syntax.{w128}
use Rattle.porch_flat.specs.declared.flat.Operand.{Operand}
use Rattle.porch_flat.specs.declared.flat.Operand.TheVariants.{Var, Constant}
use Rattle.porch_flat_line.specs.Text.{Argument, number, variable, constant, nowhere, void, name, argument_text, arguments_text, further_text, operand, target, result_type, operand_list}
use Rattle.porch_flat_text.specs.Fitting.{ArgumentFits}
use Rattle.porch_flat_text.specs.inside.Numbers.{number_after, number_in, magnitude_in, constant_in, variable_in, operand_in, operand_if_any, target_in, result_type_in}
use Rattle.porch_flat_text.specs.inside.Cuts.{first, rest, each_in}
use Rattle.porch_flat_text.proofs.Written.{first_written, rest_written}

-- the number that digits stand for, behind a number so far
abbrev read_on : ℕ → List ℕ → ℕ
read_on n [] = n
read_on n (c ∷ cs) = read_on (n * 10 + (c - 48)) cs

own : IsNumeralModel (AllDigits 10) (read_on 0)
own = numerals_by_fold (AllDigits 10) tells_digits read_on (search rules)

capped : (most n d : ℕ) → min (min (min n most * 10) most + d) most ≡ min (n * 10 + d) most
capped most n d = omega arith

number_capped : (most n : ℕ) (cs : List ℕ) → number_after most (min n most) cs ≡ min (read_on n cs) most
number_capped most n [] = refl
number_capped most n (c ∷ cs) = rw (capped most n (c - 48)) (number_capped most (n * 10 + (c - 48)) cs)

number_read : (most n : ℕ) → n ≤ most → n < 10 ^ 64 → number_after most 0 (decimal n) ≡ n
number_read most n fits small =
    let d = decimal_is_IsNumeral_wide n small in
    let same : read_on 0 (decimal n) ≡ n = own.same (decimal n) d.0.1 ∙ d.1 in
    let start : number_after most (min 0 most) (decimal n) ≡ min (read_on 0 (decimal n)) most = number_capped most 0 (decimal n) in
    let zero_first : min 0 most ≡ 0 = omega arith in
    ap (λ z. number_after most z (decimal n)) (sym zero_first) ∙ start ∙ ap (λ z. min z most) same ∙ omega arith

pub number_again : (n : ℕ) → n < 2 ^ 32 → number_in (decimal n) ≡ n
number_again n fits = number_read 4294967295 n (omega arith) (omega arith)

magnitude_again : (n : ℕ) → n < 2 ^ 128 → magnitude_in (decimal n) ≡ n
magnitude_again n fits = number_read 340282366920938463463374607431768211455 n (omega arith) (omega arith)

-- the first digit, and those behind it
record Digits (ds : List ℕ) : Type 0 where
  digit : ℕ
  more : List ℕ
  are : ds ≡ digit ∷ more
  low : 48 ≤ digit
  high : digit ≤ 57

digits_first : (ds : List ℕ) → 0 < length ds → AllDigits 10 ds → Digits ds
digits_first [] some h = absurd (omega arith)
digits_first (c ∷ cs) some h = let range = digit_from_value c h.0 in record { digit = c; more = cs; are = refl; low = range.0; high = range.1 }

decimal_first : (n : ℕ) → n < 10 ^ 64 → Digits (decimal n)
decimal_first n small = let d = decimal_is_IsNumeral_wide n small in digits_first (decimal n) d.0.0 d.0.1

unlike : (c d : ℕ) → (c < d) ⊎ (d < c) → eqb c d ≡ false
unlike c d h = grind (arith, nat_tests)

constant_by_digit : (c : ℕ) (cs : List ℕ) → 48 ≤ c → constant_in (c ∷ cs) ≡ pos (min (magnitude_in (c ∷ cs)) 170141183460469231731687303715884105727)
constant_by_digit c cs low = rw (unlike c 45 (inr (omega arith))) refl

constant_of_digits : (ds : List ℕ) (n : ℕ) → Digits ds → n < 2 ^ 127 → magnitude_in ds ≡ n → constant_in ds ≡ pos n
constant_of_digits ds n d fits m =
    ap constant_in d.are ∙ constant_by_digit d.digit d.more d.low
    ∙ ap (λ k. pos (min k 170141183460469231731687303715884105727)) (ap magnitude_in (sym d.are) ∙ m)
    ∙ ap pos (omega arith)

pub constant_again : (z : ℤ) → FitsSigned w128 z → constant_in (signed_decimal z) ≡ z
constant_again (pos n) fits = constant_of_digits (decimal n) n (decimal_first n (omega (arith, fits))) (omega (arith, fits)) (magnitude_again n (omega (arith, fits)))
constant_again (negsuc n) fits =
    let same : min (suc n) 170141183460469231731687303715884105728 ≡ suc n = omega (arith, fits) in
    ap (λ k. neg_ℤ (pos (min k 170141183460469231731687303715884105728))) (magnitude_again (suc n) (omega (arith, fits)))
    ∙ ap (λ k. neg_ℤ (pos k)) same

pub variable_again : (v : ℕ) → ArgumentFits (variable v) → variable_in (argument_text (variable v)) ≡ v
variable_again v fits = number_again v fits

by_sign : (c : ℕ) (cs : List ℕ) → (c < 118) → operand_in (c ∷ cs) ≡ Constant (constant_in (c ∷ cs))
by_sign c cs low = rw (unlike c 118 (inl low)) refl

of_digits : (ds : List ℕ) → Digits ds → operand_in ds ≡ Constant (constant_in ds)
of_digits ds d = ap operand_in d.are ∙ by_sign d.digit d.more (omega (arith, d.high)) ∙ ap (λ xs. Constant (constant_in xs)) (sym d.are)

pub operand_again : (o : Operand) → ArgumentFits (operand o) → operand_in (argument_text (operand o)) ≡ o
operand_again (Var v) fits = ap Var (number_again v fits)
operand_again (Constant (pos n)) fits = of_digits (decimal n) (decimal_first n (omega (arith, fits))) ∙ ap Constant (constant_again (pos n) fits)
operand_again (Constant (negsuc n)) fits = by_sign 45 (decimal (suc n)) (lit< tt) ∙ ap Constant (constant_again (negsuc n) fits)

some_operand : (ds : List ℕ) → Digits ds → operand_if_any ds ≡ Some (operand_in ds)
some_operand ds d = ap operand_if_any d.are ∙ ap (λ xs. Some (operand_in xs)) (sym d.are)

pub operand_list_again : (o : Option Operand) → AllByRecursion ArgumentFits (operand_list o) → operand_if_any (first (arguments_text (operand_list o))) ≡ o
operand_list_again None fits = refl
operand_list_again (Some (Var v)) fits = ap operand_if_any (first_written (variable v) [] fits.0) ∙ ap Some (operand_again (Var v) fits.0)
operand_list_again (Some (Constant (pos n))) fits =
    ap operand_if_any (first_written (constant (pos n)) [] fits.0) ∙ some_operand (decimal n) (decimal_first n (omega (arith, fits.0)))
    ∙ ap Some (operand_again (Constant (pos n)) fits.0)
operand_list_again (Some (Constant (negsuc n))) fits =
    ap operand_if_any (first_written (constant (negsuc n)) [] fits.0) ∙ ap Some (operand_again (Constant (negsuc n)) fits.0)

pub target_again : (r : Option ℕ) → ArgumentFits (target r) → target_in (argument_text (target r)) ≡ r
target_again None fits = refl
target_again (Some v) fits = ap Some (number_again v fits)

type_by_digit : (c : ℕ) (cs : List ℕ) → (c < 118) → result_type_in (c ∷ cs) ≡ Some (number_in (c ∷ cs))
type_by_digit c cs low = rw (unlike c 118 (inl low)) refl

type_of_digits : (ds : List ℕ) → Digits ds → result_type_in ds ≡ Some (number_in ds)
type_of_digits ds d = ap result_type_in d.are ∙ type_by_digit d.digit d.more (omega (arith, d.high)) ∙ ap (λ xs. Some (number_in xs)) (sym d.are)

pub result_type_again : (r : Option ℕ) → ArgumentFits (result_type r) → result_type_in (argument_text (result_type r)) ≡ r
result_type_again None fits = refl
result_type_again (Some ty) fits = type_of_digits (decimal ty) (decimal_first ty (omega (arith, fits))) ∙ ap Some (number_again ty fits)

-- an argument has a byte
pub some_text : (a : Argument) → ArgumentFits a → 0 < length (argument_text a)
some_text (number n) fits = (decimal_is_IsNumeral_wide n (omega arith)).0.0
some_text (variable v) fits = omega arith
some_text (constant (pos n)) fits = (decimal_is_IsNumeral_wide n (omega (arith, fits))).0.0
some_text (constant (negsuc n)) fits = omega arith
some_text nowhere fits = lit< tt
some_text void fits = lit< tt
some_text (name []) fits = cc
some_text (name (c ∷ cs)) fits = omega arith

-- lists of one sort of arguments
each_read : {X : Type 0} (f : List ℕ → X) (k : ℕ) (s t : List ℕ) → 0 < length s → f (first s) ≡ f t → each_in f (suc k) s ≡ f t ∷ each_in f k (rest s)
each_read f k [] t some e = absurd (omega arith)
each_read f k (c ∷ cs) t some e = ap (λ x. x ∷ each_in f k (rest (c ∷ cs))) e

module _ {X : Type 0} (f : List ℕ → X) (sort : X → Argument) (again : (x : X) → ArgumentFits (sort x) → f (argument_text (sort x)) ≡ x) where
  each_again : (k : ℕ) (xs : List X) → length xs ≤ k → AllByRecursion ArgumentFits (map sort xs) → each_in f k (arguments_text (map sort xs)) ≡ xs
  each_again zero [] few fits = refl
  each_again (suc k) [] few fits = refl
  each_again zero (x ∷ xs) few fits = absurd (omega arith)
  each_again (suc k) (x ∷ xs) few fits =
      let some : 0 < length (arguments_text (map sort (x ∷ xs))) = rw (length-append (argument_text (sort x)) (further_text (map sort xs))) (omega (arith, some_text (sort x) fits.0)) in
      each_read f k (arguments_text (map sort (x ∷ xs))) (argument_text (sort x)) some (ap f (first_written (sort x) (map sort xs) fits.0))
      ∙ ap (λ z. z ∷ each_in f k (rest (arguments_text (map sort (x ∷ xs))))) (again x fits.0)
      ∙ ap (λ s. x ∷ each_in f k s) (rest_written (sort x) (map sort xs) fits.0)
      ∙ ap (λ zs. x ∷ zs) (each_again k xs (omega arith) fits.1)

  further_long : (xs : List X) → AllByRecursion ArgumentFits (map sort xs) → length xs ≤ length (further_text (map sort xs))
  further_long [] fits = omega arith
  further_long (x ∷ xs) fits = omega (arith, further_long xs fits.1, length-append (argument_text (sort x)) (further_text (map sort xs)))

  list_long : (xs : List X) → AllByRecursion ArgumentFits (map sort xs) → length xs ≤ length (arguments_text (map sort xs))
  list_long [] fits = omega arith
  list_long (x ∷ xs) fits =
      omega (arith, some_text (sort x) fits.0, further_long xs fits.1, length-append (argument_text (sort x)) (further_text (map sort xs)))

  pub list_again : (xs : List X) → AllByRecursion ArgumentFits (map sort xs)
      → each_in f (length (arguments_text (map sort xs))) (arguments_text (map sort xs)) ≡ xs
  list_again xs fits = each_again (length (arguments_text (map sort xs))) xs (list_long xs fits) fits
