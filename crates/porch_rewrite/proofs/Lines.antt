-- The lines of the rewritten program, each held against the rules by what its line of the plain program keeps.
use Rattle.std.proofs.Common.{◌≡◌, ℕ, zero, suc, ◌+◌, List, [], ◌∷◌, ◌++◌, refl, sym, ◌∙◌, subst, arith, Bool, true, false, Some, None}
use Rattle.std.specs.Prelude.{slice_get, nat_lt, ◌-◌, if◌then◌else◌, ⊤}
use Rattle.std.proofs.lemmas.Bool.Decides.{nat_tests}
use Rattle.porch_flat.specs.declared.whole.Flat.{Flat}
use Rattle.porch_flat.specs.declared.whole.FlatRule.{FlatRule}
use Rattle.porch_flat.specs.declared.whole.Sort.TheVariants as sort
use Rattle.porch_flat.specs.whole.Lines.{Line, lines_of, line_at}
use Rattle.porch_flat.specs.whole.Rules.{keeps, IsValid}

-- each element of a list
abbrev pub Each : {X : Type 0} → (X → Type 0) → List X → Type 0
Each P [] = ⊤
Each P (x ∷ xs) = P x × Each P xs

pub each_append : {X : Type 0} (P : X → Type 0) (xs ys : List X) → Each P xs → Each P ys → Each P (xs ++ ys)
each_append P [] ys a b = b
each_append P (x ∷ xs) ys a b = (a.0, each_append P xs ys a.1 b)

pub each_first : {X : Type 0} (P : X → Type 0) (xs ys : List X) → Each P (xs ++ ys) → Each P xs
each_first P [] ys h = tt
each_first P (x ∷ xs) ys h = (h.0, each_first P xs ys h.1)

pub each_second : {X : Type 0} (P : X → Type 0) (xs ys : List X) → Each P (xs ++ ys) → Each P ys
each_second P [] ys h = h
each_second P (x ∷ xs) ys h = each_second P xs ys h.1

each_at : {X : Type 0} (P : X → Type 0) (xs : List X) (i : ℕ) (x : X) → slice_get xs i ≡ Some x → Each P xs → P x
each_at P [] i x h each = absurd (cc)
each_at P (y ∷ xs) zero x h each = let same : y ≡ x = cc in subst P same each.0
each_at P (y ∷ xs) (suc i) x h each = each_at P xs i x h each.1

each_from : {X : Type 0} (P : X → Type 0) (xs : List X) → ((i : ℕ) (x : X) → slice_get xs i ≡ Some x → P x) → Each P xs
each_from P [] h = tt
each_from P (x ∷ xs) h = (h 0 x refl, each_from P xs (λ i y at. h (suc i) y at))

below_head : (p : ℕ) → nat_lt (p + 3) 3 ≡ false
below_head p = grind (arith, nat_tests)

line_of : (flat : Flat) (p : ℕ) → line_at flat (p + 3) ≡ slice_get (lines_of flat) p
line_of flat p = let same : p + 3 - 3 ≡ p = omega arith in rw (below_head p, same) refl

no_head : (flat : Flat) (number : ℕ) (b : Bool) → nat_lt number 3 ≡ b → (line : Line) → line_at flat number ≡ Some line → (b ≡ false) × (slice_get (lines_of flat) (number - 3) ≡ Some line)
no_head flat number true is line h = absurd (let none : line_at flat number ≡ None = rw is refl in let no : None ≡ Some line = sym none ∙ h in cc)
no_head flat number false is line h = (refl, subst (λ b. (if b then None else slice_get (lines_of flat) (number - 3)) ≡ Some line) is h)

abbrev pub Keeps : (program : Flat) → (rewritten : Bool) → Line → Type 0
Keeps program true line = (r : FlatRule) → keeps sort.Rewritten program r line ≡ true
Keeps program false line = (r : FlatRule) → keeps sort.Plain program r line ≡ true

pub lines_kept : (flat : Flat) → IsValid sort.Plain flat → Each (Keeps flat false) (lines_of flat)
lines_kept flat valid = each_from (Keeps flat false) (lines_of flat) (λ i line at r. valid.lines (i + 3) line r (line_of flat i ∙ at))

pub valid_by_lines : (made : Flat) → Each (Keeps made true) (lines_of made) → (main : Rattle.porch_flat.specs.whole.Rules.has_main made ≡ true) → IsValid sort.Rewritten made
valid_by_lines made each main = record {
  lines = λ number line r at. (each_at (Keeps made true) (lines_of made) (number - 3) line (no_head made number (nat_lt number 3) refl line at).1 each) r;
  main = main;
}
