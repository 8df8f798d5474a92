-- The type that the last parts make is what the others go on from.
use Rattle.std.proofs.Common.{◌≡◌, ℕ, zero, suc, ◌<◌, List, [], ◌∷◌, drop, map, length, get_or, Ok, Err, refl, ap, sym, ◌∙◌, arith}
use Rattle.porch_lex.specs.declared.refusal.Refusal.{Refusal}
use Rattle.porch_lex.specs.declared.refusal.SourceFault.{SourceFault}
use Rattle.porch_lex.specs.declared.refusal.SourceFault.TheVariants as fault
use Rattle.porch_check.specs.Scopes.{Scopes}
use Rattle.porch_check.specs.Operands.{go_on}
use Rattle.porch_check.specs.Declarations.{Part, part_type, part_at, type_of_parts}
use Rattle.porch_scopes.specs.Answers.{IsRefusalOf}
use Rattle.porch_declarators.specs.declared.part.Part as code_part
use Rattle.porch_declarators.specs.Views.{as_part}

-- a rule that the last parts break is broken by all
refused_all : (ps : List Part) (i base : ℕ) (s : Scopes) (r : Refusal)
    → type_of_parts (drop i ps) base s ≡ Err r → type_of_parts ps base s ≡ Err r
refused_all ps zero base s r h = h
refused_all [] (suc i) base s r h = h
refused_all (p ∷ ps) (suc i) base s r h = ap (λ x. go_on x (part_type p)) (refused_all ps i base s r h)

-- one part more
one_more : {A B : Type 0} (f : A → B) (xs : List A) (i : ℕ) (x : A) → i < length xs → x ≡ get_or xs i x
    → drop i (map f xs) ≡ f x ∷ drop (suc i) (map f xs)
one_more f [] i x h e = absurd (omega arith)
one_more f (y ∷ xs) zero x h e = ap (λ z. f z ∷ map f xs) (sym e)
one_more f (y ∷ xs) (suc i) x h e = one_more f xs i x (omega arith) e

-- the part in front of those that made a type makes the next one
pub typed_more : {A : Type 0} (f : A → Part) (xs : List A) (i j : ℕ) (x : A) (base n : ℕ) (s t : Scopes)
    → i < length xs → x ≡ get_or xs i x → j ≡ suc i → type_of_parts (drop j (map f xs)) base s ≡ Ok (n, t)
    → type_of_parts (drop i (map f xs)) base s ≡ part_type (f x) n t
typed_more f xs i j x base n s t h e next made =
    ap (λ ps. type_of_parts ps base s) (one_more f xs i x h e)
    ∙ ap (λ r. go_on r (part_type (f x))) (ap (λ k. type_of_parts (drop k (map f xs)) base s) (sym next) ∙ made)

twice : {A B C : Type 0} (f : B → C) (g : A → B) (xs : List A) → map f (map g xs) ≡ map (λ x. f (g x)) xs
twice f g [] = refl
twice f g (x ∷ xs) = ap (λ ys. f (g x) ∷ ys) (twice f g xs)

-- the same where all parts are placed elsewhere
pub typed_more_at : (at : ℕ) (xs : List code_part.Part) (i j : ℕ) (x : code_part.Part) (base n : ℕ) (s t : Scopes)
    → i < length xs → x ≡ get_or xs i x → j ≡ suc i → type_of_parts (drop j (map (part_at at) (map as_part xs))) base s ≡ Ok (n, t)
    → type_of_parts (drop i (map (part_at at) (map as_part xs))) base s ≡ part_type (part_at at (as_part x)) n t
typed_more_at at xs i j x base n s t h e next made =
    let same = twice (part_at at) as_part xs in
    ap (λ ps. type_of_parts (drop i ps) base s) same
    ∙ typed_more (λ y. part_at at (as_part y)) xs i j x base n s t h e next
    (ap (λ ps. type_of_parts (drop j ps) base s) (sym same) ∙ made)

-- a rule that this part breaks is broken by all
pub refused_by : (ps : List Part) (i base : ℕ) (s : Scopes) (e : SourceFault)
    → IsRefusalOf e (type_of_parts (drop i ps) base s) → IsRefusalOf e (type_of_parts ps base s)
refused_by ps i base s (fault.Refused r) h = refused_all ps i base s r h
refused_by ps i base s fault.NoMemory h = h
