-- Lists of parts, one part after another.
use Rattle.std.proofs.Common.{◌≡◌, ℕ, suc, ◌+◌, ◌<◌, List, [], ◌∷◌, ◌++◌, map, drop, length, get_or, refl, sym, ap, ◌∙◌, add-one, drop-cons, append_assoc}
use Rattle.std.proofs.lemmas.List.{map-append}
use Rattle.porch_typed.specs.declared.typed.Operator.{Operator}
use Rattle.porch_typed.specs.declared.typed.Expression as code_expression
use Rattle.porch_typed.specs.declared.typed.Print as code_print
use Rattle.porch_typed.specs.Mirror.{Expression, with_expression, Print, with_print, with_step}
use Rattle.porch_typed.specs.Views.{expression_of, expressions_of, print_of, prints_of, steps_of}
use Rattle.porch_check.specs.Sealing.{sealed, sealed_all, sealed_print, sealed_prints, sealed_operator, sealed_steps}
use Rattle.porch_sealed.specs.inside.Steps.{step_of, sealed_step}

-- an item in front of a list
item_in_front : {A : Type 0} (xs : List A) (i : ℕ) (x : A) → i < length xs → x ≡ get_or xs i x → drop i xs ≡ x ∷ drop (i + 1) xs
item_in_front xs i x h is =
    drop-cons xs i x h ∙ ap (λ y. y ∷ drop (suc i) xs) (sym is) ∙ ap (λ k. x ∷ drop k xs) (sym (add-one i))

-- one more part is changed, where the others are left
pub one_more : {A B : Type 0} (view : A → B) (f : B → B) (xs out new : List A) (whole : List B) (i : ℕ) (x y : A)
    → i < length xs → x ≡ get_or xs i x → view y ≡ f (view x) → new ≡ out ++ y ∷ []
    → map view out ++ map f (map view (drop i xs)) ≡ whole
    → map view new ++ map f (map view (drop (i + 1) xs)) ≡ whole
one_more view f xs out new whole i x y h is same put before =
    let left = map f (map view (drop (i + 1) xs)) in
    ap (λ ys. map view ys ++ left) put
    ∙ ap (λ ys. ys ++ left) (map-append view out (y ∷ []))
    ∙ append_assoc (map view out) (view y ∷ []) left
    ∙ ap (λ z. map view out ++ z ∷ left) same
    ∙ ap (λ ys. map view out ++ map f (map view ys)) (sym (item_in_front xs i x h is))
    ∙ before

-- Whole lists.

all_are : (f : ℕ → ℕ) (es : List Expression) → expressions_of (map (sealed f) es) ≡ sealed_all f (expressions_of es)
all_are f [] = refl
all_are f (e ∷ es) = ap (with_expression (sealed f e)) (all_are f es)

pub all_expressions : (f : ℕ → ℕ) (es out new : List code_expression.Expression) → out ≡ []
    → map expression_of new ≡ map expression_of out ++ map (sealed f) (map expression_of es)
    → expressions_of (map expression_of new) ≡ sealed_all f (expressions_of (map expression_of es))
all_expressions f es out new none put =
    ap expressions_of (put ∙ ap (λ xs. map expression_of xs ++ map (sealed f) (map expression_of es)) none)
    ∙ all_are f (map expression_of es)

steps_are : (f : ℕ → ℕ) (xs : List (Operator × Expression)) → steps_of (map (sealed_step f) xs) ≡ sealed_steps f (steps_of xs)
steps_are f [] = refl
steps_are f (x ∷ xs) = ap (with_step (sealed_operator f x.0) (sealed f x.1)) (steps_are f xs)

pub all_steps : (f : ℕ → ℕ) (xs out new : List (Operator × code_expression.Expression)) → out ≡ []
    → map step_of new ≡ map step_of out ++ map (sealed_step f) (map step_of xs)
    → steps_of (map step_of new) ≡ sealed_steps f (steps_of (map step_of xs))
all_steps f xs out new none put =
    ap steps_of (put ∙ ap (λ ys. map step_of ys ++ map (sealed_step f) (map step_of xs)) none)
    ∙ steps_are f (map step_of xs)

prints_are : (f : ℕ → ℕ) (ps : List Print) → prints_of (map (sealed_print f) ps) ≡ sealed_prints f (prints_of ps)
prints_are f [] = refl
prints_are f (p ∷ ps) = ap (with_print (sealed_print f p)) (prints_are f ps)

pub all_prints : (f : ℕ → ℕ) (ps out new : List code_print.Print) → out ≡ []
    → map print_of new ≡ map print_of out ++ map (sealed_print f) (map print_of ps)
    → prints_of (map print_of new) ≡ sealed_prints f (prints_of (map print_of ps))
all_prints f ps out new none put =
    ap prints_of (put ∙ ap (λ xs. map print_of xs ++ map (sealed_print f) (map print_of ps)) none)
    ∙ prints_are f (map print_of ps)
