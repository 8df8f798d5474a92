-- One star more stands behind those so far.
use Rattle.std.proofs.Common.{◌≡◌, ℕ, zero, suc, ◌+◌, ◌<◌, List, [], ◌∷◌, ◌++◌, map, take, length, refl, ap, sym, ◌∙◌, arith, add-one, append_assoc}
use Rattle.std.proofs.lemmas.List.{map-append}
use Rattle.porch_check.specs.Declarations.{star, stars_of}
use Rattle.porch_declarators.specs.declared.part.Part as code_part
use Rattle.porch_declarators.specs.declared.part.Part.TheVariants as variant
use Rattle.porch_declarators.specs.Views.{as_part}

step : (at : ℕ) (stars : List ℕ) (i : ℕ) → i < length stars → stars_of at (take i stars) ++ star at ∷ [] ≡ stars_of at (take (suc i) stars)
step at [] i h = absurd (omega arith)
step at (x ∷ xs) zero h = refl
step at (x ∷ xs) (suc i) h = ap (λ ys. star at ∷ ys) (step at xs i (omega arith))

pub stars_more : (before parts more : List code_part.Part) (at : ℕ) (stars : List ℕ) (i : ℕ) → i < length stars
    → map as_part parts ≡ map as_part before ++ stars_of at (take i stars) → more ≡ parts ++ variant.Star at ∷ []
    → map as_part more ≡ map as_part before ++ stars_of at (take (i + 1) stars)
stars_more before parts more at stars i h made pushed =
    ap (map as_part) pushed ∙ map-append as_part parts (variant.Star at ∷ [])
    ∙ ap (λ xs. xs ++ star at ∷ []) made
    ∙ append_assoc (map as_part before) (stars_of at (take i stars)) (star at ∷ [])
    ∙ ap (λ xs. map as_part before ++ xs) (step at stars i h)
    ∙ ap (λ k. map as_part before ++ stars_of at (take k stars)) (sym (add-one i))
