-- Parts that are put in front of others.
use Rattle.std.proofs.Common.{◌≡◌, ◌≤◌, ℕ, zero, suc, List, [], ◌∷◌, ◌++◌, map, reverse, take, length, refl, ap, ◌∙◌, arith}
use mathlib.Core.List.{reverse_aux}
use Rattle.std.proofs.lemmas.List.{reverse-append}
use Rattle.porch_walk.specs.declared.level.Level.{Level}
use Rattle.porch_walk.specs.declared.level.Step.{Step}
use Rattle.porch_depth.specs.declared.take.Here.{Here}
use Rattle.porch_depth.specs.inside.Takes.{with_steps}
use Rattle.porch_walk.specs.Levels.{placed}

map_turned : (h : Here) (ss above : List Step) → reverse_aux (map (placed h.level h.token) ss) (map (placed h.level h.token) above) ≡ map (placed h.level h.token) (reverse_aux ss above)
map_turned h [] above = refl
map_turned h (s ∷ ss) above = map_turned h ss (s ∷ above)

take_all : (n : ℕ) (ss : List Step) → length ss ≤ n → take n ss ≡ ss
take_all zero [] h = refl
take_all (suc n) [] h = refl
take_all zero (s ∷ ss) h = absurd (omega (arith, h))
take_all (suc n) (s ∷ ss) h = ap (λ q. s ∷ q) (take_all n ss (omega (arith, h)))

pub put_on : (h : Here) (ss : List Step) (old new : List Level) (n : ℕ) → new ≡ old ++ map (placed h.level h.token) (take n ss) → length ss ≤ n
    → reverse new ≡ with_steps h (reverse ss) (reverse old)
put_on h ss old new n e l =
    ap reverse (e ∙ ap (λ q. old ++ map (placed h.level h.token) q) (take_all n ss l)) ∙ reverse-append old (map (placed h.level h.token) ss)
    ∙ ap (λ q. q ++ reverse old) (map_turned h ss [])

-- the last of a list is the first in reverse
pub last_on : {A : Type 0} (xs : List A) (x : A) → reverse (xs ++ x ∷ []) ≡ x ∷ reverse xs
last_on xs x = reverse-append xs (x ∷ [])
