-- The code's list, read from its end.
use Rattle.std.proofs.Common.{◌≡◌, fold, List, [], ◌∷◌, ◌++◌, refl, sym, ap, ◌∙◌, append_assoc}
use Rattle.std.proofs.lemmas.List.Sums.{fold-append}
use Rattle.porch_walk.specs.declared.symbol.Symbol.{Symbol}
use Rattle.porch_walk.specs.inside.Steps.{upward}

onto : (ys above : List Symbol) → fold (λ (above : List Symbol) s. s ∷ above) above ys ≡ upward ys ++ above
onto [] above = refl
onto (y ∷ ys) above =
    onto ys (y ∷ above) ∙ sym (append_assoc (upward ys) (y ∷ []) above) ∙ ap (λ q. q ++ above) (sym (onto ys (y ∷ [])))

pub upward_append : (xs ys : List Symbol) → upward (xs ++ ys) ≡ upward ys ++ upward xs
upward_append xs ys = fold-append (λ (above : List Symbol) s. s ∷ above) [] xs ys ∙ onto ys (upward xs)
