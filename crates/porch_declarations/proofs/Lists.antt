-- Lists of initialisers and entries.
use Rattle.std.proofs.Common.{◌≡◌, List, [], ◌∷◌, ◌++◌, refl, ap}
use Rattle.porch_tree.specs.Mirror.{Initial, Initials, no_initials, with_initial}
use Rattle.porch_tree.specs.Views.{initials_of}

pub append_nothing : {A : Type 0} (xs : List A) → xs ++ [] ≡ xs
append_nothing [] = refl
append_nothing (x ∷ xs) = ap (λ ys. x ∷ ys) (append_nothing xs)

pub append_one : {A : Type 0} (xs : List A) (y : A) (ys : List A) → (xs ++ y ∷ []) ++ ys ≡ xs ++ y ∷ ys
append_one [] y ys = refl
append_one (x ∷ xs) y ys = ap (λ zs. x ∷ zs) (append_one xs y ys)

abbrev pub initial_list : Initials → List Initial
initial_list no_initials = []
initial_list (with_initial x xs) = x ∷ initial_list xs

pub initials_back : (xs : Initials) → initials_of (initial_list xs) ≡ xs
initials_back no_initials = refl
initials_back (with_initial x xs) = ap (with_initial x) (initials_back xs)
