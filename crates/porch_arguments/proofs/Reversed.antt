-- Lists that are taken from their end.
use Rattle.std.proofs.Common.{◌≡◌, ◌<◌, List, [], ◌∷◌, ◌++◌, map, length, refl, ap, sym, ◌∙◌, arith}
use Rattle.std.specs.Prelude.{reverse}
use Rattle.std.proofs.lemmas.List.{reverse-append, reverse-reverse, length-map, length-reverse, length-append}

pub one_taken : {A B : Type 0} (f : A → B) (xs ys : List A) (x : A) → xs ≡ ys ++ x ∷ []
    → map f (reverse xs) ≡ f x ∷ map f (reverse ys)
one_taken f xs ys x h = ap (λ zs. map f (reverse zs)) h ∙ ap (map f) (reverse-append ys (x ∷ []))

pub none_taken : {A B : Type 0} (f : A → B) (xs : List A) → xs ≡ [] → map f (reverse xs) ≡ []
none_taken f xs h = ap (λ zs. map f (reverse zs)) h

pub fewer : {A : Type 0} (xs ys : List A) (x : A) → xs ≡ ys ++ x ∷ [] → length ys < length xs
fewer xs ys x h = let e : length xs ≡ length (ys ++ x ∷ []) = ap length h in omega (arith, e, length-append ys (x ∷ []))

-- turned back
pub turned_back : {A B : Type 0} (f : A → B) (xs ys : List A) → xs ≡ reverse ys → map f (reverse xs) ≡ map f ys
turned_back f xs ys h = ap (λ zs. map f (reverse zs)) h ∙ ap (map f) (reverse-reverse ys)

pub as_many : {A B : Type 0} (f : A → B) (xs : List A) → length (map f (reverse xs)) ≡ length xs
as_many f xs = length-map (reverse xs) f ∙ length-reverse xs
