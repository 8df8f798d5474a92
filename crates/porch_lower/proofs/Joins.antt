-- Commands that are put one behind the other.
use Rattle.std.proofs.Common.{◌≡◌, List, [], ◌∷◌, ◌++◌, Result, Ok, Err, OnOk, sym, ap, ◌∙◌, append_assoc}

-- what follows from an Ok's fact
pub on_ok : {A E : Type 0} (r : Result A E) (P Q : Type 0) → (P → Q) → OnOk r P → OnOk r Q
on_ok (Ok x) P Q f h = f h
on_ok (Err e) P Q f h = tt

pub two_parts : {A E X : Type 0} (r : Result A E) (new middle old xs ys whole : List X) → middle ≡ old ++ xs → whole ≡ xs ++ ys → OnOk r (new ≡ middle ++ ys) → OnOk r (new ≡ old ++ whole)
two_parts r new middle old xs ys whole m w h =
    on_ok r (new ≡ middle ++ ys) (new ≡ old ++ whole) (λ e. e ∙ ap (λ z. z ++ ys) m ∙ append_assoc old xs ys ∙ ap (λ z. old ++ z) (sym w)) h

pub put_between : {X : Type 0} (front held rest : List X) (x : X) → ((front ++ held) ++ x ∷ []) ++ rest ≡ front ++ (held ++ x ∷ rest)
put_between front held rest x = append_assoc (front ++ held) (x ∷ []) rest ∙ append_assoc front held (x ∷ rest)
