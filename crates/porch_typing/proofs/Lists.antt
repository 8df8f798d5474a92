-- Elements of lists by their numbers.
use Rattle.std.proofs.Common.{◌≡◌, ◌≢◌, ◌<◌, ◌⊎◌, inl, inr, ℕ, zero, suc, List, [], ◌∷◌, ◌++◌, length, refl, ap, subst, arith, Some, true}
use Rattle.std.proofs.lemmas.Slice.Eq.{bytes_eq-Decides}
use Rattle.std.specs.Prelude.{slice_get, slice_set, Decides}
use Rattle.std.specs.Str.{bytes_eq}
use Rattle.porch_typing.specs.Shapes.{Each}

pub bytes_same : (a b : List ℕ) → bytes_eq a b ≡ true → a ≡ b
bytes_same a b h = let d : Decides (bytes_eq a b) (a ≡ b) = bytes_eq-Decides a b in d.0 h

pub in_front : {A : Type 0} (xs ys : List A) (i : ℕ) (x : A) → slice_get xs i ≡ Some x → slice_get (xs ++ ys) i ≡ Some x
in_front [] ys i x e = absurd (cc)
in_front (y ∷ xs) ys zero x e = e
in_front (y ∷ xs) ys (suc i) x e = in_front xs ys i x e

pub front_same : {A : Type 0} (xs ys : List A) (i : ℕ) → i < length xs → slice_get (xs ++ ys) i ≡ slice_get xs i
front_same [] ys i h = absurd (omega arith)
front_same (x ∷ xs) ys zero h = refl
front_same (x ∷ xs) ys (suc i) h = front_same xs ys i (omega arith)

pub at_end : {A : Type 0} (xs : List A) (x : A) → slice_get (xs ++ x ∷ []) (length xs) ≡ Some x
at_end [] x = refl
at_end (z ∷ xs) x = at_end xs x

pub behind_end : {A : Type 0} (xs : List A) (x : A) (ys : List A) → slice_get (xs ++ x ∷ ys) (length xs) ≡ Some x
behind_end [] x ys = refl
behind_end (z ∷ xs) x ys = behind_end xs x ys

-- an element of a list that is longer by one
pub one_more : {A : Type 0} (xs : List A) (x y : A) (i : ℕ) → slice_get (xs ++ x ∷ []) i ≡ Some y
    → ((i < length xs) × (slice_get xs i ≡ Some y)) ⊎ ((i ≡ length xs) × (x ≡ y))
one_more [] x y zero h = inr (refl, cc)
one_more [] x y (suc i) h = absurd (cc)
one_more (z ∷ xs) x y zero h = inl (omega arith, h)
one_more (z ∷ xs) x y (suc i) h =
    elim (one_more xs x y i h) [
      | inl a ↦ let less = a.0 in inl (omega (arith, less), a.1)
      | inr b ↦ let same = b.0 in inr (omega (arith, same), b.1)
    ]

pub set_same : {A : Type 0} (ts : List A) (i : ℕ) (o : A) → i < length ts → slice_get (slice_set ts i o) i ≡ Some o
set_same [] i o h = absurd (omega arith)
set_same (x ∷ ts) zero o h = refl
set_same (x ∷ ts) (suc i) o h = set_same ts i o (omega arith)

pub set_other : {A : Type 0} (ts : List A) (i j : ℕ) (o : A) → j ≢ i → slice_get (slice_set ts i o) j ≡ slice_get ts j
set_other [] i j o ne = refl
set_other (x ∷ ts) zero zero o ne = absurd (ne refl)
set_other (x ∷ ts) zero (suc j) o ne = refl
set_other (x ∷ ts) (suc i) zero o ne = refl
set_other (x ∷ ts) (suc i) (suc j) o ne = set_other ts i j o (λ e. ne (ap suc e))

pub each_weaker : {A : Type 0} (P Q : A → Type 0) (xs : List A) → ((x : A) → P x → Q x) → Each P xs → Each Q xs
each_weaker P Q [] k h = tt
each_weaker P Q (x ∷ xs) k h = (k x h.0, each_weaker P Q xs k h.1)

pub each_at : {A : Type 0} (P : A → Type 0) (xs : List A) (i : ℕ) (x : A) → Each P xs → slice_get xs i ≡ Some x → P x
each_at P [] i x h e = absurd (cc)
each_at P (y ∷ xs) zero x h e = let same : y ≡ x = cc in subst (λ z. P z) same h.0
each_at P (y ∷ xs) (suc i) x h e = each_at P xs i x h.1 e

pub each_joined : {A : Type 0} (P : A → Type 0) (xs ys : List A) → Each P xs → Each P ys → Each P (xs ++ ys)
each_joined P [] ys h k = k
each_joined P (x ∷ xs) ys h k = (h.0, each_joined P xs ys h.1 k)

pub set_length : {A : Type 0} (ts : List A) (i : ℕ) (o : A) → length (slice_set ts i o) ≡ length ts
set_length [] i o = refl
set_length (x ∷ ts) zero o = refl
set_length (x ∷ ts) (suc i) o = ap suc (set_length ts i o)
