-- Elements of lists by their numbers, and the place of a number in a list.
use Rattle.std.proofs.Common.{◌≡◌, ◌<◌, ◌⊎◌, inl, inr, ℕ, zero, suc, ◌+◌, List, [], ◌∷◌, ◌++◌, length, refl, sym, ap, arith, Some, Bool, true, false}
use Rattle.std.proofs.lemmas.Bool.{eqb-true, eqb-false}
use Rattle.std.specs.Prelude.{slice_get, nat_eq, if◌then◌else◌}
use Rattle.porch_check.specs.Sealing.{position_of}

pub in_front : {A : Type 0} (xs ys : List A) (i : ℕ) (x : A) → slice_get xs i ≡ Some x → slice_get (xs ++ ys) i ≡ Some x
in_front [] ys i x e = absurd (cc)
in_front (y ∷ xs) ys zero x e = e
in_front (y ∷ xs) ys (suc i) x e = in_front xs ys i x e

pub of_front : {A : Type 0} (xs ys : List A) (i : ℕ) (x : A) → i < length xs → slice_get (xs ++ ys) i ≡ Some x → slice_get xs i ≡ Some x
of_front [] ys i x h e = absurd (omega arith)
of_front (y ∷ xs) ys zero x h e = e
of_front (y ∷ xs) ys (suc i) x h e = of_front xs ys i x (omega arith) e

pub behind_end : {A : Type 0} (xs : List A) (x : A) (ys : List A) → slice_get (xs ++ x ∷ ys) (length xs) ≡ Some x
behind_end [] x ys = refl
behind_end (z ∷ xs) x ys = behind_end xs x ys

-- in the one or in the other
pub in_either : {A : Type 0} (xs ys : List A) (k : ℕ) (c : A) → slice_get (xs ++ ys) k ≡ Some c
    → (slice_get xs k ≡ Some c) ⊎ ((j : ℕ) × (k ≡ length xs + j) × (slice_get ys j ≡ Some c))
in_either [] ys k c h = inr (k, omega arith, h)
in_either (x ∷ xs) ys zero c h = inl h
in_either (x ∷ xs) ys (suc k) c h = elim (in_either xs ys k c h) [ inl a ↦ inl a | inr b ↦ let far = b.1 in inr (b.0, omega (arith, far), b.2) ]

at_by : (n m : ℕ) (ms : List ℕ) (b : Bool) → nat_eq n m ≡ b → (b ≡ false → slice_get ms (position_of n ms) ≡ Some n)
    → slice_get (m ∷ ms) (if b then 0 else suc (position_of n ms)) ≡ Some n
at_by n m ms true e rest = ap (λ n. Some n) (sym (eqb-true n m e))
at_by n m ms false e rest = rest refl

pub position_at : (ns : List ℕ) (n i : ℕ) → slice_get ns i ≡ Some n → slice_get ns (position_of n ns) ≡ Some n
position_at [] n i e = absurd (cc)
position_at (m ∷ ms) n zero e =
    at_by n m ms (nat_eq n m) refl (λ other. (let same : n ≡ m = cc in absurd (eqb-false n m other same)))
position_at (m ∷ ms) n (suc i) e = at_by n m ms (nat_eq n m) refl (λ other. position_at ms n i e)
