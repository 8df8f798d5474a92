-- Rows that are read one after the other.
use Rattle.std.proofs.Common.{◌≡◌, ℕ, zero, suc, ◌+◌, [], ◌∷◌, ◌++◌, map, ap, ◌∙◌, add-one, arith}
use Rattle.std.specs.List.{range_with_len}

one_more : {X : Type 0} (f : ℕ → X) (a i : ℕ) → map f (range_with_len a (suc i)) ≡ map f (range_with_len a i) ++ f (a + i) ∷ []
one_more f a zero = let none : a ≡ a + 0 = omega arith in ap (λ n. f n ∷ []) none
one_more f a (suc i) =
    let same : a + 1 + i ≡ a + suc i = omega arith in
    ap (λ l. f a ∷ l) (one_more f (a + 1) i ∙ ap (λ n. map f (range_with_len (a + 1) i) ++ f n ∷ []) same)

-- what is read of one number more
pub read_more : {X : Type 0} (f : ℕ → X) (a i : ℕ) → map f (range_with_len a (i + 1)) ≡ map f (range_with_len a i) ++ f (a + i) ∷ []
read_more f a i = rw add-one (one_more f a i)
