-- The first number that fails a test, found by going through the numbers.
use Rattle.std.proofs.Common.{◌≡◌, ℕ, suc, ◌+◌, ◌-◌, ◌<◌, Bool, true, false, Some, None, refl, ap, ◌∙◌, arith}
use Rattle.porch_ucf.specs.FirstFailing.{first_failing}

one_more : (n i : ℕ) → i < n → n - i ≡ suc (n - (i + 1))
one_more n i lt = omega (arith, lt)

passed_at : (p : ℕ → Bool) (i many : ℕ) → p i ≡ true → first_failing p i (suc many) ≡ first_failing p (i + 1) many
passed_at p i many e = rw e refl

failed_at : (p : ℕ → Bool) (i many : ℕ) → p i ≡ false → first_failing p i (suc many) ≡ Some i
failed_at p i many e = rw e refl

-- a number that passes is gone past
pub passed : (p : ℕ → Bool) (n i : ℕ) → i < n → p i ≡ true → first_failing p i (n - i) ≡ first_failing p (i + 1) (n - (i + 1))
passed p n i lt e = ap (first_failing p i) (one_more n i lt) ∙ passed_at p i (n - (i + 1)) e

-- one that doesn't is the first
pub failed : (p : ℕ → Bool) (n i : ℕ) → i < n → p i ≡ false → first_failing p i (n - i) ≡ Some i
failed p n i lt e = ap (first_failing p i) (one_more n i lt) ∙ failed_at p i (n - (i + 1)) e

-- none is left
pub over : (p : ℕ → Bool) (n : ℕ) → first_failing p n (n - n) ≡ None
over p n = let none : n - n ≡ 0 = omega arith in ap (first_failing p n) none
