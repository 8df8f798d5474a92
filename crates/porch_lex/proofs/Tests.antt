-- Tests of bytes.
use Rattle.std.proofs.Common.{◌≡◌, ℕ, ◌==◌, ◌&&◌, Bool, true, false, refl, sym, arith}

pub code_same : (x y : ℕ) → (x == y) ≡ true → x ≡ y
code_same x y h = search (arith, h)

pub code_own : (x y : ℕ) → x ≡ y → (x == y) ≡ true
code_own x y h = search (arith, h)

pub not_true : (b : Bool) → (b ≡ true → ⊥) → b ≡ false
not_true true h = absurd (h refl)
not_true false h = refl

pub code_other : (x y : ℕ) → (x == y) ≡ false → (y == x) ≡ false
code_other x y h = not_true (y == x) (λ e. let own = code_own x y (sym (code_same y x e)) in cc)

pub both_true : (a b : Bool) → (a && b) ≡ true → (a ≡ true) × (b ≡ true)
both_true true b h = (refl, h)
both_true false b h = cc

pub code_differs : (x y : ℕ) → (x ≡ y → ⊥) → (x == y) ≡ false
code_differs x y h = not_true (x == y) (λ e. h (code_same x y e))
