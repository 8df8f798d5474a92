-- Budgets of turns.
use Rattle.std.proofs.Common.{◌≡◌, ◌≤◌, ◌<◌, ◌+◌, ◌⊎◌, inl, inr, ◌&&◌, ℕ, Bool, true, false, refl, arith}
use Rattle.std.proofs.lemmas.Bool.Decides.{nat_tests}
use Rattle.std.specs.Prelude.{nat_le}
use Rattle.porch_machine.specs.Steps.{pending}

-- the turns stay within a budget that has one left where one is counted
pub stays_within : (b : Bool) (turns n after : ℕ) → after ≤ turns + pending b → turns ≤ n → (b ≡ true → turns < n) → after ≤ n
stays_within true turns n after h le lt = let k = lt refl in omega (arith, h, k)
stays_within false turns n after h le lt = omega (arith, h, le)

-- Where no turn is counted, or one is left, the next one isn't too many.
pub left_over : (b : Bool) (turns n : ℕ) → ((b ≡ true) × (turns < n)) ⊎ (b ≡ false) → (b && nat_le n turns) ≡ false
left_over b turns n (inl h) = let e : nat_le n turns ≡ false = grind (arith, nat_tests, h.1) in rw (h.0, e) refl
left_over b turns n (inr h) = rw h refl

pub one_left : (b : Bool) (turns n : ℕ) → ((b ≡ true) × (turns < n)) ⊎ (b ≡ false) → b ≡ true → turns < n
one_left b turns n (inl h) e = h.1
one_left b turns n (inr h) e = cc
