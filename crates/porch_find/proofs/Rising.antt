-- Rising places: which of them a number is.
use Rattle.std.proofs.Common.{◌≡◌, ◌≢◌, ℕ, zero, suc, ◌+◌, ◌<◌, ◌≤◌, nat_lt, true, false, refl, ap, sym, ◌∙◌, arith}
use Rattle.std.proofs.lemmas.Bool.{ltb-true, ltb-false}

abbrev pub Rises : (ℕ → ℕ) → Type 0
Rises p = (a b : ℕ) → a < b → p a < p b

pub follows : (p : ℕ → ℕ) (a b : ℕ) → Rises p → a ≤ b → p a ≤ p b
follows p a b rise le =
    elim (nat_lt a b) as (λ t. nat_lt a b ≡ t → p a ≤ p b) [
      | true ↦ λ e. omega (arith, rise a b (ltb-true a b e))
      | false ↦ λ e.
          let same : a ≡ b = omega (arith, le, ltb-false a b e) in
          omega (arith, ap p same)
    ] refl

pub is_before : (p : ℕ → ℕ) (a b : ℕ) → Rises p → p a < p b → a < b
is_before p a b rise lt =
    elim (nat_lt a b) as (λ t. nat_lt a b ≡ t → a < b) [
      | true ↦ λ e. ltb-true a b e
      | false ↦ λ e.
          let back : p b ≤ p a = follows p b a rise (ltb-false a b e) in
          omega (arith, back, lt)
    ] refl

pub is_one : (p : ℕ → ℕ) (a b : ℕ) → Rises p → p a ≡ p b → a ≡ b
is_one p a b rise same =
    let not_less : a < b → ⊥ = λ lt. omega (arith, rise a b lt, same) in
    let not_more : b < a → ⊥ = λ lt. omega (arith, rise b a lt, same) in
    omega (arith, not_less, not_more)

-- the places pass a number between two neighbours
pub passes : (p : ℕ → ℕ) (byte low high n leaf : ℕ) → Rises p → high ≤ low + 1 → p low ≤ byte → (high < n → byte < p high) → p low ≢ byte → leaf < n → p leaf ≢ byte
passes p byte low high n leaf rise close begun ended other within same =
    let not_before : leaf < low → ⊥ = λ lt. omega (arith, rise leaf low lt, same, begun) in
    let not_after : low < leaf → ⊥ = λ lt.
    let far : high ≤ leaf = omega (arith, close, lt) in
    let more : high < n = omega (arith, far, within) in
    omega (arith, ended more, follows p high leaf rise far, same) in
    let at : leaf ≡ low = omega (arith, not_before, not_after) in
    other (ap p (sym at) ∙ same)

-- a place is no less than its number
pub at_least : (p : ℕ → ℕ) (n : ℕ) → Rises p → n ≤ p n
at_least p zero rise = omega arith
at_least p (suc n) rise = omega (arith, rise n (suc n) (omega arith), at_least p n rise)
