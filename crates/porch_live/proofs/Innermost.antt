-- The last entry with other objects, among the calls.
use Rattle.std.proofs.Common.{◌≡◌, ℕ, zero, suc, ◌+◌, List, [], ◌∷◌, length, Some, slice_get, ap, ◌∙◌, arith}
use Rattle.std.specs.Prelude.{slice_set}
use Rattle.porch_objects.specs.Store.{Activation}
use Rattle.porch_live.specs.Innermost.{first_variables, with_first}
use Rattle.porch_live.specs.inside.Entries.{IsRising, IsBelow, stacked}

pub variables_first : (es callers : List Activation) (k : ℕ) (e : Activation) → k + 1 ≡ length es → slice_get es k ≡ Some e
    → first_variables (stacked es callers) ≡ Some e.variables
variables_first [] callers k e last there = cc
variables_first (x ∷ []) callers zero e last there = let same : x ≡ e = cc in ap (λ (a : Activation). Some a.variables) same
variables_first (x ∷ []) callers (suc k) e last there = cc
variables_first (x ∷ y ∷ es) callers zero e last there = absurd (omega (arith, last))
variables_first (x ∷ y ∷ es) callers (suc k) e last there = variables_first (y ∷ es) (x ∷ callers) k e (omega (arith, last)) there

pub stacked_last_set : (es callers : List Activation) (k : ℕ) (e a : Activation) → k + 1 ≡ length es → slice_get es k ≡ Some e → a.number ≡ e.number
    → stacked (slice_set es k a) callers ≡ with_first (stacked es callers) a.variables
stacked_last_set [] callers k e a last there same = cc
stacked_last_set (x ∷ []) callers zero e a last there same =
    let one : e ≡ x = cc in
    ap (λ (n : ℕ). (let b : Activation = record { number = n; variables = a.variables } in b) ∷ callers) (same ∙ ap (λ (b : Activation). b.number) one)
stacked_last_set (x ∷ []) callers (suc k) e a last there same = cc
stacked_last_set (x ∷ y ∷ es) callers zero e a last there same = absurd (omega (arith, last))
stacked_last_set (x ∷ y ∷ es) callers (suc k) e a last there same = stacked_last_set (y ∷ es) (x ∷ callers) k e a (omega (arith, last)) there same

pub rising_set : (low : ℕ) (es : List Activation) (k : ℕ) (e a : Activation) → slice_get es k ≡ Some e → a.number ≡ e.number → IsRising low es
    → IsRising low (slice_set es k a)
rising_set low [] k e a there same rising = tt
rising_set low (x ∷ es) zero e a there same rising =
    let one : e ≡ x = cc in
    rw (same ∙ ap (λ (b : Activation). b.number) one) (rising.0, rising.1)
rising_set low (x ∷ es) (suc k) e a there same rising = (rising.0, rising_set (x.number + 1) es k e a there same rising.1)

pub below_set : (high : ℕ) (es : List Activation) (k : ℕ) (e a : Activation) → slice_get es k ≡ Some e → a.number ≡ e.number → IsBelow high es
    → IsBelow high (slice_set es k a)
below_set high [] k e a there same below = tt
below_set high (x ∷ es) zero e a there same below =
    let one : e ≡ x = cc in
    rw (same ∙ ap (λ (b : Activation). b.number) one) (below.0, below.1)
below_set high (x ∷ es) (suc k) e a there same below = (below.0, below_set high es k e a there same below.1)
