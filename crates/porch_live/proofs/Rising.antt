-- What rising numbers say of entries.
use Rattle.std.proofs.Common.{◌≡◌, ℕ, zero, suc, ◌+◌, ◌<◌, ◌≤◌, List, [], ◌∷◌, Some, slice_get, get_or, length, refl, sym, ap, ◌∙◌, inl, inr, arith}
use Rattle.std.proofs.lemmas.Bool.{cases_lt}
use Rattle.std.proofs.lemmas.Option.{slice_get_read}
use Rattle.porch_objects.specs.Store.{Activation}
use Rattle.porch_live.specs.inside.Entries.{IsRising}

-- an entry of a rising list has at least its first number
pub at_least : (low : ℕ) (entries : List Activation) (k : ℕ) (entry : Activation) → IsRising low entries
    → slice_get entries k ≡ Some entry → low ≤ entry.number
at_least low [] k entry rising there = cc
at_least low (e ∷ es) zero entry rising there =
    let same : e.number ≡ entry.number = cc in omega (arith, rising.0, same)
at_least low (e ∷ es) (suc k) entry rising there =
    omega (arith, rising.0, at_least (e.number + 1) es k entry rising.1 there)

-- an entry has a smaller number than one after it
pub rising_before : (low : ℕ) (entries : List Activation) (k m : ℕ) (a b : Activation) → IsRising low entries → k < m
    → slice_get entries k ≡ Some a → slice_get entries m ≡ Some b → a.number < b.number
rising_before low [] k m a b rising less here there = cc
rising_before low (e ∷ es) zero zero a b rising less here there = absurd (omega (arith, less))
rising_before low (e ∷ es) zero (suc m) a b rising less here there =
    let same : e.number ≡ a.number = cc in omega (arith, same, at_least (e.number + 1) es m b rising.1 there)
rising_before low (e ∷ es) (suc k) zero a b rising less here there = absurd (omega (arith, less))
rising_before low (e ∷ es) (suc k) (suc m) a b rising less here there =
    rising_before (e.number + 1) es k m a b rising.1 (omega (arith, less)) here there

-- up to an entry below a number, all are below it
pub before_smaller : (es : List Activation) (m : ℕ) (a : Activation) (n : ℕ) → IsRising 0 es → m < length es → a ≡ get_or es m a
    → a.number < n → (k : ℕ) (e : Activation) → k < m + 1 → slice_get es k ≡ Some e → e.number < n
before_smaller es m a n rising within read small k e less there =
    let here : slice_get es m ≡ Some a = slice_get_read es (length es) m a refl within read in
    elim (cases_lt k m) [
      | inl w ↦ omega (arith, rising_before 0 es k m e a rising w there here)
      | inr w ↦ let at : k ≡ m = omega arith in
          let both : slice_get es m ≡ Some e = ap (λ i. slice_get es i) (sym at) ∙ there in
          let same : e ≡ a = cc in rw same small
    ]

-- from an entry above a number on, all are above it
pub after_greater : (es : List Activation) (m : ℕ) (a : Activation) (n : ℕ) → IsRising 0 es → m < length es → a ≡ get_or es m a
    → n < a.number → (k : ℕ) (e : Activation) → m ≤ k → slice_get es k ≡ Some e → n < e.number
after_greater es m a n rising within read great k e less there =
    let here : slice_get es m ≡ Some a = slice_get_read es (length es) m a refl within read in
    elim (cases_lt m k) [
      | inl w ↦ omega (arith, rising_before 0 es m k a e rising w here there)
      | inr w ↦ let at : k ≡ m = omega arith in
          let both : slice_get es m ≡ Some e = ap (λ i. slice_get es i) (sym at) ∙ there in
          let same : e ≡ a = cc in rw same great
    ]
