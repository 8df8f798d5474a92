-- What the entry of a number is to a search from the first on.
use Rattle.std.proofs.Common.{◌≡◌, ◌≢◌, ℕ, zero, suc, ◌+◌, ◌<◌, List, [], ◌∷◌, Some, slice_get, refl, sym, ap, ◌∙◌, arith, inl, inr, length, get_or}
use Rattle.std.proofs.lemmas.Bool.Decides.{eqb_tells}
use Rattle.std.proofs.lemmas.Option.{slice_get_within, slice_get_read}
use Rattle.std.specs.Prelude.{slice_set}
use Rattle.porch_objects.specs.Store.{Object, Activation, variables_in, changed_at, changed_calls}
use Rattle.porch_live.specs.inside.Entries.{IsRising, StandsAt, HasNone, with_variables, ended}
use Rattle.porch_live.proofs.Rising.{rising_before}

-- an earlier entry has another number
earlier_differs : (low : ℕ) (e : Activation) (es : List Activation) (k : ℕ) (a : Activation) → IsRising low (e ∷ es)
    → slice_get es k ≡ Some a → e.number ≢ a.number
earlier_differs low e es k a rising there same =
    omega (arith, same, rising_before low (e ∷ es) 0 (suc k) e a rising (omega arith) refl there)

found_variables : (low : ℕ) (es : List Activation) (k : ℕ) (a : Activation) → IsRising low es → slice_get es k ≡ Some a
    → variables_in es a.number ≡ a.variables
found_variables low [] k a rising there = cc
found_variables low (e ∷ es) zero a rising there =
    elim (eqb_tells e.number a.number) [
      | inl w ↦ rw w.0 (let same : e ≡ a = cc in ap (λ (x : Activation). x.variables) same)
      | inr w ↦ absurd (w.1 (let same : e ≡ a = cc in ap (λ (x : Activation). x.number) same))
    ]
found_variables low (e ∷ es) (suc k) a rising there =
    elim (eqb_tells e.number a.number) [
      | inl w ↦ absurd (earlier_differs low e es k a rising there w.1)
      | inr w ↦ rw w.0 (found_variables (e.number + 1) es k a rising.1 there)
    ]

abbrev pub changed_entry : (Object → Object) → ℕ → Activation → Activation
changed_entry change index a = with_variables a (changed_at change a.variables (slice_get a.variables index) index)

found_change : (change : Object → Object) (index low : ℕ) (es : List Activation) (k : ℕ) (a : Activation) → IsRising low es → slice_get es k ≡ Some a
    → changed_calls change es a.number index ≡ slice_set es k (changed_entry change index a)
found_change change index low [] k a rising there = cc
found_change change index low (e ∷ es) zero a rising there =
    elim (eqb_tells e.number a.number) [
      | inl w ↦ rw w.0 (let same : e ≡ a = cc in ap (λ (x : Activation). changed_entry change index x ∷ es) same)
      | inr w ↦ absurd (w.1 (let same : e ≡ a = cc in ap (λ (x : Activation). x.number) same))
    ]
found_change change index low (e ∷ es) (suc k) a rising there =
    elim (eqb_tells e.number a.number) [
      | inl w ↦ absurd (earlier_differs low e es k a rising there w.1)
      | inr w ↦ rw w.0 (ap (λ (xs : List Activation). e ∷ xs) (found_change change index (e.number + 1) es k a rising.1 there))
    ]

none_later : (e : Activation) (es : List Activation) (n : ℕ) → HasNone (e ∷ es) n → HasNone es n
none_later e es n none = record { each = λ k a there. none.each (suc k) a there }

pub no_variables : (es : List Activation) (n : ℕ) → HasNone es n → variables_in es n ≡ []
no_variables [] n none = refl
no_variables (e ∷ es) n none =
    elim (eqb_tells e.number n) [
      | inl w ↦ absurd (none.each 0 e refl w.1)
      | inr w ↦ rw w.0 (no_variables es n (none_later e es n none))
    ]

pub no_change : (change : Object → Object) (es : List Activation) (n index : ℕ) → HasNone es n → changed_calls change es n index ≡ es
no_change change [] n index none = refl
no_change change (e ∷ es) n index none =
    elim (eqb_tells e.number n) [
      | inl w ↦ absurd (none.each 0 e refl w.1)
      | inr w ↦ rw w.0 (ap (λ (xs : List Activation). e ∷ xs) (no_change change es n index (none_later e es n none)))
    ]

-- the entry that stands there is the one that is read there
read_there : (es : List Activation) (n k : ℕ) (a : Activation) → StandsAt es n k → a ≡ get_or es k a → (slice_get es k ≡ Some a) × (a.number ≡ n)
read_there es n k a stands read =
    let within : k < length es = slice_get_within es k stands.entry stands.there in
    let there : slice_get es k ≡ Some a = slice_get_read es (length es) k a refl within read in
    let same : stands.entry ≡ a = cc in
    (there, sym (ap (λ (x : Activation). x.number) same) ∙ stands.numbered)

pub variables_there : (es : List Activation) (n k : ℕ) (a : Activation) → IsRising 0 es → StandsAt es n k → a ≡ get_or es k a
    → variables_in es n ≡ a.variables
variables_there es n k a rising stands read =
    let at = read_there es n k a stands read in
    ap (λ m. variables_in es m) (sym at.1) ∙ found_variables 0 es k a rising at.0

pub change_there : (change : Object → Object) (index : ℕ) (es : List Activation) (n k : ℕ) (a : Activation) → IsRising 0 es → StandsAt es n k → a ≡ get_or es k a
    → changed_calls change es n index ≡ slice_set es k (changed_entry change index a)
change_there change index es n k a rising stands read =
    let at = read_there es n k a stands read in
    ap (λ m. changed_calls change es m index) (sym at.1) ∙ found_change change index 0 es k a rising at.0

found_end : (low : ℕ) (es : List Activation) (k : ℕ) (a : Activation) → IsRising low es → slice_get es k ≡ Some a
    → ended es a.number ≡ slice_set es k (with_variables a [])
found_end low [] k a rising there = cc
found_end low (e ∷ es) zero a rising there =
    elim (eqb_tells e.number a.number) [
      | inl w ↦ rw w.0 (let same : e ≡ a = cc in ap (λ (x : Activation). with_variables x [] ∷ es) same)
      | inr w ↦ absurd (w.1 (let same : e ≡ a = cc in ap (λ (x : Activation). x.number) same))
    ]
found_end low (e ∷ es) (suc k) a rising there =
    elim (eqb_tells e.number a.number) [
      | inl w ↦ absurd (earlier_differs low e es k a rising there w.1)
      | inr w ↦ rw w.0 (ap (λ (xs : List Activation). e ∷ xs) (found_end (e.number + 1) es k a rising.1 there))
    ]

pub end_there : (es : List Activation) (n k : ℕ) (a : Activation) → IsRising 0 es → StandsAt es n k → a ≡ get_or es k a
    → ended es n ≡ slice_set es k (with_variables a [])
end_there es n k a rising stands read =
    let at = read_there es n k a stands read in
    ap (λ m. ended es m) (sym at.1) ∙ found_end 0 es k a rising at.0

pub no_end : (es : List Activation) (n : ℕ) → HasNone es n → ended es n ≡ es
no_end [] n none = refl
no_end (e ∷ es) n none =
    elim (eqb_tells e.number n) [
      | inl w ↦ absurd (none.each 0 e refl w.1)
      | inr w ↦ rw w.0 (ap (λ (xs : List Activation). e ∷ xs) (no_end es n (none_later e es n none)))
    ]
