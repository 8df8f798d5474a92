-- Steps of rows, over plain variables.
use Rattle.std.proofs.Common.{◌≡◌, ◌∙◌, ℕ, zero, suc, ◌+◌, ◌-◌, ◌<◌, ◌≤◌, max, Option, Some, None, refl, ap, inl, inr, arith}
use Rattle.std.proofs.Math.Path.{fun_ext}
use Rattle.std.proofs.lemmas.Bool.{cases_lt}
use Rattle.std.proofs.lemmas.Bool.Decides.{nat_tests}
use Rattle.porch_lowering.specs.Code.{InUse, and_one, at_most, Code}
use Rattle.porch_emitter.specs.Made.{Made, and_taken, with_code, with_used}
use Rattle.porch_lower_steps.specs.inside.Raised.{count_of, raised_by}

pub stepped : (code : (ℕ → ℕ) → InUse → ℕ → Code) (v w free : InUse) (ty : ℕ) (m0 m1 m2 m3 m4 m5 m6 m7 : Made)
    → m1 ≡ m0
    → m2 ≡ with_used m1 v
    → m3 ≡ with_code m2 (code m2.start m2.used m2.label)
    → m4 ≡ with_used m3 m0.used
    → m5 ≡ with_used m4 w
    → m6 ≡ with_used m5 free
    → m7 ≡ with_used m6 (and_one ty m6.used)
    → m7 ≡ with_used (with_code m0 (code m0.start v m0.label)) (and_one ty free)
stepped code v w free ty m0 m1 m2 m3 m4 m5 m6 m7 e1 e2 e3 e4 e5 e6 e7 = rw (e7, e6, e5, e4, e3, e2, e1) refl

-- how many of a type are in use with one
counted_with : (ty : ℕ) (taken : Option ℕ) (used : InUse) → and_taken taken used ty ≡ used ty + count_of ty taken
counted_with ty None used = omega arith
counted_with ty (Some t) used = grind (arith, nat_tests)

pub behind_free : (start : ℕ → ℕ) (ty : ℕ) (left right : Option ℕ) (used free : InUse) (next held : ℕ)
    → used ≡ and_taken right (and_taken left free)
    → next ≡ start ty + used ty
    → held ≡ count_of ty left + count_of ty right
    → next - held ≡ start ty + free ty
behind_free start ty left right used free next held is e h =
    let a = ap (λ (u : InUse). u ty) is in
    let b = counted_with ty right (and_taken left free) in
    let c = counted_with ty left free in
    omega (arith, a, b, c, e, h)

-- what is in use with operands is at least what is in use without
at_least : (taken : Option ℕ) (used : InUse) (t : ℕ) → used t ≤ and_taken taken used t
at_least None used t = omega arith
at_least (Some ty) used t = grind (arith, nat_tests)

both_at_least : (left right : Option ℕ) (free : InUse) (t : ℕ) → free t ≤ and_taken right (and_taken left free) t
both_at_least left right free t =
    let a = at_least left free t in
    let b = at_least right (and_taken left free) t in
    omega (arith, a, b)

raised_at : (ty t : ℕ) (used free : InUse) → free t ≤ used t → used ty ≡ free ty → and_one ty used t ≡ max (and_one ty free t) (used t)
raised_at ty t used free least same = grind (arith, nat_tests)

held_at : (ty t : ℕ) (used free : InUse) → free t ≤ used t → free ty < used ty → used t ≡ max (and_one ty free t) (used t)
held_at ty t used free least more = grind (arith, nat_tests)

raised_none : (held ty : ℕ) → held ≡ 0 → raised_by held ty ≡ Some ty
raised_none held ty none = rw none refl

raised_some : (held ty : ℕ) → 0 < held → raised_by held ty ≡ None
raised_some held ty more = grind (arith, nat_tests)

pub raised : (ty : ℕ) (left right : Option ℕ) (used free : InUse) (held : ℕ)
    → used ≡ and_taken right (and_taken left free)
    → held ≡ count_of ty left + count_of ty right
    → and_taken (raised_by held ty) used ≡ at_most (and_one ty free) used
raised ty left right used free held is h =
    let here : used ty ≡ and_taken right (and_taken left free) ty = ap (λ (u : InUse). u ty) is in
    let b = counted_with ty right (and_taken left free) in
    let d = counted_with ty left free in
    let least : (t : ℕ) → free t ≤ used t = λ t.
    (let at : used t ≡ and_taken right (and_taken left free) t = ap (λ (u : InUse). u t) is in
    let two = both_at_least left right free t in
    omega (arith, at, two)) in
    elim (cases_lt 0 held) [
      | inl more ↦
          (let above : free ty < used ty = omega (arith, here, b, d, h) in
          ap (λ (o : Option ℕ). and_taken o used) (raised_some held ty more) ∙ fun_ext (λ (t : ℕ). held_at ty t used free (least t) above))
      | inr none ↦
          (let zero_held : held ≡ 0 = omega arith in
          let same : used ty ≡ free ty = omega (arith, here, b, d, h) in
          ap (λ (o : Option ℕ). and_taken o used) (raised_none held ty zero_held) ∙ fun_ext (λ (t : ℕ). raised_at ty t used free (least t) same))
    ]

-- nothing more where it goes to a variable
pub not_raised : (left right : Option ℕ) (used free : InUse) → used ≡ and_taken right (and_taken left free) → used ≡ at_most free used
not_raised left right used free is =
    fun_ext (λ (t : ℕ).
    (let at : used t ≡ and_taken right (and_taken left free) t = ap (λ (u : InUse). u t) is in
    let two = both_at_least left right free t in
    let same : used t ≡ max (free t) (used t) = omega (arith, at, two) in
    same))
