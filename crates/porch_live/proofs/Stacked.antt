-- The calls of entries, the last one first.
use Rattle.std.proofs.Common.{◌≡◌, ℕ, zero, suc, ◌+◌, ◌<◌, ◌≤◌, ◌++◌, Bool, true, false, ◌||◌, nat_eq, List, [], ◌∷◌, length, Option, Some, None, slice_get, refl, ap, ◌∙◌, arith, sym, inl, inr}
use Rattle.std.specs.Option.{option_to_list}
use Rattle.std.proofs.lemmas.List.{append-nil}
use Rattle.std.proofs.lemmas.Bool.Decides.{eqb_tells}
use Rattle.std.specs.Prelude.{if◌then◌else◌}
use Rattle.porch_objects.specs.Store.{Object, Activation, variables_in, changed_calls, innermost_in, callers_in}
use Rattle.porch_live.specs.inside.Entries.{IsRising, IsBelow, stacked}

-- whether there is an entry of a number
abbrev pub has : List Activation → ℕ → Bool
has [] n = false
has (e ∷ es) n = nat_eq e.number n || has es n

-- entries that begin above a number have none of it
pub none_above : (low : ℕ) (es : List Activation) (n : ℕ) → IsRising low es → n < low → has es n ≡ false
none_above low [] n rising above = refl
none_above low (e ∷ es) n rising above =
    elim (eqb_tells e.number n) [
      | inl w ↦ absurd (omega (arith, w.1, rising.0))
      | inr w ↦ rw w.0 (none_above (e.number + 1) es n rising.1 (omega (arith, rising.0)))
    ]

pub none_after : (low : ℕ) (e : Activation) (es : List Activation) (n : ℕ) → IsRising low (e ∷ es) → e.number ≡ n → has es n ≡ false
none_after low e es n rising same = none_above (e.number + 1) es n rising.1 (omega (arith, same))

pub absent_variables : (es : List Activation) (n : ℕ) → has es n ≡ false → variables_in es n ≡ []
absent_variables [] n none = refl
absent_variables (e ∷ es) n none =
    elim (eqb_tells e.number n) [
      | inl w ↦ absurd (let wrong : true ≡ false = rw w.0 at none in cc)
      | inr w ↦ rw w.0 (absent_variables es n (rw w.0 at none))
    ]

pub absent_change : (change : Object → Object) (es : List Activation) (n index : ℕ) → has es n ≡ false → changed_calls change es n index ≡ es
absent_change change [] n index none = refl
absent_change change (e ∷ es) n index none =
    elim (eqb_tells e.number n) [
      | inl w ↦ absurd (let wrong : true ≡ false = rw w.0 at none in cc)
      | inr w ↦ rw w.0 (ap (λ (xs : List Activation). e ∷ xs) (absent_change change es n index (rw w.0 at none)))
    ]

variables_before : (low : ℕ) (es callers : List Activation) (n : ℕ) → IsRising low es
    → variables_in (stacked es callers) n ≡ (if has es n then variables_in es n else variables_in callers n)
variables_before low [] callers n rising = refl
variables_before low (e ∷ es) callers n rising =
    rw (variables_before (e.number + 1) es (e ∷ callers) n rising.1) (
    elim (eqb_tells e.number n) [
      | inl w ↦ rw (none_after low e es n rising w.1, w.0) refl
      | inr w ↦ rw (w.0) refl
    ])

-- among the calls stand the entry's variables
pub stacked_variables : (low : ℕ) (es : List Activation) (n : ℕ) → IsRising low es → variables_in (stacked es []) n ≡ variables_in es n
stacked_variables low es n rising = rw (variables_before low es [] n rising) (either (has es n) refl)
  where
    either : (b : Bool) → has es n ≡ b → (if b then variables_in es n else []) ≡ variables_in es n
    either true h = refl
    either false h = sym (absent_variables es n h)

module _ (change : Object → Object) (n index : ℕ) where
  change_before : (low : ℕ) (es callers : List Activation) → IsRising low es
      → changed_calls change (stacked es callers) n index
      ≡ (if has es n then stacked (changed_calls change es n index) callers else stacked es (changed_calls change callers n index))
  change_before low [] callers rising = refl
  change_before low (e ∷ es) callers rising =
      rw (change_before (e.number + 1) es (e ∷ callers) rising.1) (
      elim (eqb_tells e.number n) [
        | inl w ↦ rw (none_after low e es n rising w.1, w.0) refl
        | inr w ↦ rw (w.0) refl
      ])

  -- among the calls the entry is changed
  pub stacked_change : (low : ℕ) (es : List Activation) → IsRising low es
      → changed_calls change (stacked es []) n index ≡ stacked (changed_calls change es n index) []
  stacked_change low es rising = rw (change_before low es [] rising) (either (has es n) refl)
    where
      either : (b : Bool) → has es n ≡ b → (if b then stacked (changed_calls change es n index) [] else stacked es []) ≡ stacked (changed_calls change es n index) []
      either true h = refl
      either false h = ap (λ xs. stacked xs []) (sym (absent_change change es n index h))

  -- a change leaves the numbers as they are
  pub rising_change : (low : ℕ) (es : List Activation) → IsRising low es → IsRising low (changed_calls change es n index)
  rising_change low [] rising = tt
  rising_change low (e ∷ es) rising =
      elim (eqb_tells e.number n) [
        | inl w ↦ rw w.0 (rising.0, rising.1)
        | inr w ↦ rw w.0 (rising.0, rising_change (e.number + 1) es rising.1)
      ]

  pub below_change : (high : ℕ) (es : List Activation) → IsBelow high es → IsBelow high (changed_calls change es n index)
  below_change high [] below = tt
  below_change high (e ∷ es) below =
      elim (eqb_tells e.number n) [
        | inl w ↦ rw w.0 (below.0, below.1)
        | inr w ↦ rw w.0 (below.0, below_change high es below.1)
      ]

-- one entry more
pub stacked_push : (es callers : List Activation) (e : Activation) → stacked (es ++ e ∷ []) callers ≡ e ∷ stacked es callers
stacked_push [] callers e = refl
stacked_push (x ∷ es) callers e = stacked_push es (x ∷ callers) e

pub rising_push : (low : ℕ) (es : List Activation) (e : Activation) → low ≤ e.number → IsRising low es → IsBelow e.number es
    → IsRising low (es ++ e ∷ [])
rising_push low [] e least rising below = (least, tt)
rising_push low (x ∷ es) e least rising below =
    (rising.0, rising_push (x.number + 1) es e (omega (arith, below.0)) rising.1 below.1)

pub below_push : (high more : ℕ) (es : List Activation) (e : Activation) → high ≤ more → e.number < more → IsBelow high es
    → IsBelow more (es ++ e ∷ [])
below_push high more [] e up new below = (new, tt)
below_push high more (x ∷ es) e up new below = (omega (arith, below.0, up), below_push high more es e up new below.1)

-- one entry less
pub rising_front : (low : ℕ) (es more : List Activation) → IsRising low (es ++ more) → IsRising low es
rising_front low [] more rising = tt
rising_front low (x ∷ es) more rising = (rising.0, rising_front (x.number + 1) es more rising.1)

pub below_front : (high : ℕ) (es more : List Activation) → IsBelow high (es ++ more) → IsBelow high es
below_front high [] more below = tt
below_front high (x ∷ es) more below = (below.0, below_front high es more below.1)

pub number_of_last : (es callers : List Activation) (k called : ℕ) (e : Activation) → k + 1 ≡ length es → slice_get es k ≡ Some e
    → innermost_in (stacked es callers) called ≡ e.number
number_of_last [] callers k called e last there = cc
number_of_last (x ∷ []) callers zero called e last there = let same : x ≡ e = cc in ap (λ (a : Activation). a.number) same
number_of_last (x ∷ []) callers (suc k) called e last there = cc
number_of_last (x ∷ y ∷ es) callers zero called e last there = absurd (omega (arith, last))
number_of_last (x ∷ y ∷ es) callers (suc k) called e last there = number_of_last (y ∷ es) (x ∷ callers) k called e (omega (arith, last)) there

pub variables_of_last : (es callers : List Activation) (k called : ℕ) (e : Activation) → k + 1 ≡ length es → slice_get es k ≡ Some e
    → variables_in (stacked es callers) (innermost_in (stacked es callers) called) ≡ e.variables
variables_of_last [] callers k called e last there = cc
variables_of_last (x ∷ []) callers zero called e last there =
    let same : x ≡ e = cc in
    elim (eqb_tells x.number x.number) [
      | inl w ↦ rw w.0 (ap (λ (a : Activation). a.variables) same)
      | inr w ↦ absurd (w.1 refl)
    ]
variables_of_last (x ∷ []) callers (suc k) called e last there = cc
variables_of_last (x ∷ y ∷ es) callers zero called e last there = absurd (omega (arith, last))
variables_of_last (x ∷ y ∷ es) callers (suc k) called e last there = variables_of_last (y ∷ es) (x ∷ callers) k called e (omega (arith, last)) there

-- no entry has a number where there is none
pub none_of_none : (es : List Activation) → length es ≡ 0 → es ≡ []
none_of_none [] nil = refl
none_of_none (x ∷ es) nil = absurd (omega (arith, nil))

-- without the last entry
pub stacked_front : (es new : List Activation) (o : Option Activation) → es ≡ new ++ option_to_list o → (o ≡ None → length es ≡ 0)
    → stacked new [] ≡ callers_in (stacked es [])
stacked_front es new (Some e) is none = rw (is, stacked_push new [] e) refl
stacked_front es new None is none = emptied es new is (none refl)
  where
    emptied : (es new : List Activation) → es ≡ new ++ [] → length es ≡ 0 → stacked new [] ≡ callers_in (stacked es [])
    emptied [] new is nil = rw (sym (append-nil new) ∙ sym is) refl
    emptied (x ∷ xs) new is nil = absurd (omega (arith, nil))
