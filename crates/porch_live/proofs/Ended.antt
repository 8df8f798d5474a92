-- Entries whose objects have come to their end, and lists without them.
use Rattle.std.proofs.Common.{◌≡◌, ℕ, ◌+◌, ◌<◌, ◌≤◌, Bool, true, false, not, nat_eq, List, [], ◌∷◌, length, filter, refl, sym, ap, ◌∙◌, inl, inr, arith}
use Rattle.std.proofs.lemmas.Bool.Decides.{eqb_tells}
use Rattle.std.specs.Prelude.{if◌then◌else◌}
use Rattle.porch_objects.specs.Store.{Object, Activation, HeapObject}
use Rattle.porch_objects.specs.Pointers.{without_block}
use Rattle.porch_live.specs.inside.Entries.{IsRising, IsBelow, blocks_of, block_before, ended, is_live}
use Rattle.porch_live.proofs.Stacked.{has, none_after}

without_elsewhere : (number : ℕ) (vs : List Object) (more : List HeapObject) (n : ℕ) → nat_eq number n ≡ false
    → without_block (block_before number vs more) n ≡ block_before number vs (without_block more n)
without_elsewhere number [] more n other = refl
without_elsewhere number (o ∷ os) more n other = rw other refl

without_here : (number : ℕ) (vs : List Object) (more : List HeapObject) (n : ℕ) → nat_eq number n ≡ true → without_block more n ≡ more
    → without_block (block_before number vs more) n ≡ more
without_here number [] more n same none = none
without_here number (o ∷ os) more n same none = rw same refl

absent_without : (es : List Activation) (n : ℕ) → has es n ≡ false → without_block (blocks_of es) n ≡ blocks_of es
absent_without [] n none = refl
absent_without (e ∷ es) n none =
    elim (eqb_tells e.number n) [
      | inl w ↦ absurd (let wrong : true ≡ false = rw w.0 at none in cc)
      | inr w ↦ without_elsewhere e.number e.variables (blocks_of es) n w.0
          ∙ ap (λ (hs : List HeapObject). block_before e.number e.variables hs) (absent_without es n (rw w.0 at none))
    ]

-- the allocation of an entry that ends is gone
pub ended_without : (low : ℕ) (es : List Activation) (n : ℕ) → IsRising low es → blocks_of (ended es n) ≡ without_block (blocks_of es) n
ended_without low [] n rising = refl
ended_without low (e ∷ es) n rising =
    elim (eqb_tells e.number n) [
      | inl w ↦ rw w.0 (sym (without_here e.number e.variables (blocks_of es) n w.0 (absent_without es n (none_after low e es n rising w.1))))
      | inr w ↦ rw w.0 (ap (λ (hs : List HeapObject). block_before e.number e.variables hs) (ended_without (e.number + 1) es n rising.1)
          ∙ sym (without_elsewhere e.number e.variables (blocks_of es) n w.0))
    ]

pub rising_end : (low : ℕ) (es : List Activation) (n : ℕ) → IsRising low es → IsRising low (ended es n)
rising_end low [] n rising = tt
rising_end low (e ∷ es) n rising =
    elim (eqb_tells e.number n) [
      | inl w ↦ rw w.0 (rising.0, rising.1)
      | inr w ↦ rw w.0 (rising.0, rising_end (e.number + 1) es n rising.1)
    ]

pub below_end : (high : ℕ) (es : List Activation) (n : ℕ) → IsBelow high es → IsBelow high (ended es n)
below_end high [] n below = tt
below_end high (e ∷ es) n below =
    elim (eqb_tells e.number n) [
      | inl w ↦ rw w.0 (below.0, below.1)
      | inr w ↦ rw w.0 (below.0, below_end high es n below.1)
    ]

kept_true : (b : Bool) (e : Activation) (es : List Activation) → b ≡ true → (if b then e ∷ es else es) ≡ e ∷ es
kept_true true e es is = refl
kept_true false e es is = cc

live_before : (number : ℕ) (vs : List Object) (es : List Activation) (more : List HeapObject) → blocks_of (filter is_live es) ≡ more
    → blocks_of (filter is_live ((let e : Activation = record { number = number; variables = vs } in e) ∷ es)) ≡ block_before number vs more
live_before number [] es more rest = rest
live_before number (o ∷ os) es more rest =
    let e : Activation = record { number = number; variables = o ∷ os } in
    let some : nat_eq (length (o ∷ os)) 0 ≡ false = elim (eqb_tells (length (o ∷ os)) 0) [ inl w ↦ absurd (omega (arith, w.1)) | inr w ↦ w.0 ] in
    ap (λ es. blocks_of es) (kept_true (is_live e) e (filter is_live es) (ap (λ b. not b) some))
    ∙ ap (λ (hs : List HeapObject). let h : HeapObject = record { number = number; object = o } in h ∷ hs) rest

-- entries without an object hold no allocation
pub live_blocks : (es : List Activation) → blocks_of (filter is_live es) ≡ blocks_of es
live_blocks [] = refl
live_blocks (e ∷ es) = live_before e.number e.variables es (blocks_of es) (live_blocks es)

rising_from : (low least : ℕ) (es : List Activation) → low ≤ least → IsRising least es → IsRising low es
rising_from low least [] less rising = tt
rising_from low least (e ∷ es) less rising = (omega (arith, less, rising.0), rising.1)

rising_either : (b : Bool) (low : ℕ) (e : Activation) (es : List Activation) → low ≤ e.number → IsRising (e.number + 1) es
    → IsRising low (if b then e ∷ es else es)
rising_either true low e es least rising = (least, rising)
rising_either false low e es least rising = rising_from low (e.number + 1) es (omega (arith, least)) rising

below_either : (b : Bool) (high : ℕ) (e : Activation) (es : List Activation) → e.number < high → IsBelow high es
    → IsBelow high (if b then e ∷ es else es)
below_either true high e es most below = (most, below)
below_either false high e es most below = below

pub rising_filter : (p : Activation → Bool) (low : ℕ) (es : List Activation) → IsRising low es → IsRising low (filter p es)
rising_filter p low [] rising = tt
rising_filter p low (e ∷ es) rising = rising_either (p e) low e (filter p es) rising.0 (rising_filter p (e.number + 1) es rising.1)

pub below_filter : (p : Activation → Bool) (high : ℕ) (es : List Activation) → IsBelow high es → IsBelow high (filter p es)
below_filter p high [] below = tt
below_filter p high (e ∷ es) below = below_either (p e) high e (filter p es) below.0 (below_filter p high es below.1)
