-- The allocations of entries.
use Rattle.std.proofs.Common.{◌≡◌, ℕ, ◌+◌, true, false, nat_eq, List, [], ◌∷◌, ◌++◌, None, refl, ap, ◌∙◌, inl, inr, slice_get}
use Rattle.std.proofs.lemmas.Bool.Decides.{eqb_tells}
use Rattle.porch_objects.specs.Store.{Object, Activation, HeapObject, variables_in, block_in, changed_at, changed_calls, changed_blocks}
use Rattle.porch_live.specs.inside.Entries.{IsRising, blocks_of, block_before}
use Rattle.porch_live.proofs.Stacked.{has, none_after}

-- what stands before other allocations
block_elsewhere : (number : ℕ) (vs : List Object) (more : List HeapObject) (n : ℕ) → nat_eq number n ≡ false
    → block_in (block_before number vs more) n ≡ block_in more n
block_elsewhere number [] more n other = refl
block_elsewhere number (o ∷ os) more n other = rw other refl

block_here : (number : ℕ) (vs : List Object) (more : List HeapObject) (n : ℕ) → nat_eq number n ≡ true → block_in more n ≡ None
    → block_in (block_before number vs more) n ≡ slice_get vs 0
block_here number [] more n same none = none
block_here number (o ∷ os) more n same none = rw same refl

absent_block : (es : List Activation) (n : ℕ) → has es n ≡ false → block_in (blocks_of es) n ≡ None
absent_block [] n none = refl
absent_block (e ∷ es) n none =
    elim (eqb_tells e.number n) [
      | inl w ↦ absurd (let wrong : true ≡ false = rw w.0 at none in cc)
      | inr w ↦ block_elsewhere e.number e.variables (blocks_of es) n w.0 ∙ absent_block es n (rw w.0 at none)
    ]

-- an allocation is the first object of its entry
pub block_of_entry : (low : ℕ) (es : List Activation) (n : ℕ) → IsRising low es → block_in (blocks_of es) n ≡ slice_get (variables_in es n) 0
block_of_entry low [] n rising = refl
block_of_entry low (e ∷ es) n rising =
    elim (eqb_tells e.number n) [
      | inl w ↦ block_here e.number e.variables (blocks_of es) n w.0 (absent_block es n (none_after low e es n rising w.1))
          ∙ (rw w.0 refl)
      | inr w ↦ block_elsewhere e.number e.variables (blocks_of es) n w.0 ∙ block_of_entry (e.number + 1) es n rising.1 ∙ (rw w.0 refl)
    ]

module _ (change : Object → Object) (n : ℕ) where
  change_elsewhere : (number : ℕ) (vs : List Object) (more : List HeapObject) → nat_eq number n ≡ false
      → changed_blocks change (block_before number vs more) n ≡ block_before number vs (changed_blocks change more n)
  change_elsewhere number [] more other = refl
  change_elsewhere number (o ∷ os) more other = rw other refl

  change_here : (number : ℕ) (vs : List Object) (more : List HeapObject) → nat_eq number n ≡ true → changed_blocks change more n ≡ more
      → changed_blocks change (block_before number vs more) n ≡ block_before number (changed_at change vs (slice_get vs 0) 0) more
  change_here number [] more same none = none
  change_here number (o ∷ os) more same none = rw same refl

  absent_block_change : (es : List Activation) → has es n ≡ false → changed_blocks change (blocks_of es) n ≡ blocks_of es
  absent_block_change [] none = refl
  absent_block_change (e ∷ es) none =
      elim (eqb_tells e.number n) [
        | inl w ↦ absurd (let wrong : true ≡ false = rw w.0 at none in cc)
        | inr w ↦ change_elsewhere e.number e.variables (blocks_of es) w.0
            ∙ ap (λ (hs : List HeapObject). block_before e.number e.variables hs) (absent_block_change es (rw w.0 at none))
      ]

  -- a change of an allocation changes the first object of its entry
  pub block_change : (low : ℕ) (es : List Activation) → IsRising low es
      → changed_blocks change (blocks_of es) n ≡ blocks_of (changed_calls change es n 0)
  block_change low [] rising = refl
  block_change low (e ∷ es) rising =
      elim (eqb_tells e.number n) [
        | inl w ↦ change_here e.number e.variables (blocks_of es) w.0 (absent_block_change es (none_after low e es n rising w.1)) ∙ (rw w.0 refl)
        | inr w ↦ change_elsewhere e.number e.variables (blocks_of es) w.0
            ∙ ap (λ (hs : List HeapObject). block_before e.number e.variables hs) (block_change (e.number + 1) es rising.1) ∙ (rw w.0 refl)
      ]

-- one allocation more
pub block_push : (es : List Activation) (n : ℕ) (o : Object) (e : Activation) → e ≡ record { number = n; variables = o ∷ [] }
    → blocks_of (es ++ e ∷ []) ≡ blocks_of es ++ record { number = n; object = o } ∷ []
block_push [] n o e is = rw is refl
block_push (x ∷ es) n o e is =
    ap (λ (hs : List HeapObject). block_before x.number x.variables hs) (block_push es n o e is) ∙ block_joined x.number x.variables (blocks_of es) _
  where
    block_joined : (number : ℕ) (vs : List Object) (more others : List HeapObject) → block_before number vs (more ++ others) ≡ block_before number vs more ++ others
    block_joined number [] more others = refl
    block_joined number (v ∷ vs) more others = refl
