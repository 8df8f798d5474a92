-- Entries stay in order.
use Rattle.std.proofs.Common.{◌≡◌, ℕ, ◌+◌, ◌++◌, List, [], ◌∷◌, arith}
use Rattle.porch_objects.specs.Store.{Object, Activation, changed_calls}
use Rattle.porch_live.specs.inside.Entries.{AreEntries}
use Rattle.porch_live.proofs.Stacked.{rising_change, below_change, rising_push, below_push}

module _ (change : Object → Object) (n index : ℕ) (calls blocks : List Activation) (called allocated : ℕ) where
  pub call_changed : (new : List Activation) → new ≡ changed_calls change calls n index → AreEntries calls blocks called allocated
      → AreEntries new blocks called allocated
  call_changed new is kept = rw is (record {
    calls_rising = rising_change change n index 0 calls kept.calls_rising;
    calls_made = below_change change n index called calls kept.calls_made;
    blocks_rising = kept.blocks_rising;
    blocks_made = kept.blocks_made;
  })

  pub block_changed : (new : List Activation) → new ≡ changed_calls change blocks n index → AreEntries calls blocks called allocated
      → AreEntries calls new called allocated
  block_changed new is kept = rw is (record {
    calls_rising = kept.calls_rising;
    calls_made = kept.calls_made;
    blocks_rising = rising_change change n index 0 blocks kept.blocks_rising;
    blocks_made = below_change change n index allocated blocks kept.blocks_made;
  })

module _ (calls blocks : List Activation) (called allocated : ℕ) where
  pub call_made : (new : List Activation) (e : Activation) → new ≡ calls ++ e ∷ [] → e.number ≡ called → AreEntries calls blocks called allocated
      → AreEntries new blocks (called + 1) allocated
  call_made new e is number kept = rw is (record {
    calls_rising = rising_push 0 calls e (omega arith) kept.calls_rising (rw number kept.calls_made);
    calls_made = below_push called (called + 1) calls e (omega arith) (omega (arith, number)) kept.calls_made;
    blocks_rising = kept.blocks_rising;
    blocks_made = kept.blocks_made;
  })

  pub block_made : (new : List Activation) (e : Activation) → new ≡ blocks ++ e ∷ [] → e.number ≡ allocated → AreEntries calls blocks called allocated
      → AreEntries calls new called (allocated + 1)
  block_made new e is number kept = rw is (record {
    calls_rising = kept.calls_rising;
    calls_made = kept.calls_made;
    blocks_rising = rising_push 0 blocks e (omega arith) kept.blocks_rising (rw number kept.blocks_made);
    blocks_made = below_push allocated (allocated + 1) blocks e (omega arith) (omega (arith, number)) kept.blocks_made;
  })
