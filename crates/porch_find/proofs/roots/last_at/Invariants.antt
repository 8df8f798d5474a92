use Rattle.std.proofs.Common.{◌≡◌, ℕ, ◌<◌, ◌≤◌, ◌-◌, length, slice_get, Some}
use Rattle.porch_find.specs.declared.roots.Root.{Root}
use Rattle.porch_find.proofs.roots.last_at.Given as goal

abbrev pub invariant-halves : goal.invariant-halves
invariant-halves l = record {
  order : l.low ≤ l.high;
  within : l.high ≤ length l.roots;
  begun : (j : ℕ) (r : Root) → j < l.low → slice_get l.roots j ≡ Some r → r.at ≤ l.place;
  later : (j : ℕ) (r : Root) → l.high ≤ j → slice_get l.roots j ≡ Some r → l.place < r.at;
}

abbrev pub decreases-halves : goal.decreases-halves
decreases-halves l = l.high - l.low
