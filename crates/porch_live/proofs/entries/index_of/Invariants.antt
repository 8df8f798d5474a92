use Rattle.std.proofs.Common.{◌≡◌, ◌-◌, ℕ, ◌<◌, ◌≤◌, length, slice_get, Some}
use Rattle.porch_objects.specs.Store.{Activation}
use Rattle.porch_live.proofs.entries.index_of.Given as goal

abbrev pub invariant-loop-low : goal.invariant-loop-low
invariant-loop-low l = record {
  within : l.high ≤ length l.entries;
  smaller : (k : ℕ) (entry : Activation) → k < l.low → slice_get l.entries k ≡ Some entry → entry.number < l.number;
  greater : (k : ℕ) (entry : Activation) → l.high ≤ k → slice_get l.entries k ≡ Some entry → l.number < entry.number;
}

abbrev pub decreases-loop-low : goal.decreases-loop-low
decreases-loop-low l = l.high - l.low
