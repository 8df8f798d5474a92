use Rattle.std.proofs.Common.{◌≡◌, ◌≤◌, ◌-◌, drop}
use Rattle.std.specs.List.{range_with_len}
use Rattle.porch_flat.specs.whole.Rewritten.{same_numbers}
use Rattle.porch_flat.proofs.whole.modes.are_in_order.Given as goal

abbrev pub invariant-loop-at : goal.invariant-loop-at
invariant-loop-at l =
    (same_numbers l.vs (range_with_len 0 l.count) ≡ same_numbers (drop l.at l.vs) (range_with_len l.at (l.count - l.at)))
    × (l.at ≤ l.count)
