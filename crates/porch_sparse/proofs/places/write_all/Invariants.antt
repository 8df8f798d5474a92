use Rattle.std.proofs.Common.{◌≡◌, ◌≤◌, ◌<◌, ◌+◌, ℕ, List, true, take, length}
use Rattle.porch_sparse.specs.inside.Places.{value_at, has_place, among}
use Rattle.porch_sparse.proofs.places.write_all.Given as goal

abbrev pub invariant-loop-ahead : goal.invariant-loop-ahead
invariant-loop-ahead g l =
    ((pattern : List g.row.V.Denot) (i : ℕ) → 0 < length pattern
    → value_at l.first pattern l.written i ≡ among l.at (take l.ahead l.values) i (value_at l.initial.first pattern l.initial.written i))
    × ((i : ℕ) → l.at ≤ i → i < l.at + length l.values → has_place l.written i ≡ true)
