use Rattle.std.proofs.Common.{◌≡◌, ◌≤◌, ◌<◌, ◌+◌, ℕ, true}
use Rattle.porch_sparse.specs.inside.Places.{value_at, has_place}
use Rattle.porch_sparse.proofs.places.make_places.Given as goal

abbrev pub invariant-loop-ahead : goal.invariant-loop-ahead
invariant-loop-ahead g l =
    ((first : g.row.V.Denot) (i : ℕ) → value_at first l.pattern l.written i ≡ value_at first l.pattern l.initial.written i)
    × ((i : ℕ) → l.at ≤ i → i < l.at + l.ahead → has_place l.written i ≡ true)
