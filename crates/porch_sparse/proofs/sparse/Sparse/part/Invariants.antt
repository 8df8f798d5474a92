use Rattle.std.proofs.Common.{◌≡◌, map}
use Rattle.std.specs.List.{range_with_len}
use Rattle.porch_sparse.specs.inside.Places.{value_at}
use Rattle.porch_sparse.proofs.sparse.Sparse.part.Given as goal

abbrev pub invariant-loop-ahead : goal.invariant-loop-ahead
invariant-loop-ahead g l =
    l.values.items ≡ map (value_at l.self-inside.first l.self-inside.pattern.items l.self-inside.written) (range_with_len l.at l.ahead)
