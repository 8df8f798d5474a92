use Rattle.std.proofs.Common.{sym}
use Rattle.std.proofs.lemmas.List.FromFn.{length-map-range_with_len}
use Rattle.porch_sparse.specs.inside.Places.{value_at}
use Rattle.porch_sparse.proofs.sparse.Sparse.len.Goals as goal

pub returns : goal.returns
returns g c = rw (← c.self.view_is) (sym (length-map-range_with_len (value_at c.self.inside.first c.self.inside.pattern.items c.self.inside.written) 0 c.self.inside.len))
