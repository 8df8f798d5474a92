use Rattle.std.proofs.Common.{refl}
use Rattle.porch_sparse.specs.inside.Places.{value_at}
use Rattle.porch_sparse.proofs.Lists.{first_set}
use Rattle.porch_sparse.proofs.Written.{other_first}
use Rattle.porch_sparse.proofs.sparse.Sparse.set_first.Goals as goal

pub returns : goal.returns
returns g c =
    let s = c.self.inside in
    rw (← c.self.view_is)
    (first_set (value_at s.first s.pattern.items s.written) (value_at c.args.value s.pattern.items s.written) s.len c.args.value refl
    (λ i from. other_first c.args.value s.first s.pattern.items s.written i c.self.invariant from))
