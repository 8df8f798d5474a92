use Rattle.std.proofs.Common.{replicate, sym, ap, ◌∙◌}
use Rattle.std.proofs.lemmas.List.FromFn.{length-map-range_with_len}
use Rattle.porch_sparse.specs.inside.Places.{value_at}
use Rattle.porch_sparse.proofs.Lists.{all_one}
use Rattle.porch_sparse.proofs.Written.{value_of_one, only}
use Rattle.porch_sparse.proofs.sparse.Sparse.fill.Goals as goal

pub returns : goal.returns
returns g c =
    let s = c.self.inside in
    rw (← c.self.view_is)
    (all_one _ c.args.value 0 s.len (λ i. value_of_one c.args.value _ c.clear.new.self i (only s.pattern.items c.truncate.new.self.items c.args.value c.truncate.ensures.items c.self.invariant) c.clear.ensures.empty)
    ∙ ap (λ n. replicate n c.args.value) (sym (length-map-range_with_len (value_at s.first s.pattern.items s.written) 0 s.len)))
