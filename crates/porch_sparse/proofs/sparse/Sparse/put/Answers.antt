use Rattle.std.proofs.Common.{List, length, sym, ap, ◌∙◌, arith}
use Rattle.std.specs.List.{range_with_len}
use Rattle.std.proofs.lemmas.List.FromFn.{length-map-range_with_len}
use Rattle.porch_sparse.specs.inside.Places.{value_at, among}
use Rattle.porch_sparse.proofs.Lists.{same_values}
use Rattle.porch_sparse.proofs.Written.{written_in}
use Rattle.porch_sparse.proofs.sparse.Sparse.put.Goals as goal

pub make_places-requires-clause-short : goal.make_places-requires-clause-short
make_places-requires-clause-short g c =
    let s = c.self.inside in
    omega (arith, c.requires, length-map-range_with_len (value_at s.first s.pattern.items s.written) 0 s.len, ap length c.self.view_is, c.self.ranges.1)

pub write_all-requires-clause-short : goal.write_all-requires-clause-short
write_all-requires-clause-short g c =
    let s = c.self.inside in
    omega (arith, c.requires, length-map-range_with_len (value_at s.first s.pattern.items s.written) 0 s.len, ap length c.self.view_is, c.self.ranges.1)

pub returns-clause-put : goal.returns-clause-put
returns-clause-put g c =
    let s = c.self.inside in
    let f = value_at s.first s.pattern.items s.written in
    let n = length-map-range_with_len f 0 s.len in
    rw (← c.self.view_is)
    (same_values (value_at c.write_all.new.first s.pattern.items c.write_all.new.written) (λ i. among c.args.at c.args.values.now i (f i)) (range_with_len 0 s.len)
    (λ i. c.write_all.ensures s.pattern.items i c.self.invariant ∙ ap (λ (v : g.row.V.Denot). among c.args.at c.args.values.now i v)
    (ap (λ (p : List g.row.V.Denot). value_at s.first p c.make_places.new.written i) (sym c.deref.ensures.value)
    ∙ c.make_places.ensures.same s.first i ∙ ap (λ (p : List g.row.V.Denot). value_at s.first p s.written i) c.deref.ensures.value))
    ∙ written_in f s.len c.args.at c.args.values.now (omega (arith, c.requires, n, ap length c.self.view_is)))
