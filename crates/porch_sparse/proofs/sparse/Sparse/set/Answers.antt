use Rattle.std.proofs.Common.{ℕ, ◌+◌, List, nat_eq, length, ap, sym, ◌∙◌, arith}
use Rattle.std.specs.Prelude.{if◌then◌else◌}
use Rattle.std.proofs.lemmas.List.{set_past}
use Rattle.std.proofs.lemmas.List.FromFn.{length-map-range_with_len}
use Rattle.porch_sparse.specs.inside.Places.{value_at}
use Rattle.porch_sparse.proofs.Lists.{one_set}
use Rattle.porch_sparse.proofs.Written.{one_written, others_stay}
use Rattle.porch_sparse.proofs.sparse.Sparse.set.Goals as goal

pub returns-then-at-self-clause-set : goal.returns-then-at-self-clause-set
returns-then-at-self-clause-set g c =
    let s = c.self.inside in
    sym (set_past c.args.self.now c.args.at c.args.value
    (omega (arith, ap length c.self.view_is, length-map-range_with_len (value_at s.first s.pattern.items s.written) 0 s.len, c.if-at-self.true)))

pub returns-clause-set : goal.returns-clause-set
returns-clause-set g c =
    let s = c.self.inside in
    let f = value_at s.first s.pattern.items s.written in
    let at = c.args.at in
    let set = λ (i : ℕ).
    c.write.ensures.changed s.pattern.items i c.self.invariant
    ∙ ap (λ (v : g.row.V.Denot). if nat_eq i at then c.args.value else v)
    (ap (λ (p : List g.row.V.Denot). value_at s.first p c.make_place.new.written i) (sym c.deref.ensures.value)
    ∙ c.make_place.ensures.same s.first i ∙ ap (λ (p : List g.row.V.Denot). value_at s.first p s.written i) c.deref.ensures.value) in
    rw (← c.self.view_is)
    (one_set f (value_at c.write.new.first s.pattern.items c.write.new.written) 0 s.len at c.args.value (omega (arith, c.if-at-self.false))
    (one_written at c.args.value (f (0 + at)) (0 + at) _ (omega arith) (set (0 + at))) (λ i apart. others_stay at i c.args.value (f i) _ (λ e. apart (omega (arith, e))) (set i)))
