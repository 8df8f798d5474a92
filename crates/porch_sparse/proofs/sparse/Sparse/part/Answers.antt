use Rattle.std.proofs.Common.{◌+◌, List, [], ◌∷◌, ◌++◌, map, sym, ap, ◌∙◌, arith}
use Rattle.std.specs.List.{range_with_len}
use Rattle.std.proofs.lemmas.List.FromFn.{map-range_with_len_more}
use Rattle.porch_sparse.specs.inside.Places.{value_at}
use Rattle.porch_sparse.proofs.Lists.{parted}
use Rattle.porch_sparse.proofs.sparse.Sparse.part.Goals as goal

pub loop-ahead-preserved : goal.loop-ahead-preserved
loop-ahead-preserved g c =
    let s = c.self.inside in
    let f = value_at s.first s.pattern.items s.written in
    let at = c.args.at in
    let ahead = c.loop-ahead.ahead in
    c.in_ok-push.ensures.items
    ∙ ap (λ (vs : List g.row.V.Denot). vs ++ c.value_at.result ∷ []) c.loop-ahead.invariant
    ∙ ap (λ (w : g.row.V.Denot). map f (range_with_len at ahead) ++ w ∷ [])
    (c.value_at.ensures ∙ ap (λ (p : List g.row.V.Denot). value_at s.first p s.written (at + ahead)) c.deref.ensures.value)
    ∙ sym (map-range_with_len_more f at ahead (at + ahead) (omega arith))

pub returns : goal.returns
returns g c =
    let s = c.self.inside in
    rw (← c.self.view_is)
    (c.loop-ahead.invariant
    ∙ parted (value_at s.first s.pattern.items s.written) s.len c.args.at c.args.count c.loop-ahead.ahead
    (λ l. omega (arith, l, c.loop-ahead-test.false, c.loop-ahead.auto.ahead-end, c.min-count.ensures, c.saturating_sub.ensures))
    (λ l. omega (arith, l, c.loop-ahead-test.false, c.loop-ahead.auto.ahead-end, c.min-count.ensures, c.saturating_sub.ensures)))
