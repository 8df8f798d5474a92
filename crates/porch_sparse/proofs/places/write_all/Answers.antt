use Rattle.std.proofs.Common.{◌+◌, nat_eq, ap, ◌∙◌}
use Rattle.std.specs.Prelude.{if◌then◌else◌}
use Rattle.porch_sparse.proofs.Written.{among_more}
use Rattle.porch_sparse.proofs.places.write_all.Goals as goal

pub loop-ahead-preserved : goal.loop-ahead-preserved
loop-ahead-preserved g c = (
  (λ pattern i some.
      let v = c.index-values-ahead.result in
      let at = c.args.at in
      let ahead = c.loop-ahead.ahead in
      c.write.ensures.changed pattern i some
      ∙ ap (λ (e : g.row.V.Denot). if nat_eq i (at + ahead) then v else e) (c.loop-ahead.invariant.0 pattern i some)
      ∙ among_more at ahead c.args.values.now i v _ c.loop-ahead-test.true c.index-values-ahead.is),
  (λ i from within. c.write.ensures.kept i (c.loop-ahead.invariant.1 i from within)),
)
