use Rattle.std.proofs.Common.{arith}
use Rattle.porch_scopes.proofs.Bound.{bound_there, bound_less, popped}
use Rattle.porch_scopes.proofs.bindings.unbind.Goals as goal

pub restore-requires : goal.restore-requires
restore-requires g c = record {
  there =
      let found = c.loop-left.invariant.finds c.requires.bound.0 c.requires.bound.1 in
      bound_there c.loop-left.known.entries _ _ c.requires.bound.0 c.index-layer-left.result
      (popped c.args.layer.now c.loop-left.left c.index-layer-left.result c.loop-left.invariant.within c.loop-left-test.true c.index-layer-left.is)
      found;
}

pub loop-left-preserved : goal.loop-left-preserved
loop-left-preserved g c = record {
  within = omega (arith, c.loop-left.invariant.within);
  finds = λ ls finds.
      bound_less c.loop-left.known.entries c.restore.new.known.entries _ _ ls c.index-layer-left.result
      (popped c.args.layer.now c.loop-left.left c.index-layer-left.result c.loop-left.invariant.within c.loop-left-test.true c.index-layer-left.is)
      c.restore.ensures (c.loop-left.invariant.finds ls finds);
}
