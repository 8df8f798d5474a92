use Rattle.std.proofs.Common.{arith}
use Rattle.porch_live.proofs.Rising.{before_smaller, after_greater}
use Rattle.porch_live.proofs.entries.index_of.Goals as goal

pub loop-low-preserved-then-found-number-2 : goal.loop-low-preserved-then-found-number-2
loop-low-preserved-then-found-number-2 c = record {
  within = c.loop-low.invariant.within;
  smaller = before_smaller c.args.entries.now _ c.index-entries-middle.result c.args.number c.requires (omega arith) c.index-entries-middle.is (omega arith);
  greater = c.loop-low.invariant.greater;
}

pub loop-low-preserved : goal.loop-low-preserved
loop-low-preserved c = record {
  within = omega arith;
  smaller = c.loop-low.invariant.smaller;
  greater = after_greater c.args.entries.now _ c.index-entries-middle.result c.args.number c.requires (omega arith) c.index-entries-middle.is (omega (arith, c.number-found.ensures));
}
