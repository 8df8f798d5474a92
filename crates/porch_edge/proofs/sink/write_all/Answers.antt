use Rattle.std.proofs.Common.{ℕ, arith, length-take, length-drop}
use Rattle.porch_edge.proofs.Growth.{begun, more}
use Rattle.porch_edge.proofs.sink.write_all.Goals as goal

pub returns-in-Err-clause-gained : goal.returns-in-Err-clause-gained
returns-in-Err-clause-gained g c =
    begun _ _ _ c.args.bytes.now c.loop-written.written c.loop-written.invariant.grew c.in-Err.ensures.gained

pub loop-written-preserved : goal.loop-written-preserved
loop-written-preserved g c = record {
  within = omega (arith, length-take {A = ℕ}, length-drop {A = ℕ}, c.in-Ok.ensures.bound);
  grew = more _ _ _ c.args.bytes.now c.loop-written.written c.in-Ok.count c.loop-written.invariant.grew c.in-Ok.ensures.gained;
  later = omega (arith, c.in-Ok.ensures.cause.later);
}
