use Rattle.std.proofs.Common.{◌<◌, length, arith, add-one}
use Rattle.porch_heap.specs.declared.hint.Hint.{Hint}
use Rattle.porch_heap.specs.inside.Hints.{lowered}
use Rattle.porch_heap.proofs.Hints.{lower_done, lower_rest}
use Rattle.porch_heap.proofs.hint.lower.Goals as goal

pub loop-hint-preserved : goal.loop-hint-preserved
loop-hint-preserved c =
    let d : Hint = record { bytes = 0; align = 0; low = 0 } in
    let less = c.loop-hint-test.true in
    let same = c.loop-hint.auto.hints in
    let first : c.loop-hint.hint-index < length c.args.hints.now = omega arith in
    let here : c.loop-hint.hint-index < length c.loop-hint.hints = omega arith in
    record {
      done = rw add-one (lower_done (lowered c.args.gap.from c.args.gap.bytes) c.loop-hint.hints c.args.hints.now c.loop-hint.hint-index _ d here first c.loop-hint.invariant.done c.loop-hint.invariant.rest c.lowered_to.ensures);
      rest = rw add-one (lower_rest c.loop-hint.hints c.args.hints.now c.loop-hint.hint-index _ here first c.loop-hint.invariant.rest);
    }
