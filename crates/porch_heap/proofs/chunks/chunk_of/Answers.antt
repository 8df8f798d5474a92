use Rattle.std.proofs.Common.{◌≡◌, ◌+◌, ◌-◌, ◌/◌, ◌≤◌, length, arith}
use Rattle.porch_heap.specs.declared.block.Block.{Block}
use Rattle.porch_heap.proofs.Linked.{ends_linked, begins_linked, each_behind}
use Rattle.porch_heap.proofs.chunks.chunk_of.Goals as goal

pub loop-low-preserved-then-from-at-2 : goal.loop-low-preserved-then-from-at-2
loop-low-preserved-then-from-at-2 c =
    let middle = c.loop-low.low + (c.loop-low.high - c.loop-low.low) / 2 in
    let less = c.loop-low-test.true in
    let last : middle + 1 - 1 ≡ middle = omega arith in
    let here = c.if-from-at-2.true in
    record {
      order = omega arith;
      within = c.loop-low.invariant.within;
      before = rw last (ends_linked c.args.base c.args.chunks.now middle c.index-chunks-middle.result c.args.at c.requires.linked (omega arith) c.index-chunks-middle.is (omega arith));
      behind = c.loop-low.invariant.behind;
    }

pub loop-low-preserved : goal.loop-low-preserved
loop-low-preserved c =
    let middle = c.loop-low.low + (c.loop-low.high - c.loop-low.low) / 2 in
    let less = c.loop-low-test.true in
    record {
      order = omega arith;
      within = omega arith;
      before = c.loop-low.invariant.before;
      behind = begins_linked c.args.base c.args.chunks.now middle c.index-chunks-middle.result c.args.at c.requires.linked (omega arith) c.index-chunks-middle.is (omega arith);
    }

pub returns-clause-behind : goal.returns-clause-behind
returns-clause-behind c =
    let over = c.loop-low-test.false in
    each_behind (λ (b : Block). c.args.at + 1 ≤ b.at) c.args.chunks.now c.loop-low.high c.saturating_sub.result (omega arith) c.loop-low.invariant.behind

pub returns-then-from-at-clause-before : goal.returns-then-from-at-clause-before
returns-then-from-at-clause-before c =
    let some = c.if-count-gt0.true in
    let low = c.if-from-at.true in
    ends_linked c.args.base c.args.chunks.now (length c.args.chunks.now - 1) c.index-chunks-count.result c.args.at c.requires.linked (omega arith) c.index-chunks-count.is (omega arith)
