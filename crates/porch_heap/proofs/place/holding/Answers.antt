use Rattle.std.proofs.Common.{◌≤◌, ◌+◌, ◌^◌, sym, arith}
use Rattle.porch_heap.specs.declared.block.Block.{Block}
use Rattle.porch_heap.proofs.Lists.{head_at, head_past}
use Rattle.porch_heap.proofs.Changes.{round_none, round_some}
use Rattle.porch_heap.proofs.place.holding.Goals as goal

pub returns-then-index-live : goal.returns-then-index-live
returns-then-index-live c =
    let past = c.if-index-live.true in
    sym (round_none c.args.from (2 ^ 62) c.args.at c.args.live.now c.index_of-index.result c.requires.stand c.index_of-index.ensures.before (head_past (λ (b : Block). c.args.at + 1 ≤ b.at) c.args.live.now c.index_of-index.result (omega arith)))

pub returns-then-block-at : goal.returns-then-block-at
returns-then-block-at c =
    let d : Block = record { at = 0; ty = 0; count = 0; bytes = 0 } in
    let less = c.if-index-live.false in
    let above = c.if-block-at.true in
    sym (round_none c.args.from (2 ^ 62) c.args.at c.args.live.now c.index_of-index.result c.requires.stand c.index_of-index.ensures.before (head_at (λ (b : Block). c.args.at + 1 ≤ b.at) c.args.live.now c.index_of-index.result d (omega arith) (omega arith)))

pub returns : goal.returns
returns c =
    let d : Block = record { at = 0; ty = 0; count = 0; bytes = 0 } in
    let less = c.if-index-live.false in
    sym (round_some c.args.at c.args.live.now c.index_of-index.result d (omega arith) c.index_of-index.ensures.before c.index_of-index.ensures.here c.if-block-at.false)
