use Rattle.std.proofs.Common.{◌≡◌, ◌<◌, ◌+◌, ◌-◌, ◌^◌, suc, max, get_or, sym, arith, ◌∙◌}
use Rattle.std.proofs.lemmas.Bool.Decides.{nat_tests}
use Rattle.porch_heap.specs.declared.block.Block.{Block}
use Rattle.porch_heap.proofs.Lists.{each_at, stand_high}
use Rattle.porch_heap.proofs.After.{after_at, after_low, widest_at}
use Rattle.porch_heap.proofs.place.widest_gap.Goals as goal

pub overflow_sub-block : goal.overflow_sub-block
overflow_sub-block c =
    let low = after_low c.args.from (2 ^ 62) c.args.live.now c.loop-block.block-index (record { at = 0; ty = 0; count = 0; bytes = 0 }) c.requires c.loop-block-test.true in
    rw c.loop-block.invariant.low low

pub overflow_add-low : goal.overflow_add-low
overflow_add-low c =
    let d : Block = record { at = 0; ty = 0; count = 0; bytes = 0 } in
    let high = each_at (λ (b : Block). b.at + b.bytes < 2 ^ 62) c.args.live.now c.loop-block.block-index d (stand_high c.args.from (2 ^ 62) c.args.live.now c.requires) c.loop-block-test.true in
    grind arith

pub overflow_add-low-in-loop-block : goal.overflow_add-low-in-loop-block
overflow_add-low-in-loop-block c =
    let d : Block = record { at = 0; ty = 0; count = 0; bytes = 0 } in
    let high = each_at (λ (b : Block). b.at + b.bytes < 2 ^ 62) c.args.live.now c.loop-block.block-index d (stand_high c.args.from (2 ^ 62) c.args.live.now c.requires) c.loop-block-test.true in
    grind arith

pub loop-block-preserved : goal.loop-block-preserved
loop-block-preserved c =
    let d : Block = record { at = 0; ty = 0; count = 0; bytes = 0 } in
    let less = c.loop-block-test.true in
    let next : suc c.loop-block.block-index ≡ c.loop-block.block-index + 1 = omega arith in
    let most : c.max-most.result ≡ max c.loop-block.most ((get_or c.args.live.now c.loop-block.block-index d).at - c.loop-block.low) = grind (arith, nat_tests) in
    record {
      low = sym (rw next at (after_at c.args.from c.args.live.now c.loop-block.block-index d less));
      most = most ∙ rw (c.loop-block.invariant.low, c.loop-block.invariant.most) (sym (rw next at (widest_at c.args.from c.args.live.now c.loop-block.block-index d less)));
    }
