use Rattle.std.proofs.Common.{◌≡◌, ◌<◌, ◌+◌, ◌^◌, suc, get_or, take, sym, add-one, arith, max, ◌-◌}
use Rattle.std.proofs.lemmas.Bool.Decides.{nat_tests}
use Rattle.porch_heap.specs.declared.block.Block.{Block}
use Rattle.porch_heap.specs.inside.ChunkRow.{HasNoRoom, after}
use Rattle.porch_heap.proofs.Lists.{each_at, stand_high}
use Rattle.porch_heap.proofs.After.{after_at, no_room_at, no_room_known, no_room_more}
use Rattle.porch_heap.proofs.place.first_in.Goals as goal

pub loop-index-init : goal.loop-index-init
loop-index-init c = record { low = c.free_before-low.ensures.free; small = c.free_before-low.ensures.small; none = c.requires.none; least = no_room_known c.args.align c.args.bytes c.known-least.result c.args.from c.args.live.now c.args.start c.known-least.ensures.some c.requires.none; below = c.known-least.ensures.below }

pub overflow_add-low : goal.overflow_add-low
overflow_add-low c =
    let d : Block = record { at = 0; ty = 0; count = 0; bytes = 0 } in
    let high = each_at (λ (b : Block). b.at + b.bytes < 2 ^ 62) c.args.live.now c.loop-index.index d (stand_high c.args.from (2 ^ 62) c.args.live.now c.requires.stand) c.loop-index-test.true in
    grind arith

pub overflow_add-low-in-loop-index : goal.overflow_add-low-in-loop-index
overflow_add-low-in-loop-index c =
    let d : Block = record { at = 0; ty = 0; count = 0; bytes = 0 } in
    let high = each_at (λ (b : Block). b.at + b.bytes < 2 ^ 62) c.args.live.now c.loop-index.index d (stand_high c.args.from (2 ^ 62) c.args.live.now c.requires.stand) c.loop-index-test.true in
    grind arith

pub loop-index-preserved : goal.loop-index-preserved
loop-index-preserved c =
    let d : Block = record { at = 0; ty = 0; count = 0; bytes = 0 } in
    let less = c.loop-index-test.true in
    let high = each_at (λ (b : Block). b.at + b.bytes < 2 ^ 62) c.args.live.now c.loop-index.index d (stand_high c.args.from (2 ^ 62) c.args.live.now c.requires.stand) less in
    let block = get_or c.args.live.now c.loop-index.index d in
    let full : HasNoRoom c.args.align c.args.bytes (after c.args.from (take c.loop-index.index c.args.live.now)) block.at =
    λ at multiple low. let near = c.rounded_up-at.ensures.least at (rw c.loop-index.invariant.low low) multiple in let k = c.if-at-bytes.false in omega arith
    in
    let least : c.max-least.result ≡ max c.loop-index.least (block.at - c.rounded_up-at.result) = grind (arith, nat_tests) in
    let gap : HasNoRoom c.args.align c.max-least.result (after c.args.from (take c.loop-index.index c.args.live.now)) block.at =
    λ at multiple low. let near = c.rounded_up-at.ensures.least at (rw c.loop-index.invariant.low low) multiple in omega arith
    in
    let known = no_room_more c.args.align c.loop-index.least c.max-least.result c.args.from (take c.loop-index.index c.args.live.now) (omega arith) c.loop-index.invariant.least in
    let below = c.loop-index.invariant.below in
    let past = c.if-at-bytes.false in
    record {
      low = let n : suc c.loop-index.index ≡ c.loop-index.index + 1 = omega arith in sym (rw n at (after_at c.args.from c.args.live.now c.loop-index.index d less));
      small = omega arith;
      none = rw add-one (no_room_at c.args.align c.args.bytes c.args.from c.args.live.now c.loop-index.index d less c.loop-index.invariant.none full);
      least = rw add-one (no_room_at c.args.align c.max-least.result c.args.from c.args.live.now c.loop-index.index d less known gap);
      below = omega arith;
    }
