use Rattle.std.proofs.Common.{arith}
use Rattle.porch_heap.proofs.After.{after_low}
use Rattle.porch_heap.proofs.place.width.Goals as goal

pub overflow_sub-result : goal.overflow_sub-result
overflow_sub-result c =
    let within = c.requires.within in
    let other = c.if-index-live.false in
    let free = c.free_before.ensures.free in
    let low = after_low c.args.from _ c.args.live.now c.args.index (record { at = 0; ty = 0; count = 0; bytes = 0 }) c.requires.stand (omega arith) in
    omega arith
