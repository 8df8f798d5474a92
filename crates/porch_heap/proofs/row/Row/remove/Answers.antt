use Rattle.std.proofs.Common.{◌<◌, ◌∙◌, ap, length, arith}
use Rattle.porch_heap.specs.Chunks.{blocks_of}
use Rattle.porch_heap.specs.inside.ChunkRow.{blocks_at, rank}
use Rattle.porch_heap.proofs.Ranks.{rank_within, length_less}
use Rattle.porch_heap.proofs.row.Row.remove.Goals as goal

pub overflow_sub-self : goal.overflow_sub-self
overflow_sub-self c =
    let cs = c.self.inside.chunks.items in
    let seat : c.args.seat.index < length (blocks_at cs c.args.seat.chunk) = rw (← c.self.view_is) at c.requires.seat in
    let less = rank_within cs c.args.seat.chunk c.args.seat.index seat in
    let counted = c.self.invariant.counted in
    omega arith

pub invariant_of-self : goal.invariant_of-self
invariant_of-self c =
    let cs = c.self.inside.chunks.items in
    let seat : c.args.seat.index < length (blocks_at cs c.args.seat.chunk) = rw (← c.self.view_is) at c.requires.seat in
    let less = rank_within cs c.args.seat.chunk c.args.seat.index seat in
    let i = c.self.invariant in
    let counted = i.counted in
    let few = i.few in
    let all = i.all in
    let some = i.some in
    let enough = i.enough in
    let enough_spare = i.enough_spare in
    let all_kept = c.take_out.ensures.all in
    let spare = c.take_out.ensures.spare in
    let memory = c.take_out.ensures.memory in
    let spares = c.take_out.ensures.spares in
    let shorter = ap length c.take_out.ensures.blocks ∙ length_less (blocks_of cs) (rank cs c.args.seat.chunk c.args.seat.index) less in
    record {
      low = i.low;
      linked = c.take_out.ensures.linked;
      counted = rw shorter (omega arith);
      few = omega arith;
      all = omega arith;
      some = omega arith;
      enough = omega arith;
      enough_spare = omega arith;
    }
