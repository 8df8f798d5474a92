use Rattle.std.proofs.Common.{◌+◌, ◌<◌, ◌∙◌, sym, ap, take, drop, length, arith, ◌≡◌}
use Rattle.porch_heap.specs.Chunks.{blocks_of}
use Rattle.porch_heap.specs.inside.ChunkRow.{rank, stop, after, blocks_at}
use Rattle.porch_heap.proofs.After.{after_append}
use Rattle.porch_heap.proofs.Linked.{linked_from, linked_blocks}
use Rattle.porch_heap.proofs.Chunked.{chunk_within}
use Rattle.porch_heap.proofs.Ranks.{take_rank}
use Rattle.porch_heap.proofs.row.Row.gap.Goals as goal

pub index-chunk-requires : goal.index-chunk-requires
index-chunk-requires c =
    let cs = c.self.inside.chunks.items in
    let seat : c.args.seat.index < length (blocks_at cs c.args.seat.chunk) = rw (← c.self.view_is) at c.requires in
    let less = chunk_within cs c.args.seat.chunk c.args.seat.index seat in
    let len = c.self.inside.chunks.ok.0 in
    omega arith

pub free_before-from-requires-clause-within : goal.free_before-from-requires-clause-within
free_before-from-requires-clause-within c =
    let cs = c.self.inside.chunks.items in
    let seat : c.args.seat.index < length (blocks_at cs c.args.seat.chunk) = rw (← c.self.view_is) at c.requires in
    let less = chunk_within cs c.args.seat.chunk c.args.seat.index seat in
    let blocks = linked_blocks cs c.args.seat.chunk c.index-chunk.result.now less c.index-chunk.ensures in
    rw (c.blocks-2.ensures.blocks, blocks) (omega arith)

pub next_at-to-requires-clause-seat : goal.next_at-to-requires-clause-seat
next_at-to-requires-clause-seat c = rw c.as_slice.ensures.value (rw (← c.self.view_is) at c.requires)

pub returns : goal.returns
returns c =
    let cs = c.self.inside.chunks.items in
    let seat : c.args.seat.index < length (blocks_at cs c.args.seat.chunk) = rw (← c.self.view_is) at c.requires in
    let less = chunk_within cs c.args.seat.chunk c.args.seat.index seat in
    let blocks = linked_blocks cs c.args.seat.chunk c.index-chunk.result.now less c.index-chunk.ensures in
    let from = linked_from c.self.inside.base cs c.args.seat.chunk c.index-chunk.result.now c.self.invariant.linked less c.index-chunk.ensures in
    let to : c.next_at-to.result ≡ stop c.args.end (drop (rank cs c.args.seat.chunk c.args.seat.index + 1) (blocks_of cs)) = rw c.as_slice.ensures.value at c.next_at-to.ensures in
    let width = c.saturating_sub.ensures in
    rw (← c.self.view_is) (record {
      from =
          c.free_before-from.ensures.free
          ∙ rw (c.from.ensures, c.blocks-2.ensures.blocks, blocks, from)
          (sym (ap (after c.self.inside.base) (take_rank cs c.args.seat.chunk c.args.seat.index (omega arith)) ∙ after_append c.self.inside.base (blocks_of (take c.args.seat.chunk cs)) (take c.args.seat.index (blocks_at cs c.args.seat.chunk))));
      bytes = rw (← to) (omega arith);
    })
