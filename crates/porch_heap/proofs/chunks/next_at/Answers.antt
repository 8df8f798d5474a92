use Rattle.std.proofs.Common.{◌≡◌, ◌≤◌, ◌<◌, ◌+◌, suc, length, sym, ◌∙◌, arith}
use Rattle.porch_heap.specs.declared.block.Block.{Block}
use Rattle.porch_heap.specs.inside.ChunkRow.{blocks_at}
use Rattle.porch_heap.proofs.Chunked.{chunk_within}
use Rattle.porch_heap.proofs.Linked.{linked_blocks}
use Rattle.porch_heap.proofs.Ranks.{next_within, next_chunk, next_end, some_blocks}
use Rattle.porch_heap.proofs.chunks.next_at.Goals as goal

pub offset_bounds-chunks-seat : goal.offset_bounds-chunks-seat
offset_bounds-chunks-seat c =
    let less = chunk_within c.args.chunks.now c.args.seat.chunk c.args.seat.index c.requires.seat in
    omega arith

pub bounds-chunks-seat : goal.bounds-chunks-seat
bounds-chunks-seat c = chunk_within c.args.chunks.now c.args.seat.chunk c.args.seat.index c.requires.seat

pub overflow_add-seat : goal.overflow_add-seat
overflow_add-seat c =
    let less = chunk_within c.args.chunks.now c.args.seat.chunk c.args.seat.index c.requires.seat in
    let blocks = linked_blocks c.args.chunks.now c.args.seat.chunk c.index-chunks-seat.result less c.index-chunks-seat.is in
    let few : length (blocks_at c.args.chunks.now c.args.seat.chunk) ≤ 128 = rw blocks at c.blocks-blocks.ensures.few in
    let seat = c.requires.seat in
    grind arith

pub returns-then-seat-blocks : goal.returns-then-seat-blocks
returns-then-seat-blocks c =
    let d : Block = record { at = 0; ty = 0; count = 0; bytes = 0 } in
    let less = chunk_within c.args.chunks.now c.args.seat.chunk c.args.seat.index c.requires.seat in
    let blocks : c.blocks-blocks.result.now ≡ blocks_at c.args.chunks.now c.args.seat.chunk = c.blocks-blocks.ensures.blocks ∙ linked_blocks c.args.chunks.now c.args.seat.chunk c.index-chunks-seat.result less c.index-chunks-seat.is in
    let next : suc c.args.seat.index ≡ c.args.seat.index + 1 = omega arith in
    let within : suc c.args.seat.index < length (blocks_at c.args.chunks.now c.args.seat.chunk) = rw next (rw blocks at c.if-seat-blocks.true) in
    rw blocks (sym (rw next at (next_within c.args.end c.args.chunks.now c.args.seat.chunk c.args.seat.index d within)))

pub overflow_add-seat-2 : goal.overflow_add-seat-2
overflow_add-seat-2 c =
    let less = chunk_within c.args.chunks.now c.args.seat.chunk c.args.seat.index c.requires.seat in
    grind arith

pub bounds-blocks-0 : goal.bounds-blocks-0
bounds-blocks-0 c =
    let blocks : c.blocks-then-seat-chunks.result.now ≡ blocks_at c.args.chunks.now (c.args.seat.chunk + 1) = c.blocks-then-seat-chunks.ensures.blocks ∙ linked_blocks c.args.chunks.now (c.args.seat.chunk + 1) c.index-chunks-seat-then-seat-chunks.result c.if-seat-chunks.true c.index-chunks-seat-then-seat-chunks.is in
    rw blocks (some_blocks c.args.base c.args.chunks.now (c.args.seat.chunk + 1) c.requires.linked c.if-seat-chunks.true)

pub returns-then-seat-chunks : goal.returns-then-seat-chunks
returns-then-seat-chunks c =
    let d : Block = record { at = 0; ty = 0; count = 0; bytes = 0 } in
    let less = chunk_within c.args.chunks.now c.args.seat.chunk c.args.seat.index c.requires.seat in
    let here : c.blocks-blocks.result.now ≡ blocks_at c.args.chunks.now c.args.seat.chunk = c.blocks-blocks.ensures.blocks ∙ linked_blocks c.args.chunks.now c.args.seat.chunk c.index-chunks-seat.result less c.index-chunks-seat.is in
    let blocks : c.blocks-then-seat-chunks.result.now ≡ blocks_at c.args.chunks.now (c.args.seat.chunk + 1) = c.blocks-then-seat-chunks.ensures.blocks ∙ linked_blocks c.args.chunks.now (c.args.seat.chunk + 1) c.index-chunks-seat-then-seat-chunks.result c.if-seat-chunks.true c.index-chunks-seat-then-seat-chunks.is in
    let some = some_blocks c.args.base c.args.chunks.now (c.args.seat.chunk + 1) c.requires.linked c.if-seat-chunks.true in
    let last = rw here at c.if-seat-blocks.false in
    let next : suc c.args.seat.chunk ≡ c.args.seat.chunk + 1 = omega arith in
    rw blocks (sym (rw next at (next_chunk c.args.end c.args.chunks.now c.args.seat.chunk c.args.seat.index d c.requires.seat (omega arith) (rw next some))))

pub returns : goal.returns
returns c =
    let less = chunk_within c.args.chunks.now c.args.seat.chunk c.args.seat.index c.requires.seat in
    let here : c.blocks-blocks.result.now ≡ blocks_at c.args.chunks.now c.args.seat.chunk = c.blocks-blocks.ensures.blocks ∙ linked_blocks c.args.chunks.now c.args.seat.chunk c.index-chunks-seat.result less c.index-chunks-seat.is in
    let last = rw here at c.if-seat-blocks.false in
    let past = c.if-seat-chunks.false in
    sym (next_end c.args.end c.args.chunks.now c.args.seat.chunk c.args.seat.index c.requires.seat (omega arith) (omega arith))
