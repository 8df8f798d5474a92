use Rattle.std.proofs.Common.{take, arith}
use Rattle.porch_heap.specs.Blocks.{Each}
use Rattle.porch_heap.specs.inside.Searching.{EndsBefore}
use Rattle.porch_heap.specs.Chunks.{blocks_of}
use Rattle.porch_heap.specs.inside.ChunkRow.{blocks_at}
use Rattle.porch_heap.proofs.Lists.{each_append}
use Rattle.porch_heap.proofs.Linked.{linked_blocks}
use Rattle.porch_heap.proofs.chunks.seat_behind.Goals as goal

pub returns-clause-index : goal.returns-clause-index
returns-clause-index c =
    let less = c.if-chunk-chunks.false in
    let blocks = linked_blocks c.args.chunks.now c.chunk_of-chunk.result c.index-chunks-chunk.result (omega arith) c.index-chunks-chunk.is in
    rw (c.blocks-2.ensures.blocks, blocks) at c.index_of-index.ensures.within

pub returns-clause-before : goal.returns-clause-before
returns-clause-before c =
    let less = c.if-chunk-chunks.false in
    let blocks = linked_blocks c.args.chunks.now c.chunk_of-chunk.result c.index-chunks-chunk.result (omega arith) c.index-chunks-chunk.is in
    let here : Each (EndsBefore c.args.at) (take c.index_of-index.result (blocks_at c.args.chunks.now c.chunk_of-chunk.result)) = rw (c.blocks-2.ensures.blocks, blocks) at c.index_of-index.ensures.before in
    each_append (EndsBefore c.args.at) (blocks_of (take c.chunk_of-chunk.result c.args.chunks.now)) (take c.index_of-index.result (blocks_at c.args.chunks.now c.chunk_of-chunk.result)) c.chunk_of-chunk.ensures.before here
