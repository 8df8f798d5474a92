use Rattle.std.proofs.Common.{ap, sym, add-one, ◌∙◌}
use Rattle.std.proofs.lemmas.List.{take_all}
use Rattle.porch_heap.specs.Blocks.{block_around}
use Rattle.porch_heap.specs.Chunks.{blocks_of}
use Rattle.porch_heap.proofs.Linked.{linked_blocks}
use Rattle.porch_heap.proofs.Ranks.{round_chunk, round_past}
use Rattle.porch_heap.proofs.chunks.held.Goals as goal

pub returns-then-chunk-chunks : goal.returns-then-chunk-chunks
returns-then-chunk-chunks c =
    let all = take_all c.chunk_of-chunk.result c.args.chunks.now c.if-chunk-chunks.true in
    sym (round_past c.args.at (blocks_of c.args.chunks.now) (rw all at c.chunk_of-chunk.ensures.before))

pub returns : goal.returns
returns c =
    let chunk = c.chunk_of-chunk.result in
    let blocks = c.blocks-2.ensures.blocks ∙ linked_blocks c.args.chunks.now chunk c.index-chunks-chunk.result c.if-chunk-chunks.false c.index-chunks-chunk.is in
    c.holding.ensures ∙ ap (block_around c.args.at) blocks ∙ sym (round_chunk c.args.at c.args.chunks.now chunk c.chunk_of-chunk.ensures.before (rw (add-one chunk) at c.chunk_of-chunk.ensures.behind))
