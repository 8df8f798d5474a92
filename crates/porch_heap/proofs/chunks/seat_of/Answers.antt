use Rattle.std.proofs.Common.{◌≡◌, ◌≢◌, ◌+◌, ◌≤◌, take, arith, add-one, ◌∙◌}
use Rattle.porch_heap.specs.declared.block.Block.{Block}
use Rattle.porch_heap.specs.inside.Searching.{EndsBefore}
use Rattle.porch_heap.specs.Chunks.{blocks_of}
use Rattle.porch_heap.proofs.Lists.{each_map}
use Rattle.porch_heap.proofs.Linked.{linked_blocks, each_chunks}
use Rattle.porch_heap.proofs.Ranks.{head_rank}
use Rattle.porch_heap.proofs.chunks.seat_of.Goals as goal

pub returns-in-Some-clause-found : goal.returns-in-Some-clause-found
returns-in-Some-clause-found c =
    let blocks = c.blocks-2.ensures.blocks ∙ linked_blocks c.args.chunks.now c.chunk_of-chunk.result c.index-chunks-chunk.result c.if-chunk-chunks.false c.index-chunks-chunk.is in
    rw blocks at c.in-Some.ensures.found

pub returns-in-Some-clause-begins : goal.returns-in-Some-clause-begins
returns-in-Some-clause-begins c =
    let blocks = c.blocks-2.ensures.blocks ∙ linked_blocks c.args.chunks.now c.chunk_of-chunk.result c.index-chunks-chunk.result c.if-chunk-chunks.false c.index-chunks-chunk.is in
    head_rank (λ (b : Block). b.at ≡ c.args.at) c.args.chunks.now c.chunk_of-chunk.result c.in-Some.index (rw blocks at c.in-Some.ensures.found) (rw blocks at c.in-Some.ensures.begins)

pub returns-in-None-clause-none : goal.returns-in-None-clause-none
returns-in-None-clause-none c =
    let chunk = c.chunk_of-chunk.result in
    let blocks = c.blocks-2.ensures.blocks ∙ linked_blocks c.args.chunks.now chunk c.index-chunks-chunk.result c.if-chunk-chunks.false c.index-chunks-chunk.is in
    each_chunks (λ (b : Block). b.at ≢ c.args.at) c.args.chunks.now chunk
    (each_map (EndsBefore c.args.at) (λ (b : Block). b.at ≢ c.args.at) (λ b k. omega arith) (blocks_of (take chunk c.args.chunks.now)) c.chunk_of-chunk.ensures.before)
    (rw blocks at c.in-None.ensures.none)
    (each_map (λ (b : Block). c.args.at + 1 ≤ b.at) (λ (b : Block). b.at ≢ c.args.at) (λ b k. omega arith) _ (rw (add-one chunk) at c.chunk_of-chunk.ensures.behind))
