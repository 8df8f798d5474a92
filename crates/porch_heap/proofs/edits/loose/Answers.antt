use Rattle.std.proofs.Common.{◌+◌, ◌∙◌, length, ap, arith}
use Rattle.porch_heap.specs.Chunks.{ChunkState}
use Rattle.porch_heap.proofs.Chunked.{read_blocks}
use Rattle.porch_heap.proofs.Loose.{next_full}
use Rattle.porch_heap.proofs.edits.loose.Goals as goal

pub loop-lower-preserved : goal.loop-lower-preserved
loop-lower-preserved c =
    let cs = c.args.chunks.now in
    let even = c.loop-lower.invariant.even in
    let below = c.loop-lower.invariant.below in
    let here = ap (λ (z : ChunkState). length z.blocks) c.index-chunks-lower.is ∙ ap length (read_blocks cs c.loop-lower.lower c.index-chunks-lower.result (omega arith)) in
    let next = ap (λ (z : ChunkState). length z.blocks) c.index-chunks-lower-in-loop-lower.is ∙ ap length (read_blocks cs (c.loop-lower.lower + 1) c.index-chunks-lower-in-loop-lower.result (omega arith)) in
    next_full cs c.loop-lower.lower c.requires.all c.requires.few c.loop-lower.invariant (omega arith)

pub returns-clause-fits : goal.returns-clause-fits
returns-clause-fits c =
    let cs = c.args.chunks.now in
    let even = c.loop-lower.invariant.even in
    let below = c.loop-lower.invariant.below in
    let here = ap (λ (z : ChunkState). length z.blocks) c.index-chunks-lower.is ∙ ap length (read_blocks cs c.loop-lower.lower c.index-chunks-lower.result (omega arith)) in
    let next = ap (λ (z : ChunkState). length z.blocks) c.index-chunks-lower-in-loop-lower.is ∙ ap length (read_blocks cs (c.loop-lower.lower + 1) c.index-chunks-lower-in-loop-lower.result (omega arith)) in
    omega arith
