use Rattle.std.proofs.Common.{◌≡◌, max, add-one, rules}
use Rattle.porch_heap.proofs.Linked.{widest_more}
use Rattle.porch_heap.proofs.chunks.widest_of.Goals as goal

pub loop-chunk-preserved : goal.loop-chunk-preserved
loop-chunk-preserved c =
    let next = widest_more c.args.base c.args.chunks.now c.loop-chunk.chunk-index c.chunk-item.result c.requires c.loop-chunk-test.true c.chunk-item.is in
    let most : c.max-most.result ≡ max c.loop-chunk.most c.widest_gap.result = search rules in
    rw add-one (cc)
