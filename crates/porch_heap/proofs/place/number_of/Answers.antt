use Rattle.std.proofs.Common.{◌≢◌, ◌^◌, take, arith}
use Rattle.porch_heap.specs.declared.block.Block.{Block}
use Rattle.porch_heap.specs.inside.Searching.{EndsBefore}
use Rattle.porch_heap.proofs.Lists.{head_at, each_map, each_parts}
use Rattle.porch_heap.proofs.Changes.{none_begin}
use Rattle.porch_heap.proofs.place.number_of.Goals as goal

pub returns-then-live-index-clause-none : goal.returns-then-live-index-clause-none
returns-then-live-index-clause-none c =
    let d : Block = record { at = 0; ty = 0; count = 0; bytes = 0 } in
    let less = c.if-index-live.false in
    let other = c.if-live-index.true in
    each_parts (λ (b : Block). b.at ≢ c.args.at) c.args.live.now c.index_of-index.result
    (each_map (EndsBefore c.args.at) (λ (b : Block). b.at ≢ c.args.at) (λ b k. omega arith) (take c.index_of-index.result c.args.live.now) c.index_of-index.ensures.before)
    (none_begin c.args.from (2 ^ 62) c.args.at c.args.live.now c.index_of-index.result c.requires.stand c.index_of-index.ensures.here (head_at (λ (b : Block). b.at ≢ c.args.at) c.args.live.now c.index_of-index.result d (omega arith) other))
