use Rattle.std.proofs.Common.{◌≡◌, ◌≤◌, ◌<◌, ◌+◌, length, take, drop, true, arith}
use Rattle.std.specs.Prelude.{insert, is_ok}
use Rattle.porch_heap.specs.inside.Searching.{Divides, Head}
use Rattle.porch_heap.specs.inside.ChunkRow.{after}
use Rattle.porch_heap.proofs.Changes.{stand_insert}
use Rattle.porch_heap.proofs.ChunkKept.{kept_insert}
use Rattle.porch_heap.proofs.chunk.Chunk.insert.Goals as goal

pub width-gap-requires-clause-stand : goal.width-gap-requires-clause-stand
width-gap-requires-clause-stand c =
    let xs = c.self.inside.blocks.items in
    let few : length xs < 128 = rw (← c.self.view_is) at c.requires.room in
    let low : c.self.inside.from ≤ c.args.block.at = rw (← c.self.view_is) at c.requires.low in
    let place : Divides xs c.args.index c.args.block.at c.args.block.bytes = rw (← c.self.view_is) at c.requires.place in
    let len = c.self.inside.blocks.ok.0 in
    let memory = c.self.invariant.1 in
    let done : is_ok c.insert.result ≡ true = c.insert.ensures.succeeds (omega arith) in
    let items : c.insert.new.self.items ≡ insert xs c.args.index c.args.block = rw done at c.insert.ensures.items in
    rw (c.as_slice.ensures.value, items)
    (stand_insert c.self.inside.from _ xs c.args.index c.args.block c.self.invariant.0.stand place.within low place.before place.behind c.requires.high)

pub invariant_of-self : goal.invariant_of-self
invariant_of-self c =
    let xs = c.self.inside.blocks.items in
    let few : length xs < 128 = rw (← c.self.view_is) at c.requires.room in
    let low : c.self.inside.from ≤ c.args.block.at = rw (← c.self.view_is) at c.requires.low in
    let place : Divides xs c.args.index c.args.block.at c.args.block.bytes = rw (← c.self.view_is) at c.requires.place in
    let len = c.self.inside.blocks.ok.0 in
    let memory = c.self.invariant.1 in
    let same = c.insert.ensures.capacity in
    let done : is_ok c.insert.result ≡ true = c.insert.ensures.succeeds (omega arith) in
    let items : c.insert.new.self.items ≡ insert xs c.args.index c.args.block = rw done at c.insert.ensures.items in
    let near : Head (λ b. b.at ≤ after c.self.inside.from (take c.args.index (insert xs c.args.index c.args.block)) + c.width-gap.result) (drop c.args.index (insert xs c.args.index c.args.block)) =
    rw (c.as_slice.ensures.value, items) at c.width-gap.ensures
    in
    let r = c.raised-self-inside.ensures in
    (rw items (kept_insert c.self.inside.from xs c.args.index c.args.block c.width-gap.result c.self.inside.too_large c.raised-self-inside.result c.self.invariant.0 few low place c.requires.high near r.one r.two r.four r.eight), omega arith)
