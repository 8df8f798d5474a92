use Rattle.std.proofs.Common.{◌≤◌, ◌<◌, ◌+◌, take, drop, length, arith}
use Rattle.std.specs.Prelude.{remove}
use Rattle.porch_heap.specs.inside.Searching.{Head}
use Rattle.porch_heap.specs.inside.ChunkRow.{after}
use Rattle.porch_heap.proofs.Changes.{stand_remove}
use Rattle.porch_heap.proofs.ChunkKept.{kept_remove}
use Rattle.porch_heap.proofs.chunk.Chunk.remove.Goals as goal

pub width-gap-requires-clause-stand : goal.width-gap-requires-clause-stand
width-gap-requires-clause-stand c =
    rw (c.as_slice.ensures.value, c.remove.ensures.items) (stand_remove c.self.inside.from _ c.self.inside.blocks.items c.args.index c.self.invariant.0.stand)

pub invariant_of-self : goal.invariant_of-self
invariant_of-self c =
    let xs = c.self.inside.blocks.items in
    let within : c.args.index < length xs = rw (← c.self.view_is) at c.requires.within in
    let near : Head (λ b. b.at ≤ after c.self.inside.from (take c.args.index (remove xs c.args.index)) + c.width-gap.result) (drop c.args.index (remove xs c.args.index)) =
    rw (c.as_slice.ensures.value, c.remove.ensures.items) at c.width-gap.ensures
    in
    let r = c.raised-self-inside.ensures in
    let memory = c.self.invariant.1 in
    let same = c.remove.ensures.capacity in
    (rw c.remove.ensures.items (kept_remove c.self.inside.from xs c.args.index c.width-gap.result c.self.inside.too_large c.raised-self-inside.result c.self.invariant.0 within near r.one r.two r.four r.eight), omega arith)
