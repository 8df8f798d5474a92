use Rattle.std.proofs.Common.{◌≤◌, ◌+◌}
use Rattle.porch_heap.specs.inside.Searching.{Head}
use Rattle.porch_heap.proofs.ChunkKept.{kept_begin}
use Rattle.porch_heap.proofs.chunk.Chunk.begin_at.Goals as goal

pub invariant_of-self : goal.invariant_of-self
invariant_of-self c =
    let low : Head (λ b. c.args.from ≤ b.at) c.self.inside.blocks.items = rw (← c.self.view_is) at c.requires.low in
    let near : Head (λ b. b.at ≤ c.args.from + c.width-gap.result) c.self.inside.blocks.items = rw c.as_slice.ensures.value at c.width-gap.ensures in
    let r = c.raised-self-inside.ensures in
    (kept_begin c.self.inside.from c.args.from c.self.inside.blocks.items c.width-gap.result c.self.inside.too_large c.raised-self-inside.result c.self.invariant.0 low c.requires.small near r.one r.two r.four r.eight, c.self.invariant.1)
