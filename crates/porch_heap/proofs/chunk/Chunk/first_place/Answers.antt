use Rattle.porch_heap.specs.inside.ChunkRow.{NoRoom}
use Rattle.porch_heap.proofs.After.{no_room_more}
use Rattle.porch_heap.proofs.chunk.Chunk.first_place.Goals as goal

pub returns-then-at-bytes-clause-none : goal.returns-then-at-bytes-clause-none
returns-then-at-bytes-clause-none c =
    rw (← c.self.view_is)
    (no_room_more c.args.align c.at.result c.args.bytes c.self.inside.from c.self.inside.blocks.items c.if-at-bytes.true (c.at.ensures c.self.inside.from c.self.inside.blocks.items c.self.invariant.0.all_too_large))

pub returns-in-Err-clause-none : goal.returns-in-Err-clause-none
returns-in-Err-clause-none c =
    let none : NoRoom c.args.align c.in-Err.least c.self.inside.from c.self.inside.blocks.items = rw c.as_slice.ensures.value at c.in-Err.ensures.none in
    rw (← c.self.view_is) (no_room_more c.args.align c.in-Err.least c.args.bytes c.self.inside.from c.self.inside.blocks.items c.in-Err.ensures.below none)
