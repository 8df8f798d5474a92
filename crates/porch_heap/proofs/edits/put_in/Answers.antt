use Rattle.std.proofs.Common.{length, ap, arith}
use Rattle.porch_heap.proofs.Chunked.{chunk_within, read_blocks, chunk_before}
use Rattle.porch_heap.proofs.InChunk.{place_read, come_blocks, come_linked}
use Rattle.porch_heap.proofs.edits.put_in.Goals as goal

pub offset_bounds-chunks-seat : goal.offset_bounds-chunks-seat
offset_bounds-chunks-seat c =
    let less = chunk_within c.args.chunks.now c.args.seat.chunk c.args.seat.index c.requires.seat in
    omega arith

pub bounds-chunks-seat : goal.bounds-chunks-seat
bounds-chunks-seat c = chunk_within c.args.chunks.now c.args.seat.chunk c.args.seat.index c.requires.seat

pub insert-requires-clause-room : goal.insert-requires-clause-room
insert-requires-clause-room c =
    let less = chunk_within c.args.chunks.now c.args.seat.chunk c.args.seat.index c.requires.seat in
    omega (arith, ap length (read_blocks c.args.chunks.now c.args.seat.chunk c.index-chunks-seat.result less))

pub insert-requires-clause-low : goal.insert-requires-clause-low
insert-requires-clause-low c = chunk_before c.args.base c.args.chunks.now c.args.seat.chunk c.args.seat.index c.args.block.at c.args.block.bytes c.index-chunks-seat.result c.requires.linked c.requires.seat c.requires.low c.requires.place

pub insert-requires-clause-place : goal.insert-requires-clause-place
insert-requires-clause-place c = place_read c.args.chunks.now c.args.seat.chunk c.args.seat.index c.args.block.at c.args.block.bytes c.index-chunks-seat.result c.requires.seat c.requires.place

pub returns-clause-blocks : goal.returns-clause-blocks
returns-clause-blocks c = come_blocks c.args.chunks.now c.args.seat.chunk c.args.seat.index c.args.block c.index-chunks-seat.result c.insert.new.self c.requires.seat c.insert.ensures

pub returns-clause-linked : goal.returns-clause-linked
returns-clause-linked c = come_linked c.args.base c.args.chunks.now c.args.seat.chunk c.args.seat.index c.args.block c.index-chunks-seat.result c.insert.new.self c.requires.linked c.requires.seat c.requires.low c.requires.place c.requires.high c.insert.ensures
