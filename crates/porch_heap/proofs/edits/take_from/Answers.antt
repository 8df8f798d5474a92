use Rattle.std.proofs.Common.{◌∙◌, length, length-set, ap, arith}
use Rattle.porch_heap.specs.Chunks.{blocks_of}
use Rattle.porch_heap.proofs.Chunked.{chunk_within, read_blocks}
use Rattle.porch_heap.proofs.InChunk.{go_blocks, go_linked, go_low}
use Rattle.porch_heap.proofs.edits.take_from.Goals as goal

pub offset_bounds-chunks-seat : goal.offset_bounds-chunks-seat
offset_bounds-chunks-seat c =
    let less = chunk_within c.args.chunks.now c.args.seat.chunk c.args.seat.index c.requires.seat in
    omega arith

pub bounds-chunks-seat : goal.bounds-chunks-seat
bounds-chunks-seat c = chunk_within c.args.chunks.now c.args.seat.chunk c.args.seat.index c.requires.seat

pub remove-requires : goal.remove-requires
remove-requires c =
    let less = chunk_within c.args.chunks.now c.args.seat.chunk c.args.seat.index c.requires.seat in
    let same = ap length (read_blocks c.args.chunks.now c.args.seat.chunk c.index-chunks-seat.result less) in
    let seat = c.requires.seat in
    record { within = omega arith }

pub offset_bounds-chunks-seat-2 : goal.offset_bounds-chunks-seat-2
offset_bounds-chunks-seat-2 c =
    let less = chunk_within c.args.chunks.now c.args.seat.chunk c.args.seat.index c.requires.seat in
    omega arith

pub bounds-chunks-seat-2 : goal.bounds-chunks-seat-2
bounds-chunks-seat-2 c =
    let less = chunk_within c.args.chunks.now c.args.seat.chunk c.args.seat.index c.requires.seat in
    omega (arith, length-set c.args.chunks.now c.args.seat.chunk c.remove.new.self)

pub overflow_add-seat : goal.overflow_add-seat
overflow_add-seat c =
    let less = chunk_within c.args.chunks.now c.args.seat.chunk c.args.seat.index c.requires.seat in
    omega arith

pub begin_at-requires-clause-low : goal.begin_at-requires-clause-low
begin_at-requires-clause-low c = go_low c.args.base c.args.chunks.now c.args.seat.chunk c.args.seat.index c.behind-behind.result c.index-chunks-seat.result c.index-chunks-seat-2.result c.remove.new.self c.requires.linked c.requires.seat c.remove.ensures c.behind-behind.ensures.behind

pub returns-clause-blocks : goal.returns-clause-blocks
returns-clause-blocks c =
    ap blocks_of c.begin_at.ensures
    ∙ go_blocks c.args.chunks.now c.args.seat.chunk c.args.seat.index _ c.behind-behind.result c.index-chunks-seat.result c.remove.new.self c.requires.seat c.remove.ensures

pub returns-clause-linked : goal.returns-clause-linked
returns-clause-linked c = go_linked c.args.base c.args.chunks.now c.begin_at.new.chunks c.args.seat.chunk c.args.seat.index c.behind-behind.result c.index-chunks-seat.result c.index-chunks-seat-2.result c.remove.new.self c.requires.linked c.requires.seat c.requires.others c.remove.ensures c.behind-behind.ensures.behind c.begin_at.ensures
