use Rattle.std.proofs.Common.{◌+◌, take, ap, sym, add-one, ◌∙◌, arith}
use Rattle.std.proofs.lemmas.List.{set-get_or, append-nil, take_all}
use Rattle.porch_heap.specs.Chunks.{blocks_of}
use Rattle.porch_heap.specs.inside.ChunkRow.{blocks_at}
use Rattle.porch_heap.proofs.After.{no_room_left, no_room_right}
use Rattle.porch_heap.proofs.Linked.{linked_blocks, linked_from}
use Rattle.porch_heap.proofs.Ranks.{found_chunk, no_room_chunk}
use Rattle.porch_heap.proofs.chunks.first_seat.Goals as goal

pub first_place-requires-clause-start : goal.first_place-requires-clause-start
first_place-requires-clause-start c =
    let is = rw c.loop-chunk.invariant.same at c.index-chunks-chunk.is in
    let blocks = linked_blocks c.args.chunks.now c.loop-chunk.chunk c.index-chunks-chunk.result c.loop-chunk-test.true is in
    rw (← c.index-chunks-chunk.is, blocks) c.loop-chunk.invariant.index

pub first_place-requires-clause-none : goal.first_place-requires-clause-none
first_place-requires-clause-none c =
    let is = rw c.loop-chunk.invariant.same at c.index-chunks-chunk.is in
    let blocks = linked_blocks c.args.chunks.now c.loop-chunk.chunk c.index-chunks-chunk.result c.loop-chunk-test.true is in
    let from = linked_from c.args.base c.args.chunks.now c.loop-chunk.chunk c.index-chunks-chunk.result c.requires.linked c.loop-chunk-test.true is in
    rw (← c.index-chunks-chunk.is, blocks, from)
    (no_room_right c.args.align c.args.bytes c.args.base (blocks_of (take c.loop-chunk.chunk c.args.chunks.now)) (take c.loop-chunk.index (blocks_at c.args.chunks.now c.loop-chunk.chunk)) c.loop-chunk.invariant.none)

pub returns-in-Some-clause-found : goal.returns-in-Some-clause-found
returns-in-Some-clause-found c =
    let is = rw c.loop-chunk.invariant.same at c.index-chunks-chunk.is in
    let told = c.in-Some.ensures in
    let before = no_room_left c.args.align c.args.bytes c.args.base (blocks_of (take c.loop-chunk.chunk c.args.chunks.now)) (take c.loop-chunk.index (blocks_at c.args.chunks.now c.loop-chunk.chunk)) c.loop-chunk.invariant.none in
    found_chunk c.args.base c.args.chunks.now c.loop-chunk.chunk c.index-chunks-chunk.result c.args.bytes c.args.align c.in-Some.found.index c.in-Some.found.at c.requires.linked c.loop-chunk-test.true is before
    (rw (sym c.index-chunks-chunk.is) at told.found)

pub returns-in-Some-clause-seat : goal.returns-in-Some-clause-seat
returns-in-Some-clause-seat c =
    let is = rw c.loop-chunk.invariant.same at c.index-chunks-chunk.is in
    let told = c.in-Some.ensures in
    let blocks = ap (λ chunk. chunk.blocks) (sym c.index-chunks-chunk.is) ∙ linked_blocks c.args.chunks.now c.loop-chunk.chunk c.index-chunks-chunk.result c.loop-chunk-test.true is in
    rw blocks at told.found.within

pub loop-chunk-preserved : goal.loop-chunk-preserved
loop-chunk-preserved c =
    let is = rw c.loop-chunk.invariant.same at c.index-chunks-chunk.is in
    let told = c.in_default.ensures in
    let before = no_room_left c.args.align c.args.bytes c.args.base (blocks_of (take c.loop-chunk.chunk c.args.chunks.now)) (take c.loop-chunk.index (blocks_at c.args.chunks.now c.loop-chunk.chunk)) c.loop-chunk.invariant.none in
    record {
      same = rw told.same (set-get_or c.loop-chunk.chunks c.loop-chunk.chunk c.index-chunks-chunk.result ∙ c.loop-chunk.invariant.same);
      index = omega arith;
      none = rw (append-nil (blocks_of (take (c.loop-chunk.chunk + 1) c.args.chunks.now)), add-one c.loop-chunk.chunk) (no_room_chunk c.args.base c.args.chunks.now c.loop-chunk.chunk c.index-chunks-chunk.result c.args.bytes c.args.align c.requires.linked c.loop-chunk-test.true is before (rw (sym c.index-chunks-chunk.is) at told.none));
    }

pub returns-clause-none : goal.returns-clause-none
returns-clause-none c =
    let over = c.loop-chunk-test.false in
    let before = no_room_left c.args.align c.args.bytes c.args.base (blocks_of (take c.loop-chunk.chunk c.args.chunks.now)) (take c.loop-chunk.index (blocks_at c.args.chunks.now c.loop-chunk.chunk)) c.loop-chunk.invariant.none in
    rw (take_all c.loop-chunk.chunk c.args.chunks.now (omega arith)) at before
