use Rattle.std.proofs.Common.{true, ◌≡◌, ◌∙◌, length, ap, arith}
use Rattle.std.specs.Prelude.{is_ok}
use Rattle.porch_heap.specs.Chunks.{ChunkState}
use Rattle.porch_heap.proofs.Chunked.{chunk_within, read_blocks}
use Rattle.porch_heap.proofs.Halves.{IsSplit, split_blocks, split_linked, split_lower, split_upper, split_rank, split_next}
use Rattle.porch_heap.proofs.edits.split.Goals as goal

pub index_mut-requires : goal.index_mut-requires
index_mut-requires c =
    let v = c.args.chunks.now in
    let less = chunk_within v.items c.args.seat.chunk c.args.seat.index c.requires.seat in
    omega (arith, v.ok.0)

pub split-requires : goal.split-requires
split-requires c =
    let v = c.args.chunks.now in
    let less = chunk_within v.items c.args.seat.chunk c.args.seat.index c.requires.seat in
    record { full = ap (λ (z : ChunkState). length z.blocks) c.index_mut.ensures.value ∙ ap length (read_blocks v.items c.args.seat.chunk c.index_mut.result.now less) ∙ c.requires.full }

pub overflow_add-seat : goal.overflow_add-seat
overflow_add-seat c =
    let v = c.args.chunks.now in
    let less = chunk_within v.items c.args.seat.chunk c.args.seat.index c.requires.seat in
    omega (arith, v.ok.0)

pub insert-requires : goal.insert-requires
insert-requires c =
    let v = c.args.chunks.now in
    let less = chunk_within v.items c.args.seat.chunk c.args.seat.index c.requires.seat in
    omega (arith, v.ok.0)

pub overflow_add-result : goal.overflow_add-result
overflow_add-result c =
    let v = c.args.chunks.now in
    let less = chunk_within v.items c.args.seat.chunk c.args.seat.index c.requires.seat in
    omega (arith, v.ok.0)

halves-then : (c : goal.Then-seat-lt-HALF) → IsSplit c.args.chunks.now.items c.insert.new.self.items c.args.seat.chunk c.index_mut.result.now c.split.new.self c.split.new.upper
halves-then c =
    let done : is_ok c.insert.result ≡ true = c.insert.ensures.succeeds c.requires.memory in
    record {
      within = chunk_within c.args.chunks.now.items c.args.seat.chunk c.args.seat.index c.requires.seat;
      read = c.index_mut.ensures.value;
      full = c.requires.full;
      lower = c.split.ensures.lower;
      upper = c.split.ensures.upper;
      after_it = rw done at c.insert.ensures.items;
    }

halves-else : (c : goal.After-struct_known-else-seat-lt-HALF-2-1) → IsSplit c.args.chunks.now.items c.insert.new.self.items c.args.seat.chunk c.index_mut.result.now c.split.new.self c.split.new.upper
halves-else c =
    let done : is_ok c.insert.result ≡ true = c.insert.ensures.succeeds c.requires.memory in
    record {
      within = chunk_within c.args.chunks.now.items c.args.seat.chunk c.args.seat.index c.requires.seat;
      read = c.index_mut.ensures.value;
      full = c.requires.full;
      lower = c.split.ensures.lower;
      upper = c.split.ensures.upper;
      after_it = rw done at c.insert.ensures.items;
    }

pub returns-then-seat-lt-HALF-clause-blocks : goal.returns-then-seat-lt-HALF-clause-blocks
returns-then-seat-lt-HALF-clause-blocks c = split_blocks (halves-then c)

pub returns-then-seat-lt-HALF-clause-linked : goal.returns-then-seat-lt-HALF-clause-linked
returns-then-seat-lt-HALF-clause-linked c = split_linked c.args.base c.requires.linked (halves-then c)

pub returns-else-seat-lt-HALF-clause-blocks : goal.returns-else-seat-lt-HALF-clause-blocks
returns-else-seat-lt-HALF-clause-blocks c = split_blocks (halves-else c)

pub returns-else-seat-lt-HALF-clause-linked : goal.returns-else-seat-lt-HALF-clause-linked
returns-else-seat-lt-HALF-clause-linked c = split_linked c.args.base c.requires.linked (halves-else c)

pub returns-then-seat-lt-HALF-clause-seat : goal.returns-then-seat-lt-HALF-clause-seat
returns-then-seat-lt-HALF-clause-seat c = let e = split_lower (halves-then c) in omega arith

pub returns-then-seat-lt-HALF-clause-room : goal.returns-then-seat-lt-HALF-clause-room
returns-then-seat-lt-HALF-clause-room c = let e = split_lower (halves-then c) in omega arith

pub returns-then-seat-lt-HALF-clause-rank : goal.returns-then-seat-lt-HALF-clause-rank
returns-then-seat-lt-HALF-clause-rank c = split_rank c.args.seat.index (halves-then c)

pub returns-else-seat-lt-HALF-clause-seat : goal.returns-else-seat-lt-HALF-clause-seat
returns-else-seat-lt-HALF-clause-seat c =
    let e = split_upper (halves-else c) in
    let seat = c.requires.seat in
    let full = c.requires.full in
    omega arith

pub returns-else-seat-lt-HALF-clause-room : goal.returns-else-seat-lt-HALF-clause-room
returns-else-seat-lt-HALF-clause-room c = let e = split_upper (halves-else c) in omega arith

pub returns-else-seat-lt-HALF-clause-rank : goal.returns-else-seat-lt-HALF-clause-rank
returns-else-seat-lt-HALF-clause-rank c = split_next c.args.seat.index c.if-seat-lt-HALF.false (halves-else c)
