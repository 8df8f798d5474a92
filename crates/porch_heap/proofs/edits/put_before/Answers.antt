use Rattle.std.proofs.Common.{◌<◌, ◌∙◌, List, length, subst, sym, ap, arith}
use Rattle.porch_heap.specs.Chunks.{ChunkState}
use Rattle.porch_heap.specs.inside.ChunkRow.{blocks_at}
use Rattle.porch_heap.proofs.Chunked.{chunk_within, read_blocks}
use Rattle.porch_heap.proofs.edits.put_before.Goals as goal

pub index-requires : goal.index-requires
index-requires c =
    let v = c.args.chunks.now in
    let less = chunk_within v.items c.args.seat.chunk c.args.seat.index c.requires.seat in
    omega (arith, v.ok.0)

pub split-half-requires-clause-full : goal.split-half-requires-clause-full
split-half-requires-clause-full c =
    let v = c.args.chunks.now in
    let less = chunk_within v.items c.args.seat.chunk c.args.seat.index c.requires.seat in
    let same = ap (λ (z : ChunkState). length z.blocks) c.index.ensures ∙ ap length (read_blocks v.items c.args.seat.chunk c.index.result.now less) in
    sym same ∙ sym c.len.ensures.len ∙ c.if-len-eq-CHUNK.true

pub put_in-requires-else-len-eq-CHUNK-clause-room : goal.put_in-requires-else-len-eq-CHUNK-clause-room
put_in-requires-else-len-eq-CHUNK-clause-room c =
    let v = c.args.chunks.now in
    let less = chunk_within v.items c.args.seat.chunk c.args.seat.index c.requires.seat in
    let same = ap (λ (z : ChunkState). length z.blocks) c.index.ensures ∙ ap length (read_blocks v.items c.args.seat.chunk c.index.result.now less) in
    let room : length (blocks_at v.items c.args.seat.chunk) < 128 = omega (arith, c.len.ensures.len, c.len.ensures.few, c.if-len-eq-CHUNK.false) in
    let P : List ChunkState → Type 0 = λ es. length (blocks_at es c.args.seat.chunk) < 128 in
    subst P (sym c.as_mut_slice-else-len-eq-CHUNK.ensures.value) room
