use Rattle.std.proofs.Common.{◌≡◌, ◌<◌, ◌∙◌, ◌++◌, List, length, take, drop, subst, sym, ap, arith}
use Rattle.std.proofs.lemmas.List.{with_items_is}
use Rattle.porch_heap.specs.Chunks.{ChunkState, blocks_of}
use Rattle.porch_heap.specs.inside.ChunkRow.{Linked, begun, blocks_at}
use Rattle.porch_heap.proofs.Chunked.{chunk_within, read_blocks}
use Rattle.porch_heap.proofs.ChunkGone.{IsGone, gone_low, gone_small, gone_linked, gone_blocks}
use Rattle.porch_heap.proofs.edits.take_out.Goals as goal

pub index-requires : goal.index-requires
index-requires c =
    let v = c.args.chunks.now in
    let less = chunk_within v.items c.args.seat.chunk c.args.seat.index c.requires.seat in
    omega (arith, v.ok.0)

pub index-requires-then-len-eq1 : goal.index-requires-then-len-eq1
index-requires-then-len-eq1 c =
    let v = c.args.chunks.now in
    let less = chunk_within v.items c.args.seat.chunk c.args.seat.index c.requires.seat in
    omega (arith, v.ok.0)

pub remove-gone-requires : goal.remove-gone-requires
remove-gone-requires c =
    let v = c.args.chunks.now in
    let less = chunk_within v.items c.args.seat.chunk c.args.seat.index c.requires.seat in
    omega (arith, v.ok.0)

gone : (c : goal.After-as_mut_slice) → IsGone c.args.base c.args.chunks.now.items c.as_mut_slice.result.now c.args.seat.chunk c.from-from.result c.index-then-len-eq1.result.now
gone c = record {
  linked = c.requires.linked;
  within = chunk_within c.args.chunks.now.items c.args.seat.chunk c.args.seat.index c.requires.seat;
  read = c.index-then-len-eq1.ensures;
  begins = c.from-from.ensures;
  gone = c.as_mut_slice.ensures.value ∙ c.remove-gone.ensures.items;
}

pub begin_at-requires-clause-low : goal.begin_at-requires-clause-low
begin_at-requires-clause-low c = gone_low (gone c)

pub begin_at-requires-clause-small : goal.begin_at-requires-clause-small
begin_at-requires-clause-small c = gone_small (gone c)

pub take_from-requires-clause-others : goal.take_from-requires-clause-others
take_from-requires-clause-others c =
    let v = c.args.chunks.now in
    let less = chunk_within v.items c.args.seat.chunk c.args.seat.index c.requires.seat in
    let same = ap (λ (z : ChunkState). length z.blocks) c.index.ensures ∙ ap length (read_blocks v.items c.args.seat.chunk c.index.result.now less) in
    let some = c.requires.seat in
    let long : 1 < length (blocks_at v.items c.args.seat.chunk) = omega (arith, c.len.ensures.len, c.if-len-eq1.false) in
    let P : List ChunkState → Type 0 = λ es. 1 < length (blocks_at es c.args.seat.chunk) in
    subst P (sym c.as_mut_slice-else-len-eq1.ensures.value) long

written : (c : goal.Joined-push) → take c.remove-gone.new.self.len (c.begin_at.new.chunks ++ drop (length c.begin_at.new.chunks) c.remove-gone.new.self.items) ≡ begun c.as_mut_slice.result.now c.args.seat.chunk c.from-from.result
written c = with_items_is c.remove-gone.new.self c.begin_at.new.chunks (c.begin_at.auto.chunks ∙ c.as_mut_slice.ensures.len) ∙ c.begin_at.ensures

pub returns-then-len-eq1-clause-blocks : goal.returns-then-len-eq1-clause-blocks
returns-then-len-eq1-clause-blocks c =
    let v = c.args.chunks.now in
    let less = chunk_within v.items c.args.seat.chunk c.args.seat.index c.requires.seat in
    let same = ap (λ (z : ChunkState). length z.blocks) c.index.ensures ∙ ap length (read_blocks v.items c.args.seat.chunk c.index.result.now less) in
    let last : length (blocks_at v.items c.args.seat.chunk) ≡ 1 = sym same ∙ sym c.len.ensures.len ∙ c.if-len-eq1.true in
    ap blocks_of (written c)
    ∙ gone_blocks v.items c.as_mut_slice.result.now c.args.seat.chunk c.args.seat.index c.from-from.result c.requires.seat last (c.as_mut_slice.ensures.value ∙ c.remove-gone.ensures.items)

pub returns-then-len-eq1-clause-linked : goal.returns-then-len-eq1-clause-linked
returns-then-len-eq1-clause-linked c =
    let P : List ChunkState → Type 0 = λ es. Linked c.args.base es in
    let gone : IsGone c.args.base c.args.chunks.now.items c.as_mut_slice.result.now c.args.seat.chunk c.from-from.result c.index-then-len-eq1.result.now = record {
      linked = c.requires.linked;
      within = chunk_within c.args.chunks.now.items c.args.seat.chunk c.args.seat.index c.requires.seat;
      read = c.index-then-len-eq1.ensures;
      begins = c.from-from.ensures;
      gone = c.as_mut_slice.ensures.value ∙ c.remove-gone.ensures.items;
    } in
    subst P (sym (written c)) (gone_linked gone)
