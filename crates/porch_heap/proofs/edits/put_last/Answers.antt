use Rattle.std.proofs.Common.{◌≡◌, ℕ, ◌-◌, subst, ◌<◌, ◌∷◌, [], ◌∙◌, List, true, false, eqb, sym, ap, arith}
use Rattle.std.specs.Prelude.{is_ok}
use Rattle.std.proofs.lemmas.Bool.Decides.{nat_tests}
use Rattle.porch_heap.specs.declared.block.Block.{Block}
use Rattle.porch_heap.specs.Chunks.{ChunkState, blocks_of}
use Rattle.porch_heap.specs.inside.ChunkRow.{Linked, after}
use Rattle.porch_heap.proofs.After.{after_ends}
use Rattle.porch_heap.proofs.BehindAll.{IsLast, read_twice, alone_linked, more_blocks, last_low, last_place, last_blocks, last_linked}
use Rattle.porch_heap.proofs.edits.put_last.Goals as goal
use Rattle.porch_heap.proofs.edits.put_last.Goals.{then-count-eq0, else-count-eq0}

-- a chunk of the one block
pub insert-requires-clause-low : goal.insert-requires-clause-low
insert-requires-clause-low c =
    let cs = c.args.chunks.now.items in
    let begins = ap (λ (z : ChunkState). z.from) c.begin_at.ensures ∙ c.behind_all.ensures.behind ∙ ap (λ es. after c.args.base (blocks_of es)) c.as_slice.ensures.value in
    let far = after_ends c.args.base c.args.block.at (blocks_of cs) c.requires.low c.requires.before in
    omega arith

alone : (block : Block) (from : ℕ) (a b d : ChunkState) → d ≡ record { from = a.from; blocks = [] } → b ≡ record { from = from; blocks = d.blocks } → (y : ChunkState) → y ≡ record { from = b.from; blocks = block ∷ b.blocks } → y ≡ record { from = from; blocks = block ∷ [] }
alone block from a b d e f y g =
    g
    ∙ ap (λ (z : ChunkState). let s : ChunkState = record { from = z.from; blocks = block ∷ z.blocks } in s) f
    ∙ ap (λ (z : ChunkState). let s : ChunkState = record { from = from; blocks = block ∷ z.blocks } in s) e

pub returns-then-len-eq-CHUNK-clause-blocks : goal.returns-then-len-eq-CHUNK-clause-blocks
returns-then-len-eq-CHUNK-clause-blocks c =
    let done : is_ok c.push.result ≡ true = c.push.ensures.succeeds c.requires.memory in
    let one = alone c.args.block c.behind_all.result c.unwrap-chunk.result c.begin_at.new.self c.clear.new.self c.clear.ensures c.begin_at.ensures c.insert.new.self c.insert.ensures in
    ap blocks_of (rw done at c.push.ensures.items) ∙ more_blocks c.args.chunks.now.items c.insert.new.self c.args.block (ap (λ (z : ChunkState). z.blocks) one)

pub returns-then-len-eq-CHUNK-clause-linked : goal.returns-then-len-eq-CHUNK-clause-linked
returns-then-len-eq-CHUNK-clause-linked c =
    let cs = c.args.chunks.now.items in
    let done : is_ok c.push.result ≡ true = c.push.ensures.succeeds c.requires.memory in
    let one = alone c.args.block c.behind_all.result c.unwrap-chunk.result c.begin_at.new.self c.clear.new.self c.clear.ensures c.begin_at.ensures c.insert.new.self c.insert.ensures in
    let begins : c.behind_all.result ≡ after c.args.base (blocks_of cs) = c.behind_all.ensures.behind ∙ ap (λ es. after c.args.base (blocks_of es)) c.as_slice.ensures.value in
    let far = after_ends c.args.base c.args.block.at (blocks_of cs) c.requires.low c.requires.before in
    let P : List ChunkState → Type 0 = λ es. Linked c.args.base es in
    subst P (sym (rw done at c.push.ensures.items)) (alone_linked c.args.base cs c.args.block c.behind_all.result c.insert.new.self c.requires.linked begins (omega arith) c.requires.high one)

-- the last chunk has room
zero_test : (n : ℕ) → n ≡ 0 → eqb n 0 ≡ true
zero_test n e = grind (arith, nat_tests)

last : (c : goal.After-index_mut) → IsLast c.args.base c.args.chunks.now.items (c.len-count.result - 1) c.args.block c.index_mut.result.now
last c =
    let v = c.args.chunks.now in
    let some : 0 < c.len-count.result =
    elim c.if-count-eq0.branch [
      | then-count-eq0 w ↦ (let e = zero_test c.len-count.result w.if-count-eq0.true in let f : false ≡ true = sym c.if-len-eq-CHUNK.false ∙ w.value-is ∙ e in cc)
      | else-count-eq0 w ↦ (let g = w.if-count-eq0.false in omega arith)
    ] in
    let count = c.len-count.ensures in
    record {
      linked = c.requires.linked;
      last = omega (arith, v.ok.0);
      read = c.index_mut.ensures.value;
      low = c.requires.low;
      before = c.requires.before;
      high = c.requires.high;
    }

last_after : (c : goal.After-chunks-1) → IsLast c.args.base c.args.chunks.now.items (c.len-count.result - 1) c.args.block c.index_mut.result.now
last_after c =
    let v = c.args.chunks.now in
    let some : 0 < c.len-count.result =
    elim c.if-count-eq0.branch [
      | then-count-eq0 w ↦ (let e = zero_test c.len-count.result w.if-count-eq0.true in let f : false ≡ true = sym c.if-len-eq-CHUNK.false ∙ w.value-is ∙ e in cc)
      | else-count-eq0 w ↦ (let g = w.if-count-eq0.false in omega arith)
    ] in
    let count = c.len-count.ensures in
    record {
      linked = c.requires.linked;
      last = omega (arith, v.ok.0);
      read = c.index_mut.ensures.value;
      low = c.requires.low;
      before = c.requires.before;
      high = c.requires.high;
    }

pub insert-requires-else-len-eq-CHUNK-clause-low : goal.insert-requires-else-len-eq-CHUNK-clause-low
insert-requires-else-len-eq-CHUNK-clause-low c = last_low (last c)

pub insert-requires-else-len-eq-CHUNK-clause-place : goal.insert-requires-else-len-eq-CHUNK-clause-place
insert-requires-else-len-eq-CHUNK-clause-place c =
    let l = last c in
    let end = l.last in
    let index = c.len-index.ensures.len ∙ read_twice c.args.chunks.now.items (c.len-count.result - 1) c.index-else-len-eq-CHUNK.result.now c.index_mut.result.now (omega arith) c.index-else-len-eq-CHUNK.ensures l.read in
    last_place c.len-index.result index l

pub returns-else-len-eq-CHUNK-clause-blocks : goal.returns-else-len-eq-CHUNK-clause-blocks
returns-else-len-eq-CHUNK-clause-blocks c =
    let l = last_after c in
    let end = l.last in
    let index = c.len-index.ensures.len ∙ read_twice c.args.chunks.now.items (c.len-count.result - 1) c.index-else-len-eq-CHUNK.result.now c.index_mut.result.now (omega arith) c.index-else-len-eq-CHUNK.ensures l.read in
    last_blocks c.len-index.result c.insert-else-len-eq-CHUNK.new.self index c.insert-else-len-eq-CHUNK.ensures l

pub returns-else-len-eq-CHUNK-clause-linked : goal.returns-else-len-eq-CHUNK-clause-linked
returns-else-len-eq-CHUNK-clause-linked c =
    let l = last_after c in
    let end = l.last in
    let index = c.len-index.ensures.len ∙ read_twice c.args.chunks.now.items (c.len-count.result - 1) c.index-else-len-eq-CHUNK.result.now c.index_mut.result.now (omega arith) c.index-else-len-eq-CHUNK.ensures l.read in
    last_linked c.len-index.result c.insert-else-len-eq-CHUNK.new.self index c.insert-else-len-eq-CHUNK.ensures l
