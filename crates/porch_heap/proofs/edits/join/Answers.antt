use Rattle.std.proofs.Common.{◌≤◌, ◌+◌, List, length, subst, ap, arith}
use Rattle.porch_heap.specs.Chunks.{ChunkState}
use Rattle.porch_heap.specs.inside.ChunkRow.{blocks_at}
use Rattle.porch_heap.proofs.Joining.{IsPair, pair_next, pair_fits, pair_blocks, pair_linked}
use Rattle.porch_heap.proofs.edits.join.Goals as goal

pair : (c : goal.After-upper-1) → IsPair c.args.base c.args.chunks.now.items c.remove-upper.new.self.items c.loose-lower.result c.index_mut.result.now c.remove-upper.result
pair c = record {
  linked = c.requires.linked;
  within = omega (arith, c.loose-lower.ensures.within, ap length c.as_slice.ensures.value);
  upper = c.remove-upper.ensures.value;
  gone = c.remove-upper.ensures.items;
  lower = c.index_mut.ensures.value;
}

pub append-requires-clause-next : goal.append-requires-clause-next
append-requires-clause-next c = pair_next (pair c)

pub append-requires-clause-room : goal.append-requires-clause-room
append-requires-clause-room c =
    let P : List ChunkState → Type 0 = λ es. length (blocks_at es c.loose-lower.result) + length (blocks_at es (c.loose-lower.result + 1)) ≤ 128 in
    pair_fits (subst P c.as_slice.ensures.value c.loose-lower.ensures.fits) (pair c)

pair_after : (c : goal.Joined-push) → IsPair c.args.base c.args.chunks.now.items c.remove-upper.new.self.items c.loose-lower.result c.index_mut.result.now c.remove-upper.result
pair_after c = record {
  linked = c.requires.linked;
  within = omega (arith, c.loose-lower.ensures.within, ap length c.as_slice.ensures.value);
  upper = c.remove-upper.ensures.value;
  gone = c.remove-upper.ensures.items;
  lower = c.index_mut.ensures.value;
}

pub returns-clause-blocks : goal.returns-clause-blocks
returns-clause-blocks c = pair_blocks c.append.new.self c.append.ensures (pair_after c)

pub returns-clause-linked : goal.returns-clause-linked
returns-clause-linked c = pair_linked c.append.new.self c.append.ensures (pair_after c)
