use Rattle.std.proofs.Common.{◌≡◌, ◌≤◌, ◌+◌, ◌++◌, length, true, arith, ap}
use Rattle.std.specs.Prelude.{is_ok}
use Rattle.porch_heap.specs.inside.ChunkRow.{after}
use Rattle.porch_heap.proofs.ChunkKept.{kept_append}
use Rattle.porch_heap.proofs.chunk.Chunk.append.Goals as goal

pub invariant_of-self : goal.invariant_of-self
invariant_of-self c =
    let xs = c.self.inside.blocks.items in
    let ys = c.upper.inside.blocks.items in
    let next : c.upper.inside.from ≡ after c.self.inside.from xs = rw (← c.self.view_is, ← c.upper.view_is) at c.requires.next in
    let few : length xs + length ys ≤ 128 = rw (← c.self.view_is, ← c.upper.view_is) at c.requires.room in
    let len = c.self.inside.blocks.ok.0 in
    let other = ap length c.as_slice.ensures.value in
    let memory = c.self.invariant.1 in
    let same = c.extend_from_slice.ensures.capacity in
    let done : is_ok c.extend_from_slice.result ≡ true = c.extend_from_slice.ensures.succeeds (omega arith) in
    let items : c.extend_from_slice.new.self.items ≡ xs ++ ys = rw (done, c.as_slice.ensures.value) at c.extend_from_slice.ensures.items in
    let r = c.joined-self-inside.ensures in
    (rw items (kept_append c.self.inside.from c.upper.inside.from xs ys c.self.inside.too_large c.upper.inside.too_large c.joined-self-inside.result c.self.invariant.0 c.upper.invariant.0 next few r.one r.two r.four r.eight), omega arith)
