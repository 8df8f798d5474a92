use Rattle.std.proofs.Common.{◌≡◌, length, drop, true, arith, ap, length-drop, refl}
use Rattle.std.specs.Prelude.{is_ok}
use Rattle.std.proofs.lemmas.List.{take_rest}
use Rattle.porch_heap.proofs.ChunkKept.{kept_take, kept_drop}
use Rattle.porch_heap.proofs.chunk.Chunk.split.Goals as goal

pub invariant_of-self : goal.invariant_of-self
invariant_of-self c =
    let memory = c.self.invariant.1 in
    let same = c.truncate.ensures.capacity in
    (rw c.truncate.ensures.items (kept_take c.self.inside.from c.self.inside.blocks.items 64 c.self.inside.too_large c.self.invariant.0 (omega arith)), omega arith)

pub invariant_of-upper : goal.invariant_of-upper
invariant_of-upper c =
    let xs = c.self.inside.blocks.items in
    let memory = c.upper.invariant.1 in
    let cleared = c.clear.ensures.capacity in
    let none = c.clear.ensures.len in
    let same = c.extend_from_slice.ensures.capacity in
    let full : length xs ≡ 128 = rw (← c.self.view_is) at c.requires.full in
    let rest = length-drop 64 c.as_slice.result.now in
    let all = ap length c.as_slice.ensures.value in
    let done : is_ok c.extend_from_slice.result ≡ true = c.extend_from_slice.ensures.succeeds (omega arith) in
    let items : c.extend_from_slice.new.self.items ≡ drop 64 xs = rw (done, c.clear.ensures.items, c.as_slice.ensures.value, take_rest xs 64) at c.extend_from_slice.ensures.items in
    (rw (items, c.free_before-upper-inside.ensures.free, c.as_slice-2.ensures.value) (kept_drop c.self.inside.from xs 64 c.self.inside.too_large c.self.invariant.0), omega arith)

pub returns-clause-upper : goal.returns-clause-upper
returns-clause-upper c =
    let xs = c.self.inside.blocks.items in
    let memory = c.upper.invariant.1 in
    let cleared = c.clear.ensures.capacity in
    let none = c.clear.ensures.len in
    let full : length xs ≡ 128 = rw (← c.self.view_is) at c.requires.full in
    let rest = length-drop 64 c.as_slice.result.now in
    let all = ap length c.as_slice.ensures.value in
    let done : is_ok c.extend_from_slice.result ≡ true = c.extend_from_slice.ensures.succeeds (omega arith) in
    let items : c.extend_from_slice.new.self.items ≡ drop 64 xs = rw (done, c.clear.ensures.items, c.as_slice.ensures.value, take_rest xs 64) at c.extend_from_slice.ensures.items in
    rw (← c.self.view_is, items, c.free_before-upper-inside.ensures.free, c.as_slice-2.ensures.value) refl
