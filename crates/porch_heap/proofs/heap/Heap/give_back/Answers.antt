use Rattle.std.proofs.Common.{◌≡◌, false, true, ◌∙◌, refl}
use Rattle.porch_heap.specs.Blocks.{without, begins}
use Rattle.porch_heap.specs.Chunks.{blocks_of}
use Rattle.porch_heap.specs.inside.ChunkRow.{rank}
use Rattle.porch_heap.proofs.Changes.{without-remove, begins-head, begins-none}
use Rattle.porch_heap.proofs.HeapKept.{removed_keeps}
use Rattle.porch_heap.proofs.Ranks.{rank_within}
use Rattle.porch_heap.proofs.heap.Heap.give_back.Goals as goal

pub invariant_of-self : goal.invariant_of-self
invariant_of-self c =
    let cs = c.self.inside.live.chunks in
    let less = rank_within cs c.in-Some.seat.chunk c.in-Some.seat.index c.in-Some.ensures.found in
    rw (c.remove.ensures.base, c.remove.ensures.blocks, c.lower.ensures)
    (removed_keeps c.self.inside.live.base c.self.inside.bytes (blocks_of cs) c.self.inside.hints (rank cs c.in-Some.seat.chunk c.in-Some.seat.index) c.gap-gap.result.from c.gap-gap.result.bytes c.self.invariant less c.gap-gap.ensures.from (rw c.base.ensures at c.gap-gap.ensures.bytes))

pub returns-in-Some-clause-gone : goal.returns-in-Some-clause-gone
returns-in-Some-clause-gone c =
    let cs = c.self.inside.live.chunks in
    let less = rank_within cs c.in-Some.seat.chunk c.in-Some.seat.index c.in-Some.ensures.found in
    let gone : blocks_of c.remove.new.self.chunks ≡ without c.args.at (blocks_of cs) =
    c.remove.ensures.blocks ∙ without-remove c.self.inside.live.base _ c.args.at (blocks_of cs) (rank cs c.in-Some.seat.chunk c.in-Some.seat.index) c.self.invariant.heap.stand less c.in-Some.ensures.begins
    in
    rw (gone, c.remove.ensures.base, ← c.self.view_is) refl

pub returns-in-Some-clause-valid : goal.returns-in-Some-clause-valid
returns-in-Some-clause-valid c = (invariant_of-self c).heap

pub returns-in-Some-clause-begins : goal.returns-in-Some-clause-begins
returns-in-Some-clause-begins c =
    let cs = c.self.inside.live.chunks in
    let less = rank_within cs c.in-Some.seat.chunk c.in-Some.seat.index c.in-Some.ensures.found in
    let one : begins c.args.at (blocks_of cs) ≡ true = begins-head c.args.at (blocks_of cs) (rank cs c.in-Some.seat.chunk c.in-Some.seat.index) less c.in-Some.ensures.begins in
    rw (← c.self.view_is) (rw one ((λ h. h), (λ h. h)))

pub returns-in-None-clause-begins : goal.returns-in-None-clause-begins
returns-in-None-clause-begins c =
    let none : begins c.args.at (blocks_of c.self.inside.live.chunks) ≡ false = begins-none c.args.at (blocks_of c.self.inside.live.chunks) c.in-None.ensures.none in
    rw (← c.self.view_is) (rw none ((λ h. h), (λ h. h)))
