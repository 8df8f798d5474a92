use Rattle.std.proofs.Common.{◌≡◌, ◌++◌, length}
use Rattle.porch_heap.specs.Chunks.{blocks_of}
use Rattle.porch_heap.proofs.blocks.BlocksIterator.next.Given as goal

abbrev pub invariant-loop-self : goal.invariant-loop-self
invariant-loop-self l = l.self-inside.first.now ++ blocks_of l.self-inside.others.now ≡ l.initial.self-inside.first.now ++ blocks_of l.initial.self-inside.others.now

abbrev pub decreases-loop-self : goal.decreases-loop-self
decreases-loop-self l = length l.self-inside.others.now
