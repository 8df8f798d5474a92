use Rattle.std.proofs.Common.{◌≡◌, ◌+◌, ◌-◌, max, ◌∙◌, sym, arith}
use Rattle.std.proofs.lemmas.Bool.Decides.{nat_tests}
use Rattle.porch_heap.specs.Blocks.{Stand}
use Rattle.porch_heap.specs.Chunks.{blocks_of}
use Rattle.porch_heap.specs.inside.ChunkRow.{after, widest}
use Rattle.porch_heap.proofs.After.{after_high}
use Rattle.porch_heap.proofs.Places.{longest_widest}
use Rattle.porch_heap.proofs.row.Row.longest_run.Goals as goal

pub overflow_sub-self-inside : goal.overflow_sub-self-inside
overflow_sub-self-inside c =
    let stand : Stand c.self.inside.base (c.self.inside.base + c.args.size) (blocks_of c.self.inside.chunks.items) = rw (← c.self.view_is) at c.requires.stand in
    let behind : c.behind_all-behind.result ≡ after c.self.inside.base (blocks_of c.self.inside.chunks.items) = rw c.as_slice.ensures.value at c.behind_all-behind.ensures.behind in
    rw behind (after_high c.self.inside.base (c.self.inside.base + c.args.size) (blocks_of c.self.inside.chunks.items) stand)

pub returns : goal.returns
returns c =
    let blocks = blocks_of c.self.inside.chunks.items in
    let behind : c.behind_all-behind.result ≡ after c.self.inside.base blocks = rw c.as_slice.ensures.value at c.behind_all-behind.ensures.behind in
    let most : c.widest_of.result ≡ widest c.self.inside.base blocks = rw c.as_slice-2.ensures.value at c.widest_of.ensures in
    let both : c.max.result ≡ max c.widest_of.result (c.self.inside.base + c.args.size - c.behind_all-behind.result) = grind (arith, nat_tests) in
    rw (← c.self.view_is) (both ∙ rw (most, behind) (sym (longest_widest c.self.inside.base (c.self.inside.base + c.args.size) blocks)))
