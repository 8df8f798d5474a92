use Rattle.std.proofs.Common.{◌<◌, ◌-◌, length, arith, ◌∙◌}
use Rattle.std.proofs.lemmas.Bool.Decides.{nat_tests}
use Rattle.porch_heap.proofs.Linked.{after_last}
use Rattle.porch_heap.proofs.chunks.behind_all.Goals as goal

pub returns-else-is_empty-clause-behind : goal.returns-else-is_empty-clause-behind
returns-else-is_empty-clause-behind c =
    let some : 0 < length c.args.chunks.now = grind (arith, nat_tests) in
    c.behind.ensures.behind ∙ after_last c.args.base c.args.chunks.now (length c.args.chunks.now - 1) c.index-chunks-chunks.result c.requires.linked (omega arith) (omega arith) c.index-chunks-chunks.is
