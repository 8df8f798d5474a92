use Rattle.std.proofs.Common.{◌<◌, ◌+◌, ◌^◌, get_or, add-one, arith}
use Rattle.std.proofs.lemmas.Bool.Decides.{nat_tests}
use Rattle.porch_heap.specs.declared.block.Block.{Block}
use Rattle.porch_heap.proofs.Lists.{stand_before, stand_high, each_at}
use Rattle.porch_heap.proofs.place.ends_before.Goals as goal

pub overflow_add-result : goal.overflow_add-result
overflow_add-result c =
    let h = each_at (λ (b : Block). b.at + b.bytes < (2 ^ 62)) c.args.live.now c.args.index (record { at = 0; ty = 0; count = 0; bytes = 0 }) (stand_high c.args.from (2 ^ 62) c.args.live.now c.requires.stand) c.requires.within in
    grind arith

pub returns-clause-yes : goal.returns-clause-yes
returns-clause-yes c e =
    let less : (get_or c.args.live.now c.args.index (record { at = 0; ty = 0; count = 0; bytes = 0 })).at + (get_or c.args.live.now c.args.index (record { at = 0; ty = 0; count = 0; bytes = 0 })).bytes < c.args.at = grind (arith, nat_tests) in
    rw add-one (stand_before c.args.from (2 ^ 62) c.args.at c.args.live.now c.args.index (record { at = 0; ty = 0; count = 0; bytes = 0 }) c.requires.stand c.requires.within less)
