use Rattle.std.proofs.Common.{◌≡◌, ◌<◌, ◌+◌, ◌-◌, ◌^◌, suc, take, length, sym, arith}
use Rattle.porch_heap.specs.declared.block.Block.{Block}
use Rattle.porch_heap.proofs.Lists.{each_at, stand_high, stand_end}
use Rattle.porch_heap.proofs.After.{after_at, after_high, stand_take}
use Rattle.porch_heap.proofs.place.free_before.Goals as goal

pub overflow_add-result : goal.overflow_add-result
overflow_add-result c =
    let d : Block = record { at = 0; ty = 0; count = 0; bytes = 0 } in
    let within = c.requires.within in
    let some = c.if-index-eq0.false in
    let less : c.args.index - 1 < length c.args.live.now = omega arith in
    let high = each_at (λ (b : Block). b.at + b.bytes < 2 ^ 62) c.args.live.now (c.args.index - 1) d (stand_high c.args.from (2 ^ 62) c.args.live.now c.requires.stand) less in
    grind arith

pub overflow_add-result-else-index-eq0 : goal.overflow_add-result-else-index-eq0
overflow_add-result-else-index-eq0 c =
    let d : Block = record { at = 0; ty = 0; count = 0; bytes = 0 } in
    let within = c.requires.within in
    let some = c.if-index-eq0.false in
    let less : c.args.index - 1 < length c.args.live.now = omega arith in
    let high = each_at (λ (b : Block). b.at + b.bytes < 2 ^ 62) c.args.live.now (c.args.index - 1) d (stand_high c.args.from (2 ^ 62) c.args.live.now c.requires.stand) less in
    grind arith

pub returns-then-index-eq0-clause-small : goal.returns-then-index-eq0-clause-small
returns-then-index-eq0-clause-small c = stand_end c.args.from (2 ^ 62) c.args.live.now c.requires.stand

pub returns-else-index-eq0-clause-free : goal.returns-else-index-eq0-clause-free
returns-else-index-eq0-clause-free c =
    let within = c.requires.within in
    let some = c.if-index-eq0.false in
    let next : suc (c.args.index - 1) ≡ c.args.index = omega arith in
    let at = after_at c.args.from c.args.live.now (c.args.index - 1) (record { at = 0; ty = 0; count = 0; bytes = 0 }) (omega arith) in
    sym (rw next at at)

pub returns-else-index-eq0-clause-small : goal.returns-else-index-eq0-clause-small
returns-else-index-eq0-clause-small c =
    let free = returns-else-index-eq0-clause-free c in
    let high = after_high c.args.from (2 ^ 62) (take c.args.index c.args.live.now) (stand_take c.args.from (2 ^ 62) c.args.live.now c.args.index c.requires.stand) in
    omega arith
