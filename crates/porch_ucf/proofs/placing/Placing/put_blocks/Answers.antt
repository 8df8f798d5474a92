use Rattle.std.proofs.Common.{rules, ◌∷◌, []}
use Rattle.porch_ucf.specs.declared.image.BlockRow.{BlockRow}
use Rattle.porch_ucf.proofs.Walks.{full_at}
use Rattle.porch_ucf.proofs.placing.Placing.put_blocks.Goals as goal

pub returns-in_err-put-clause-full : goal.returns-in_err-put-clause-full
returns-in_err-put-clause-full c =
    let none : BlockRow = record { ty = 0; count = 0 } in
    let found = full_at c.args.metrics.now.types (λ block. block ∷ []) c.args.blocks.now c.args.self.now c.loop-block.block-index none c.loop-block.self c.args.most _ c.loop-block-test.true c.loop-block.invariant.walked c.in_err-put.ensures.full in
    search (rules, found)
