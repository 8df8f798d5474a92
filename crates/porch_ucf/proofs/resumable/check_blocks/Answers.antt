use Rattle.std.proofs.Common.{◌≡◌, ◌∙◌, length, slice_get, true, arith}
use Rattle.std.proofs.lemmas.Grind.{common_steps}
use Rattle.std.proofs.lemmas.Option.{gets}
use Rattle.porch_flat.specs.whole.Rewritten.{passes}
use Rattle.porch_ucf.specs.RowFlaws.{is_block}
use Rattle.porch_ucf.proofs.FirstFailing.{passed}
use Rattle.porch_ucf.proofs.resumable.check_blocks.Goals as goal

pub loop-i-preserved : goal.loop-i-preserved
loop-i-preserved c =
    let here : passes (is_block c.args.types.now) (slice_get c.args.blocks.now c.loop-i.i) ≡ true = grind (arith, common_steps, gets) in
    c.loop-i.invariant ∙ passed (λ i. passes (is_block c.args.types.now) (slice_get c.args.blocks.now i)) (length c.args.blocks.now) c.loop-i.i c.loop-i-test.true here
