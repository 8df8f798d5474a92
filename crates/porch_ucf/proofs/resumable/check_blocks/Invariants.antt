use Rattle.std.proofs.Common.{◌≡◌, ◌-◌, length, slice_get}
use Rattle.porch_flat.specs.whole.Rewritten.{passes}
use Rattle.porch_ucf.specs.FirstFailing.{first_failing}
use Rattle.porch_ucf.specs.RowFlaws.{is_block}
use Rattle.porch_ucf.proofs.resumable.check_blocks.Given as goal

abbrev pub invariant-loop-i : goal.invariant-loop-i
invariant-loop-i l =
    first_failing (λ i. passes (is_block l.types) (slice_get l.blocks i)) 0 (length l.blocks)
    ≡ first_failing (λ i. passes (is_block l.types) (slice_get l.blocks i)) l.i (length l.blocks - l.i)
