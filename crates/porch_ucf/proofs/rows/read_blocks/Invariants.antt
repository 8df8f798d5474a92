use Rattle.std.proofs.Common.{◌≡◌}
use Rattle.porch_ucf.specs.Reading.{blocks_in}
use Rattle.porch_ucf.proofs.rows.read_blocks.Given as goal

abbrev pub invariant-loop-i : goal.invariant-loop-i
invariant-loop-i l = l.rows.items ≡ blocks_in l.text l.frames l.i
