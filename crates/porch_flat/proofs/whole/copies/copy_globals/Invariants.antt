use Rattle.std.proofs.Common.{◌≡◌, take}
use Rattle.porch_flat.proofs.whole.copies.copy_globals.Given as goal

abbrev pub invariant-loop-g : goal.invariant-loop-g
invariant-loop-g l = l.copy ≡ take l.g-index l.globals
