-- What lies further in is full.
use Rattle.std.proofs.Common.{◌≡◌, ◌≤◌, length, take}
use Rattle.porch_check.specs.Initialisers.{next_in}
use Rattle.porch_initials.specs.Views.{opens_of}
use Rattle.porch_initials.proofs.next.innermost.Given as goal

abbrev pub invariant-loop-left : goal.invariant-loop-left
invariant-loop-left l = record {
  within : l.left ≤ length l.opens;
  same : next_in l.shapes (opens_of (take l.left l.opens)) ≡ next_in l.shapes (opens_of l.opens);
}

abbrev pub decreases-loop-left : goal.decreases-loop-left
decreases-loop-left l = l.left
