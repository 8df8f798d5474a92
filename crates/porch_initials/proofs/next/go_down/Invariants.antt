-- Where the way down leads from here, it leads from the start.
use Rattle.std.proofs.Common.{◌≡◌, length}
use Rattle.porch_check.specs.Initialisers.{down_to}
use Rattle.porch_initials.specs.Views.{opens_of, next_at}
use Rattle.porch_initials.proofs.next.go_down.Given as goal

abbrev pub invariant-loop-left : goal.invariant-loop-left
invariant-loop-left l =
    down_to l.left l.fn.is_text l.shapes (next_at l.part (opens_of l.opens.items))
    ≡ down_to (length l.shapes.rows) l.fn.is_text l.shapes (next_at l.initial.part (opens_of l.initial.opens.items))

abbrev pub decreases-loop-left : goal.decreases-loop-left
decreases-loop-left l = l.left
