use Rattle.std.proofs.Common.{◌≡◌, ◌-◌, ◌≤◌, length, drop}
use Rattle.porch_lex.specs.Literals.{counted_more}
use Rattle.porch_lex.specs.Gaps.{comment_length}
use Rattle.porch_lex.proofs.gap.comment_length.Given as goal

-- No comment ends before this place.
abbrev pub invariant-loop-at : goal.invariant-loop-at
invariant-loop-at l =
    (l.at ≤ length l.text) × (comment_length l.text ≡ counted_more l.at (comment_length (drop l.at l.text)))

abbrev pub decreases-loop-at : goal.decreases-loop-at
decreases-loop-at l = length l.text - l.at
