use Rattle.std.proofs.Common.{◌≡◌, ◌-◌, ◌≤◌, length, drop}
use Rattle.porch_lex.specs.Literals.{counted_more, string_from}
use Rattle.porch_lex.proofs.literal.string_length.Given as goal

-- What the literal comes to from this place on.
abbrev pub invariant-loop-at : goal.invariant-loop-at
invariant-loop-at l =
    (l.at ≤ length l.text) × (string_from l.text 0 ≡ counted_more l.at (string_from (drop l.at l.text) 0))

abbrev pub decreases-loop-at : goal.decreases-loop-at
decreases-loop-at l = length l.text - l.at
