use Rattle.std.proofs.Common.{◌≡◌, take, drop}
use Rattle.porch_flat_text.specs.inside.Cuts.{with_front, line_of}
use Rattle.porch_flat_text.proofs.cut.first_line.Given as goal

abbrev pub invariant-loop-at : goal.invariant-loop-at
invariant-loop-at l = with_front (take l.at l.text) (line_of (drop l.at l.text)) ≡ line_of l.text
