use Rattle.std.proofs.Common.{◌+◌, ◌≤◌, length}
use Rattle.porch_flat_text.specs.inside.Reads.{HasRead}
use Rattle.porch_flat_text.proofs.parse.read_lines.Given as goal

abbrev pub invariant-loop-first : goal.invariant-loop-first
invariant-loop-first l = (HasRead l.text l.rest l.line l.draft) × (l.line + length l.rest ≤ length l.text + 1)

abbrev pub decreases-loop-first : goal.decreases-loop-first
decreases-loop-first l = length l.rest
