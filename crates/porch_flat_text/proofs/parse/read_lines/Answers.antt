-- A line that isn't taken.
use Rattle.std.proofs.Common.{arith}
use Rattle.porch_flat_text.proofs.Reading.{stops}
use Rattle.porch_flat_text.proofs.parse.read_lines.Goals as goal

pub returns-then-not-branch-clause-stopped : goal.returns-then-not-branch-clause-stopped
returns-then-not-branch-clause-stopped c =
    stops c.args.text.now c.loop-first.rest.now c.in-Some.first.now c.in-Some.behind.now c.loop-first.line c.loop-first.draft c.take_line.new.draft c.in_ok-take_line.field-0
    c.loop-first.invariant.0 c.in-Some.ensures.found (grind arith) c.in_ok-take_line.ensures
