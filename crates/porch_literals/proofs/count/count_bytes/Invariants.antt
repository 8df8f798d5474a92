use Rattle.std.proofs.Common.{◌≡◌, ◌≤◌, drop}
use Rattle.porch_check.specs.Calls.{in_text}
use Rattle.porch_literals.specs.Directives.{as_mode}
use Rattle.porch_literals.specs.inside.Counts.{counted}
use Rattle.porch_literals.proofs.count.count_bytes.Given as goal

abbrev pub invariant-loop-byte : goal.invariant-loop-byte
invariant-loop-byte l = record {
  few : l.count ≤ l.byte-index;
  same : counted (as_mode l.mode) l.count (drop l.byte-index l.format) ≡ counted in_text 0 l.format;
}
