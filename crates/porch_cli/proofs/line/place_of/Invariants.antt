use Rattle.std.proofs.Common.{◌≡◌, ◌≤◌, ◌+◌, ◌==◌, take, drop, count_by}
use Rattle.porch_cli.specs.Lines.{column_behind}
use Rattle.porch_cli.proofs.line.place_of.Given as goal

abbrev pub invariant-loop-byte : goal.invariant-loop-byte
invariant-loop-byte l = record {
  line : l.line ≡ 1 + count_by (λ c. c == 10) (take l.byte-index l.byte-items);
  line_small : l.line ≤ l.byte-index + 1;
  column : column_behind l.column (drop l.byte-index l.byte-items) ≡ column_behind 1 l.byte-items;
  column_small : l.column ≤ l.byte-index + 1;
}
