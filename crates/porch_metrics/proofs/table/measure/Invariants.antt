use Rattle.std.proofs.Common.{◌≡◌, take, length}
use Rattle.porch_metrics.specs.inside.Tables.{AreMeasured}
use Rattle.porch_metrics.proofs.table.measure.Given as goal

abbrev pub invariant-loop-number : goal.invariant-loop-number
invariant-loop-number l = record {
  count : length l.measured.items ≡ l.number;
  first : AreMeasured l.layout (take l.number l.types) l.measured.items;
}
