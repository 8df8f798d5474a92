use Rattle.std.proofs.Common.{◌≡◌, ◌++◌, drop, map}
use Rattle.porch_flat_line.specs.Text.{variable, further_text}
use Rattle.porch_flat_line.proofs.put.put_further_variables.Given as goal

abbrev pub invariant-loop-number : goal.invariant-loop-number
invariant-loop-number l = l.out.items ++ further_text (map variable (drop l.number-index l.variables)) ≡ l.fn.out.items ++ further_text (map variable l.variables)
