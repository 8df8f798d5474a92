use Rattle.std.proofs.Common.{◌≡◌, ◌++◌, drop, map}
use Rattle.porch_flat_line.specs.Text.{operand, further_text}
use Rattle.porch_flat_line.proofs.put.put_operands.Given as goal

abbrev pub invariant-loop-operand : goal.invariant-loop-operand
invariant-loop-operand l = l.out.items ++ further_text (map operand (drop l.operand-index l.operands)) ≡ l.fn.out.items ++ further_text (map operand l.operands)
